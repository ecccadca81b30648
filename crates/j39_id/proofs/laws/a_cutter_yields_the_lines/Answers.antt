use Rattle.j39_id.proofs.CutLines.{yields_lines, yielded-append, behind_all-append}
use Rattle.j39_id.proofs.laws.a_cutter_yields_the_lines.Goals as goal

pub returns-clause-lines : goal.returns-clause-lines
returns-clause-lines c = yields_lines

pub returns-clause-pieces : goal.returns-clause-pieces
returns-clause-pieces c = yielded-append

pub returns-clause-behind : goal.returns-clause-behind
returns-clause-behind c = behind_all-append

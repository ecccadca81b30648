use Rattle.j39_line_laws.proofs.Possible.{possible_too}
use Rattle.j39_line_laws.proofs.covering.covering_variants_are_possible.Goals as goal

pub returns : goal.returns
returns c = possible_too

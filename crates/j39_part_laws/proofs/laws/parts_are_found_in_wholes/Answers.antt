use Rattle.j39_part_laws.proofs.Findings.{holds_there}
use Rattle.j39_part_laws.proofs.laws.parts_are_found_in_wholes.Goals as goal

pub returns : goal.returns
returns c = holds_there

use Rattle.j39_part_laws.proofs.LoadFindings.{are_found_there}
use Rattle.j39_part_laws.proofs.laws.loads_of_parts_are_found_in_wholes.Goals as goal

pub returns : goal.returns
returns c = are_found_there

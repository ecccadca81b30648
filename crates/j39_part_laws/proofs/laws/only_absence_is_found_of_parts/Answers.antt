use Rattle.j39_part_laws.proofs.ByAbsence.{only_absence_stays}
use Rattle.j39_part_laws.proofs.laws.only_absence_is_found_of_parts.Goals as goal

pub returns : goal.returns
returns c = only_absence_stays

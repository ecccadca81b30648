use Rattle.j39_line_laws.proofs.AbsenceFound.{exactly}
use Rattle.j39_line_laws.proofs.absence.found_by_absence_exactly.Goals as goal

pub returns : goal.returns
returns c = exactly

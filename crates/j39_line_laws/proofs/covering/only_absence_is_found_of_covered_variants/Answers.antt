use Rattle.j39_line_laws.proofs.FoundOfCovering.{only_absence}
use Rattle.j39_line_laws.proofs.covering.only_absence_is_found_of_covered_variants.Goals as goal

pub returns : goal.returns
returns c line v w here there covered of_here of_there = only_absence line v w covered here there of_here of_there

use Rattle.j39_line_laws.proofs.FoundOfCovering.{are_found}
use Rattle.j39_line_laws.proofs.covering.covering_variants_have_what_is_found.Goals as goal

pub returns : goal.returns
returns c line v w here there covered of_here of_there = are_found line v w covered here there of_here of_there

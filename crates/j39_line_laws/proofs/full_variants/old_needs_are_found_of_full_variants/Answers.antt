use Rattle.j39_line_laws.proofs.OldNeeds.{old_found}
use Rattle.j39_line_laws.proofs.full_variants.old_needs_are_found_of_full_variants.Goals as goal

pub returns : goal.returns
returns c = old_found

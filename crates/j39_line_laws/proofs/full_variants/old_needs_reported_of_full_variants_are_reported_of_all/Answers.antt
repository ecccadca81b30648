use Rattle.j39_line_laws.proofs.OldNeeds.{old_reported}
use Rattle.j39_line_laws.proofs.full_variants.old_needs_reported_of_full_variants_are_reported_of_all.Goals as goal

pub returns : goal.returns
returns c = old_reported

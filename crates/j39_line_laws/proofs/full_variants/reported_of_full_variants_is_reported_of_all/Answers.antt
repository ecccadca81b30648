use Rattle.j39_line_laws.proofs.FoundOfFull.{reported_of_all}
use Rattle.j39_line_laws.proofs.full_variants.reported_of_full_variants_is_reported_of_all.Goals as goal

pub returns : goal.returns
returns c = reported_of_all

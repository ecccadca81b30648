use Rattle.j39_line_laws.proofs.OldNeeds.{has_full_for_need}
use Rattle.j39_line_laws.proofs.full_variants.each_variant_has_a_full_cover_for_a_need.Goals as goal

pub returns : goal.returns
returns c = has_full_for_need

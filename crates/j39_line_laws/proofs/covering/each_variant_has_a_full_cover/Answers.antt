use Rattle.j39_line_laws.proofs.FullCovers.{has_full_cover}
use Rattle.j39_line_laws.proofs.covering.each_variant_has_a_full_cover.Goals as goal

pub returns : goal.returns
returns c = has_full_cover

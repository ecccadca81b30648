use Rattle.j39_variants.proofs.Searching.{one_first}
use Rattle.j39_variants.proofs.laws.one_variant_is_the_first.Goals as goal

pub returns : goal.returns
returns c = one_first

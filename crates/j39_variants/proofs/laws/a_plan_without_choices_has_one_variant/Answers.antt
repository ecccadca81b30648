use Rattle.j39_variants.proofs.OnePlans.{one_plan}
use Rattle.j39_variants.proofs.laws.a_plan_without_choices_has_one_variant.Goals as goal

pub returns : goal.returns
returns c = one_plan

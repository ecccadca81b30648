use Rattle.std.proofs.Common.{◌≡◌, Some, List, subst}
use Rattle.std.proofs.lemmas.Option.{none-some}
use Rattle.std.specs.List.{slice_get}
use Rattle.j39_network.specs.declared.plan.need_plan.NeedPlan.{NeedPlan}
use Rattle.j39_findings.proofs.laws.needs.plans_without_needs.Goals as goal

pub returns : goal.returns
returns c = λ plan none n at. absurd (none-some _ (subst (λ (needs : List NeedPlan). slice_get needs n ≡ Some at.value) none at.value_is))

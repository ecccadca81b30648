-- Flows of plans whose groups have one length each.
use Rattle.std.proofs.Common.{◌≡◌, ℕ, zero, suc, ◌&&◌, nat_le, List, [], ◌∷◌, map, All, Option, Some, None, refl, ap, ◌∙◌, subst}
use Rattle.std.specs.List.{slice_get}
use Rattle.std.specs.Option.{option_map_or}
use Rattle.j39_network.proofs.Lengths.{same_length}
use Rattle.j39_search.proofs.Members.{all_at}
use Rattle.j39_network.specs.Lengths.{HasOneLengthEach}
use Rattle.j39_network.specs.declared.plan.Plan.{Plan}
use Rattle.j39_network.specs.declared.plan.flow_plan.FlowPlan.{FlowPlan}
use Rattle.j39_network.specs.declared.plan.group_plan.GroupPlan.{GroupPlan}
use Rattle.j39_world.specs.Flows.{flow_of, HasOneLength, HaveOneLengthEach}
use Rattle.j39_world.specs.declared.flow.Flow.{Flow}

most_in : (groups : List GroupPlan) → All (λ g. g.most ≡ g.length) groups → (i : ℕ) (o : Option GroupPlan) → slice_get groups i ≡ o
    → option_map_or (λ (g : GroupPlan). g.most) o 0 ≡ option_map_or (λ (g : GroupPlan). g.length) o 0
most_in groups one i None is = refl
most_in groups one i (Some g) is = all_at (λ g. g.most ≡ g.length) groups one i g is

one_length : (flow : Flow) → flow.most ≡ flow.length → HasOneLength flow
one_length flow same = (
  same,
  λ bytes. ap (λ (n : ℕ). nat_le flow.length bytes && nat_le bytes n) same ∙ same_length flow.length bytes,
)

one_length_in : (groups : List GroupPlan) → All (λ g. g.most ≡ g.length) groups → (flows : List FlowPlan) (f : ℕ) (flow : Flow)
    → slice_get (map (flow_of groups) flows) f ≡ Some flow → HasOneLength flow
one_length_in groups one [] f flow is = absurd (cc is)
one_length_in groups one (x ∷ flows) zero flow is =
    let same : flow_of groups x ≡ flow = cc is in
    subst HasOneLength same (one_length (flow_of groups x) (most_in groups one x.group (slice_get groups x.group) refl))
one_length_in groups one (x ∷ flows) (suc f) flow is = one_length_in groups one flows f flow is

pub one_length_each : (plan : Plan) → HasOneLengthEach plan → HaveOneLengthEach plan
one_length_each plan one = one_length_in plan.groups.items one plan.flows.items

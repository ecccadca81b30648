-- Of a live plan without findings each end of each flow is alone at its planned address.
use Rattle.std.proofs.Common.{◌≡◌, ℕ, true, All, refl, sym, ap, ◌∙◌, subst, option_map, Option, Some, None}
use Rattle.std.proofs.lemmas.Option.{get_or_from_slice_get, slice_get-map, slice_get_within}
use Rattle.std.specs.List.{slice_get}
use Rattle.j39_findings.specs.Findings.{Clean, IsAloneInPlan}
use Rattle.j39_findings.proofs.CleanLaws.{parts_of}
use Rattle.j39_network.specs.declared.plan.Plan.{Plan}
use Rattle.j39_network.specs.declared.plan.flow_plan.FlowPlan.{FlowPlan}
use Rattle.j39_network.specs.declared.plan.to.To.TheVariants.{One}
use Rattle.j39_world.specs.Flows.{flow_of}
use Rattle.j39_world.specs.LiveEnds.{AreEndsAlone}
use Rattle.j39_network.specs.PlannedUnits.{units_of}
use Rattle.j39_network.specs.Staying.{IsAloneThere}
use Rattle.j39_world.specs.declared.flow.Flow.{Flow}

-- what holds of each planned flow holds of one
pub flow_at : (P : FlowPlan → Type 0) (plan : Plan) → All P plan.flows.items → (f : ℕ) (x : FlowPlan) → slice_get plan.flows.items f ≡ Some x → P x
flow_at P plan all f x is =
    subst P (get_or_from_slice_get plan.flows.items f x x is) (all f x (slice_get_within plan.flows.items f x is))

pub clean_ends_alone : (plan : Plan) → Clean plan → plan.live ≡ true → AreEndsAlone plan
clean_ends_alone plan clean live f flow planned =
    of_flow (slice_get plan.flows.items f) refl (sym (slice_get-map (flow_of plan.groups.items) plan.flows.items f) ∙ planned)
  where
    alone_flow : (x : FlowPlan) → slice_get plan.flows.items f ≡ Some x → flow_of plan.groups.items x ≡ flow
        → IsAloneThere plan.keep_free (units_of plan) flow.sender
        × ((v : ℕ) → flow.to ≡ One v → IsAloneThere plan.keep_free (units_of plan) v)
    alone_flow x is same = (
      subst (λ (g : Flow). IsAloneThere plan.keep_free (units_of plan) g.sender) same
          (flow_at (λ y. IsAloneInPlan plan y.sender) plan ((parts_of plan clean).senders_alone live) f x is).0,
      λ v to. (flow_at (λ y. (r : ℕ) → y.to ≡ One r → IsAloneInPlan plan r) plan ((parts_of plan clean).receivers_alone live) f x is v
          (ap (λ (g : Flow). g.to) same ∙ to)).0,
    )

    of_flow : (o : Option FlowPlan) → slice_get plan.flows.items f ≡ o → option_map (flow_of plan.groups.items) o ≡ Some flow
        → IsAloneThere plan.keep_free (units_of plan) flow.sender
        × ((v : ℕ) → flow.to ≡ One v → IsAloneThere plan.keep_free (units_of plan) v)
    of_flow None is mapped = absurd (cc mapped)
    of_flow (Some x) is mapped = alone_flow x is (cc mapped)

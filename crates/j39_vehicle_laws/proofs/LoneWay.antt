-- The way of a trace that goes over one direct forward: its points, and what has releases of its own there.
use Rattle.std.proofs.Common.{◌≡◌, ℕ, ◌⊎◌, Bool, true, false, if◌then◌else◌, Some, None, refl, sym, ap}
use Rattle.std.proofs.Common.{◌∙◌, subst, inl, inr}
use Rattle.std.proofs.lemmas.Option.{none-some, same_Some}
use Rattle.std.specs.Option.{option_and_then}
use Rattle.j39_network.specs.declared.plan.flow_plan.FlowPlan.{FlowPlan}
use Rattle.j39_network.specs.declared.plan.timing.Timing.{Timing}
use Rattle.j39_vehicle.specs.declared.vehicle.Vehicle.{Vehicle}
use Rattle.j39_vehicle.specs.declared.vehicle.forward.Forward.{Forward}
use Rattle.j39_vehicle_findings.specs.Traces.{goes_on, next_forward}
use Rattle.j39_vehicle_findings.specs.declared.point.FlowAt.{FlowAt}
use Rattle.j39_vehicle_findings.specs.declared.point.Point.{Point}
use Rattle.j39_vehicle_times.specs.Times.{direct_feeder, flow_at, first_input_at, timing_on, unasked_at}
use Rattle.j39_vehicle_times.specs.declared.bus_delays.Delays.{Delays}
use Rattle.j39_vehicle_times.proofs.DecidingTimes.{and_then_some}
use Rattle.j39_vehicle_laws.specs.MessagesSentOn.{IsLoneForward, IsTracedBy}
use Rattle.j39_vehicle_laws.specs.YoungValues.{ComesDirectly, IsOnTheWay, behind_it, by_itself, itself, sent_on}
use Rattle.j39_vehicle_laws.proofs.Feeders.{goes_on_input}

-- a flow that isn't sent only where it is asked for is one of its bus
pub unasked_flow : (v : Vehicle) (x : FlowAt) (flow : FlowPlan) → unasked_at v x ≡ Some flow → flow_at v.buses.items x ≡ Some flow
unasked_flow v x flow is =
    let (timing, timed, rest) = and_then_some (λ (timing : Timing). option_and_then (λ (f : FlowPlan). if f.on_request then None else Some f)
    (flow_at v.buses.items x)) (timing_on v.buses.items x.bus) flow is in
    let (one, its, here) = and_then_some (λ (f : FlowPlan). if f.on_request then None else Some f) (flow_at v.buses.items x) flow rest in
    its ∙ unrequested one flow one.on_request here
  where
    unrequested : (one flow : FlowPlan) (b : Bool) → (if b then None else Some one) ≡ Some flow → Some one ≡ Some flow
    unrequested one flow true is = absurd (none-some flow is)
    unrequested one flow false is = is

-- on the way to such a point there are no others than this and the one of the input
pub two_points : (v : Vehicle) (n : ℕ) (y : FlowAt) (p : Point) (traced : IsTracedBy v n y p) {q : Point} → IsOnTheWay v p q → (q ≡ p) ⊎ (q ≡ traced.from)
two_points v n y p traced itself = inl refl
two_points v n y p traced (behind_it r q m way next on) = elim (two_points v n y p traced way) [
  | inl here ↦
      let same : m ≡ n = same_Some _ _ (sym next ∙ (ap (next_forward v) here ∙ traced.next)) in
      inr (same_Some _ _ (sym on ∙ (ap (λ (z : Point). goes_on v z m) here ∙ (ap (goes_on v p) same ∙ traced.on))))
  | inr there ↦ absurd (none-some m (sym (ap (next_forward v) there ∙ traced.ends) ∙ next))
]

module _ (v : Vehicle) (delays : Delays) (n : ℕ) (forward : Forward) (x y : FlowAt) (within : ℕ) (lone : IsLoneForward v delays n forward x y within) where
  pub from_x : (p : Point) (traced : IsTracedBy v n y p) → traced.from.at ≡ x
  from_x p traced = same_Some _ _ (sym (goes_on_input v p traced.from n forward lone.sends.its traced.on) ∙ lone.sends.input)

  -- what has releases of its own there is the flow of the input
  comes_from : {at : FlowAt} → ComesDirectly v y at → (at ≡ y) ⊎ (at ≡ x)
  comes_from by_itself = inl refl
  comes_from (sent_on at z m comes fed input) = elim (comes_from comes) [
    | inl here ↦
        let one : m ≡ forward = same_Some _ _ (sym fed ∙ (ap (direct_feeder v) here ∙ lone.fed)) in
        inr (same_Some _ _ (sym input ∙ (ap (first_input_at v) one ∙ lone.sends.input)))
    | inr there ↦ absurd (none-some m (sym (ap (direct_feeder v) there ∙ lone.first) ∙ fed))
  ]

  own_of_x : {at : FlowAt} → ComesDirectly v x at → at ≡ x
  own_of_x by_itself = refl
  own_of_x (sent_on at z m comes fed input) = absurd (none-some m (sym (ap (direct_feeder v) (own_of_x comes) ∙ lone.first) ∙ fed))

  pub own_on_way : (p q : Point) (at : FlowAt) → IsTracedBy v n y p → IsOnTheWay v p q → ComesDirectly v q.at at → direct_feeder v at ≡ None → at ≡ x
  own_on_way p q at traced way comes unfed = elim (two_points v n y p traced way) [
    | inl here ↦ elim (comes_from (subst (λ (f : FlowAt). ComesDirectly v f at) (ap (λ (z : Point). z.at) here ∙ traced.of) comes)) [
      | inl is ↦ absurd (none-some forward (sym unfed ∙ (ap (direct_feeder v) is ∙ lone.fed)))
      | inr is ↦ is
    ]
    | inr there ↦ own_of_x (subst (λ (f : FlowAt). ComesDirectly v f at) (ap (λ (z : Point). z.at) there ∙ from_x p traced) comes)
  ]

-- On each bus a message of which nothing is lost is reported, and so from bus to bus.
use Rattle.std.proofs.Common.{◌≡◌, ℕ, zero, suc, List, [], ◌∷◌, ◌++◌, map, true, false, ◌||◌, nat_eq, Some, inl, inr, sym, refl, ap, ◌∙◌, subst}
use Rattle.std.specs.List.{slice_get}
use Rattle.std.specs.Option.{option_map_or}
use Rattle.std.proofs.lemmas.Bool.Decides.{Decides-eqb}
use Rattle.std.proofs.lemmas.Option.{none-some, same_Some}
use Rattle.j39_network.specs.declared.plan.Plan.{Plan}
use Rattle.j39_network.specs.declared.plan.flow_plan.FlowPlan.{FlowPlan}
use Rattle.j39_network.specs.declared.steps.Step.{Step}
use Rattle.j39_world.specs.Arriving.{Answered, ArrivesUnanswered, HasArrivedAnswered, IsAlone}
use Rattle.j39_world.specs.Flows.{flow_of, flows_of}
use Rattle.j39_world.specs.Run.{Run, count_of}
use Rattle.j39_world.specs.SentArriving.{SentFramesArrive}
use Rattle.j39_world.specs.Sound.{reported, reported_alone}
use Rattle.j39_world.specs.Transfers.{Begun, is_among}
use Rattle.j39_world.specs.TransferSteps.{outgoing}
use Rattle.j39_world.specs.World.{World, all_off}
use Rattle.j39_run_laws.proofs.Reports.SenderSteps.{among_one}
use Rattle.j39_vehicle.specs.declared.vehicle.Vehicle.{Vehicle}
use Rattle.j39_vehicle.specs.declared.vehicle.bus_plan.BusPlan.{BusPlan}
use Rattle.j39_vehicle_laws.specs.HandedOn.{HasMessage}
use Rattle.j39_vehicle_laws.specs.Passing.{CrossesBus, IsPassedOn, WasReportedIn, IsSpared, IsSparedAlone, IsSparedAnswered, at_first, by_gateway}
use Rattle.j39_vehicle_laws.specs.BusRuns.{WasHeard, BusMessage, IsOfType, flow_on_bus}

-- what holds in each world of each run of each plan of the messages of which nothing is lost
pub record MessagesArrive : Type 0 where
  pub unanswered : (plan : Plan) (steps : List Step) (w : World) → Run plan all_off steps w → ArrivesUnanswered plan w
  pub answered : (plan : Plan) (steps : List Step) (w : World) → Run plan all_off steps w
      → (m : Answered plan w) → IsAlone plan w m → HasArrivedAnswered plan w m
  pub alone : (plan : Plan) (steps : List Step) (w : World) → Run plan all_off steps w → SentFramesArrive plan w

-- ---- lists

mapped_at : {A B : Type 0} (f : A → B) (xs : List A) (i : ℕ) (x : A) → slice_get xs i ≡ Some x → slice_get (map f xs) i ≡ Some (f x)
mapped_at f [] i x is = absurd (none-some _ is)
mapped_at f (y ∷ ys) zero x is = ap (λ z. Some (f z)) (same_Some _ _ is)
mapped_at f (y ∷ ys) (suc i) x is = mapped_at f ys i x is

itself_among : (v : ℕ) → is_among (v ∷ []) v ≡ true
itself_among v = let same : nat_eq v v ≡ true = (Decides-eqb v v).1 refl in ap (λ b. b || false) same

-- what is heard last is heard
last_heard : (reports earlier : List Begun) (flow : ℕ) (bytes : List ℕ) → reports ≡ earlier ++ record { flow = flow; bytes = bytes } ∷ []
    → HasMessage reports flow bytes
last_heard reports earlier flow bytes is = record { earlier = earlier; later = []; at = is }

-- ---- on one bus

flow_there : (plan : Plan) (f : ℕ) (flow : FlowPlan) → slice_get plan.flows.items f ≡ Some flow
    → slice_get (flows_of plan) f ≡ Some (flow_of plan.groups.items flow)
flow_there plan f flow is = mapped_at (flow_of plan.groups.items) plan.flows.items f flow is

-- the same world, units, flow and bytes
moved : (w x : World) (u t v s f g : ℕ) (bytes same : List ℕ) → w ≡ x → u ≡ t → v ≡ s → f ≡ g → bytes ≡ same → WasHeard w u v f bytes → WasHeard x t s g same
moved w x u t v s f g bytes same w_is u_is v_is f_is bytes_are heard =
    subst (λ b. WasHeard x t s g b) bytes_are (subst (λ n. WasHeard x t s n bytes) f_is (subst (λ n. WasHeard x t n f bytes) v_is
    (subst (λ n. WasHeard x n v f bytes) u_is (subst (λ y. WasHeard y u v f bytes) w_is heard))))

heard_unanswered : (plan : Plan) (w after : World) → ArrivesUnanswered plan w → (f : ℕ) (flow : FlowPlan) (v : ℕ) (bytes : List ℕ)
    → slice_get plan.flows.items f ≡ Some flow → IsSpared plan f (flow_of plan.groups.items flow) v bytes w after → WasHeard after flow.sender v f bytes
heard_unanswered plan w after arrives f flow v bytes is s =
    let planned = flow_of plan.groups.items flow in
    let meant : (x : ℕ) → is_among (v ∷ []) x ≡ true → is_among (outgoing (count_of plan) w.stations f planned bytes).targets x ≡ true =
    λ x among. subst (λ y. is_among (outgoing (count_of plan) w.stations f planned bytes).targets y ≡ true) (sym (among_one v x among)) s.among in
    let arrived = arrives f planned bytes (v ∷ []) s.steps after (flow_there plan f flow is) s.unanswered s.allowed meant s.runs s.through in
    inl (last_heard (reported after.reports v flow.sender) (reported w.reports v flow.sender) f bytes (arrived.reports v (itself_among v)))

heard_answered : (plan : Plan) (w after : World) → ((m : Answered plan w) → IsAlone plan w m → HasArrivedAnswered plan w m)
    → (f : ℕ) (flow : FlowPlan) (v : ℕ) (bytes : List ℕ) → slice_get plan.flows.items f ≡ Some flow → IsSparedAnswered plan f v bytes w after
    → WasHeard after flow.sender v f bytes
heard_answered plan w after arrives f flow v bytes is s =
    let m = s.message.passage in
    let arrived = arrives s.message s.alone in
    let sender : m.flow.sender ≡ flow.sender =
    ap (λ x. x.sender) (same_Some _ _ (sym m.planned ∙ ap (slice_get (flows_of plan)) s.place_is ∙ flow_there plan f flow is)) in
    let heard : WasHeard m.after m.flow.sender m.receiver m.place m.bytes =
    inl (last_heard (reported m.after.reports m.receiver m.flow.sender) (reported w.reports m.receiver m.flow.sender) m.place m.bytes
    (arrived.reports m.receiver (itself_among m.receiver))) in
    moved m.after after m.flow.sender flow.sender m.receiver v m.place f m.bytes bytes s.after_is sender s.receiver_is s.place_is s.bytes_are heard

heard_alone : (plan : Plan) (w after : World) → SentFramesArrive plan w → (f : ℕ) (flow : FlowPlan) (v : ℕ) (bytes : List ℕ)
    → slice_get plan.flows.items f ≡ Some flow → IsSparedAlone plan f v bytes w after → WasHeard after flow.sender v f bytes
heard_alone plan w after arrives f flow v bytes is s =
    let m = s.frame.passage in
    let arrived = arrives s.frame in
    let sender : m.flow.sender ≡ flow.sender =
    ap (λ x. x.sender) (same_Some _ _ (sym m.planned ∙ ap (slice_get (flows_of plan)) s.place_is ∙ flow_there plan f flow is)) in
    let heard : WasHeard m.after m.flow.sender m.receiver m.place m.bytes =
    inr (record { earlier = reported_alone w.reports m.receiver m.flow.sender ++ arrived.earlier; later = arrived.later; at = arrived.reports }) in
    moved m.after after m.flow.sender flow.sender m.receiver v m.place f m.bytes bytes s.after_is sender s.receiver_is s.place_is s.bytes_are heard

-- the flows of the boxes are those of the plan
same_flows : (plan boxes : Plan) → IsOfType plan boxes → boxes.flows.items ≡ plan.flows.items
same_flows plan boxes (inl is) = ap (λ p. p.flows.items) is
same_flows plan boxes (inr is) = is.flows

delivered : (v : Vehicle) → MessagesArrive → (m : BusMessage) (after : World) → CrossesBus v m after → WasReportedIn v m after
delivered v arrive m after d =
    let its : slice_get d.boxes.flows.items m.point.at.flow ≡ Some d.flow =
    ap (λ fs. slice_get fs m.point.at.flow) (same_flows d.bus.plan d.boxes d.kind) ∙ d.flow_is in
    let there : flow_on_bus v m.point.at ≡ Some d.flow =
    ap (λ o. slice_get (option_map_or (λ (bus : BusPlan). bus.plan.flows.items) o []) m.point.at.flow) d.bus_is ∙ d.flow_is in
    let heard : WasHeard after d.flow.sender m.hearer m.point.at.flow m.bytes =
    elim d.spared [
      | inl s ↦ heard_unanswered d.boxes d.world after (arrive.unanswered d.boxes d.steps d.world d.runs) m.point.at.flow d.flow m.hearer m.bytes its s
      | inr (inl s) ↦ heard_answered d.boxes d.world after (arrive.answered d.boxes d.steps d.world d.runs) m.point.at.flow d.flow m.hearer m.bytes its s
      | inr (inr s) ↦ heard_alone d.boxes d.world after (arrive.alone d.boxes d.steps d.world d.runs) m.point.at.flow d.flow m.hearer m.bytes its s
    ] in
    record { flow = d.flow; flow_is = there; so = heard }

-- ---- from bus to bus

pub passed : (v : Vehicle) → MessagesArrive → (m : BusMessage) (after : World) → IsPassedOn v m after → WasReportedIn v m after
passed v arrive m after (at_first x w ends d) = delivered v arrive x w d
passed v arrive m after (by_gateway x k place n before w next its behind hearer came begins) =
    delivered v arrive x w (begins (passed v arrive k before came))

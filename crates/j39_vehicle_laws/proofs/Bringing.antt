-- From forward to forward: what a message brings from its origin.
use Rattle.std.proofs.Common.{◌≡◌, ℕ, zero, suc, ◌==◌, ◌≤◌, List, [], length, Bool, true, Option, Some, None, inl, inr, sym, refl, ap, ◌∙◌, subst}
use Rattle.std.specs.Prelude.{ℤ}
use Rattle.std.specs.List.{slice_get}
use Rattle.std.specs.Option.{option_and_then, option_map_or}
use Rattle.std.proofs.lemmas.Bool.{and_parts, false≢true, leb-true}
use Rattle.std.proofs.lemmas.Bool.Decides.{Decides-eqb}
use Rattle.std.proofs.lemmas.Option.{none-some, same_Some}
use Rattle.j39_signal.specs.Parts.{IsDivisor}
use Rattle.j39_signal.specs.declared.signal_parts.SignalParts.{SignalParts}
use Rattle.j39_signal.specs.declared.state.State.TheVariants.{Value}
use Rattle.j39_network.specs.declared.plan.Plan.{Plan}
use Rattle.j39_network.specs.declared.plan.flow_plan.FlowPlan.{FlowPlan}
use Rattle.j39_network.specs.declared.plan.group_plan.GroupPlan.{GroupPlan}
use Rattle.j39_network.specs.declared.steps.Step.{Step}
use Rattle.j39_world.specs.Run.{Run}
use Rattle.j39_world.specs.Sound.{AreReportsSound, AreSentFramesSound, reported, reported_alone}
use Rattle.j39_world.specs.World.{World, all_off}
use Rattle.j39_vehicle.specs.declared.vehicle.Vehicle.{Vehicle}
use Rattle.j39_vehicle.specs.declared.vehicle.bus_plan.BusPlan.{BusPlan}
use Rattle.j39_vehicle.specs.declared.vehicle.forward.Forward.{Forward}
use Rattle.j39_vehicle.specs.declared.vehicle.places.UnitAt.{UnitAt}
use Rattle.j39_vehicle_findings.specs.Buses.{flows_on, group_at}
use Rattle.j39_vehicle_findings.specs.ForwardEnds.{Copies, Feeds}
use Rattle.j39_vehicle_findings.specs.Traces.{behind_forward, goes_on, is_sent_by, next_forward, origin, point_on, trace_end}
use Rattle.j39_vehicle_findings.specs.VehicleFindings.{AreFindings}
use Rattle.j39_vehicle_findings.specs.declared.point.FlowAt.{FlowAt}
use Rattle.j39_vehicle_findings.specs.declared.point.Point.{Point}
use Rattle.j39_vehicle_laws.specs.HandedOn.{AreOneValue}
use Rattle.j39_vehicle_laws.proofs.HandedOn.{among_whole}
use Rattle.j39_vehicle_laws.specs.Carrying.{AreAllCopies, AreAllExact, Brings, BringsAnother, EachForward, GoesBy, another, group_of_point, is_exact, itself}
use Rattle.j39_vehicle_laws.specs.Carrying.{more, none, nothing, signal_at}
use Rattle.j39_vehicle_laws.specs.Faithful.{KeepsContents, signal_of}
use Rattle.j39_vehicle_laws.specs.Reading.{HasNoValue, IsUnset, reading}
use Rattle.j39_vehicle_laws.specs.Unaltered.{WasBegunBy, IsUnaltered, ReadsAsOrigin}
use Rattle.j39_vehicle_laws.specs.BusRuns.{CarriesOne, WasBegun, WasHeard, WasReported, WasSent, BusMessage, VehicleRun, flow_on_bus}
use Rattle.j39_vehicle_laws.proofs.Forwarding.{first_is_input, next_feeds, one_input}
use Rattle.j39_vehicle_laws.proofs.Hops.{behind_at, flow_place, none_over, taken_over, value_or_none}
use Rattle.j39_vehicle_laws.proofs.Places.{one_of_all, parts_of, passed_of}
use Rattle.j39_vehicle_laws.proofs.Values.{one_value_passes}

-- ---- what is reported was begun

-- what holds of all runs of all plans
abbrev pub AreRunsSound : Type 0
AreRunsSound = (plan : Plan) (steps : List Step) (w : World) → Run plan all_off steps w → AreReportsSound w × AreSentFramesSound w

sent_if_heard : (w : World) → AreReportsSound w → AreSentFramesSound w → (u v flow : ℕ) (bytes : List ℕ) → WasHeard w u v flow bytes → WasSent w u v flow bytes
sent_if_heard w sound frames u v flow bytes (inl m) =
    inl (among_whole _ (reported w.reports v u) (w.begun u v) (sound.begun v u) m.earlier m.later m.at)
sent_if_heard w sound frames u v flow bytes (inr m) =
    inr (among_whole _ (reported_alone w.reports v u) (w.sent_alone u v) (frames.sent v u) m.earlier m.later m.at)

-- a flow is one of a bus
bus_of : (buses : List BusPlan) (b f : ℕ) (o : Option BusPlan) (flow : FlowPlan) → slice_get buses b ≡ o → slice_get (flows_on buses b) f ≡ Some flow
    → (bus : BusPlan) × (slice_get buses b ≡ Some bus)
bus_of buses b f None flow is its =
    absurd (none-some _ (sym (ap (λ o. slice_get (option_map_or (λ (bus : BusPlan). bus.plan.flows.items) o []) f) is) ∙ its))
bus_of buses b f (Some bus) flow is its = (bus, is)

pub begun_if_reported : (v : Vehicle) → AreRunsSound → (run : VehicleRun v) (m : BusMessage) → WasReported v run.worlds m → WasBegun v run.worlds m
begun_if_reported v sound run m reported =
    let b = m.point.at.bus in
    let (bus, bus_is) = bus_of v.buses.items b m.point.at.flow (slice_get v.buses.items b) reported.flow refl reported.flow_is in
    let (boxes, kind, (steps, runs)) = run.runs b bus bus_is in
    let (reports, frames) = sound boxes steps (run.worlds b) runs in
    record {
      flow = reported.flow;
      flow_is = reported.flow_is;
      so = sent_if_heard (run.worlds b) reports frames reported.flow.sender m.hearer m.point.at.flow m.bytes reported.so;
    }

-- ---- along the trace

-- the message that a message of an output carries is one of the flow by which the trace goes on
abbrev carried : Point → Forward → List ℕ → BusMessage
carried q n bytes = record { point = q; hearer = n.hearer; bytes = bytes }

carried_reported : (v : Vehicle) → AreFindings v [] → (worlds : ℕ → World) (place : ℕ) (n : Forward) → slice_get v.forwards.items place ≡ Some n
    → (signal : Option ℕ) (q : Point) (bytes : List ℕ) → behind_forward v signal n ≡ Some q → (c : CarriesOne v worlds n bytes)
    → WasReported v worlds (carried q n c.before)
carried_reported v clean worlds place n its signal q bytes behind c =
    let (i, first, at) = behind_at v n signal q behind in
    let (flow, flow_is, input) = first_is_input v n i first in
    let one : c.place ≡ i = one_input v clean place n its c.place i c.flow flow c.flow_is flow_is c.input input in
    let there : flow_place n.input.bus c.place ≡ q.at = ap (flow_place n.input.bus) one ∙ at in
    record {
      flow = c.flow;
      flow_is = subst (λ a. flow_on_bus v a ≡ Some c.flow) there c.flow_is;
      so = subst (λ (a : FlowAt). WasHeard (worlds a.bus) c.flow.sender n.hearer a.flow c.before) there c.heard;
    }

-- what the message brings, where its trace has this end
abbrev BringsFrom : (v : Vehicle) → (ℕ → World) → BusMessage → Point → Type 0
BringsFrom v worlds m e =
    (o : Option BusMessage) × Brings v worlds m o × ((x : BusMessage) → o ≡ Some x → (x.point ≡ e) × WasBegun v worlds x)

brings_itself : (v : Vehicle) (worlds : ℕ → World) (m : BusMessage) (e : Point) → next_forward v m.point ≡ None → m.point ≡ e → WasBegun v worlds m
    → BringsFrom v worlds m e
brings_itself v worlds m e ends at begun =
    (Some m, itself m ends begun, λ x is. let same = same_Some _ _ is in (ap (λ y. y.point) (sym same) ∙ at, subst (WasBegun v worlds) same begun))

pub goes_by : (v : Vehicle) (p q : Point) (place : ℕ) (n : Forward) → slice_get v.forwards.items place ≡ Some n → goes_on v p place ≡ Some q
    → behind_forward v p.signal n ≡ Some q
goes_by v p q place n its is = sym (ap (option_and_then (behind_forward v p.signal)) its) ∙ is

brings_none : (v : Vehicle) (worlds : ℕ → World) (m : BusMessage) (n : Forward) (q e : Point) → GoesBy v worlds m n → Feeds v n m.point.at
    → behind_forward v m.point.signal n ≡ Some q → KeepsContents v n None m.bytes → BringsFrom v worlds m e
brings_none v worlds m n q e by feeds behind faithful =
    (None, nothing m n by (record { faithful = faithful; signal = none_over v n m q feeds behind faithful }), λ x is. absurd (none-some _ is))

-- where the trace goes on no more
brings_end : (v : Vehicle) (worlds : ℕ → World) (m : BusMessage) (e : Point) (next : Option ℕ) → next_forward v m.point ≡ next
    → option_map_or (λ n. None) next (Some m.point) ≡ Some e → WasBegun v worlds m → BringsFrom v worlds m e
brings_end v worlds m e None next ends begun = brings_itself v worlds m e next (same_Some _ _ ends) begun
brings_end v worlds m e (Some place) next ends begun = absurd (none-some _ ends)

-- where it goes on by a forward, and what comes from there is known
brings_next : (v : Vehicle) → AreFindings v [] → AreRunsSound → (run : VehicleRun v) (steps : ℕ) (m : BusMessage) (e : Point)
    → ((k : BusMessage) → trace_end v steps k.point ≡ Some e → WasBegun v run.worlds k → BringsFrom v run.worlds k e)
    → (next : Option ℕ) → next_forward v m.point ≡ next
    → option_map_or (λ n. option_and_then (trace_end v steps) (goes_on v m.point n)) next (Some m.point) ≡ Some e
    → WasBegun v run.worlds m → BringsFrom v run.worlds m e
brings_next v clean sound run steps m e known None next ends begun = brings_itself v run.worlds m e next (same_Some _ _ ends) begun
brings_next v clean sound run steps m e known (Some place) next ends begun =
    let (q, on, rest) = parts_of (trace_end v steps) (goes_on v m.point place) e ends in
    let (n, its, feeds) = next_feeds v m.point place next in
    let behind = goes_by v m.point q place n its on in
    let by : GoesBy v run.worlds m n = record { place = place; next = next; its = its; begun = begun } in
    elim (run.carries place n m its feeds begun) [
      | inl c ↦
          let k = carried q n c.before in
          let reported = carried_reported v clean run.worlds place n its m.point.signal q m.bytes behind c in
          let (o, from, ends_there) = known k rest (begun_if_reported v sound run k reported) in
          let carries : BringsAnother v run.worlds m n k = record {
            goes_on = behind;
            hearer = refl;
            reported = reported;
            faithful = c.faithful;
            signal = taken_over v clean place n its m k feeds behind c.faithful;
          } in
          (o, another m k n o by carries from, ends_there)
      | inr faithful ↦ brings_none v run.worlds m n q e by feeds behind faithful
    ]

pub brings : (v : Vehicle) → AreFindings v [] → AreRunsSound → (run : VehicleRun v) (steps : ℕ) (m : BusMessage) (e : Point)
    → trace_end v steps m.point ≡ Some e → WasBegun v run.worlds m → BringsFrom v run.worlds m e
unfolding trace_end
brings v clean sound run zero m e ends begun = brings_end v run.worlds m e (next_forward v m.point) refl ends begun
brings v clean sound run (suc steps) m e ends begun =
    brings_next v clean sound run steps m e (λ k there its. brings v clean sound run steps k e there its) (next_forward v m.point) refl ends begun

-- ---- what holds of each forward of the trace

pub each_here : (v : Vehicle) (P : Option ℕ → Forward → Type 0) (p : Point) (place : ℕ) (n : Forward) → next_forward v p ≡ Some place
    → slice_get v.forwards.items place ≡ Some n → EachForward v P p → P p.signal n
each_here v P p place n next its (none here ends) = absurd (none-some _ (sym ends ∙ next))
each_here v P p place n next its (more here q place_there n_there next_there its_there behind_there holds rest) =
    let same_place : place_there ≡ place = same_Some _ _ (sym next_there ∙ next) in
    let same : n_there ≡ n = same_Some _ _ (sym its_there ∙ ap (slice_get v.forwards.items) same_place ∙ its) in
    subst (P p.signal) same holds

pub each_behind : (v : Vehicle) (P : Option ℕ → Forward → Type 0) (p q : Point) (place : ℕ) (n : Forward) → next_forward v p ≡ Some place
    → slice_get v.forwards.items place ≡ Some n → behind_forward v p.signal n ≡ Some q → EachForward v P p → EachForward v P q
each_behind v P p q place n next its behind (none here ends) = absurd (none-some _ (sym ends ∙ next))
each_behind v P p q place n next its behind (more here q_there place_there n_there next_there its_there behind_there holds rest) =
    let same_place : place_there ≡ place = same_Some _ _ (sym next_there ∙ next) in
    let same : n_there ≡ n = same_Some _ _ (sym its_there ∙ ap (slice_get v.forwards.items) same_place ∙ its) in
    let same_point : q_there ≡ q = same_Some _ _ (sym behind_there ∙ ap (behind_forward v p.signal) same ∙ behind) in
    subst (EachForward v P) same_point rest

-- ---- bytes

pub same_bytes : (v : Vehicle) (worlds : ℕ → World) {m : BusMessage} {o : Option BusMessage} → Brings v worlds m o → AreAllCopies v m.point
    → (x : BusMessage) → o ≡ Some x → m.bytes ≡ x.bytes
same_bytes v worlds (itself m ends begun) all x is = ap (λ y. y.bytes) (same_Some _ _ is)
same_bytes v worlds (nothing m n by carries) all x is = absurd (none-some _ is)
same_bytes v worlds (another m k n o by carries rest) all x is =
    let copy = each_here v (λ signal n. Copies n) m.point by.place n by.next by.its all in
    let onward = each_behind v (λ signal n. Copies n) m.point k.point by.place n by.next by.its carries.goes_on all in
    carries.faithful.copied copy ∙ same_bytes v worlds rest onward x is

-- ---- values

pub divisor_of : (v : Vehicle) (p : Point) (s : SignalParts) → signal_at v p ≡ Some s → 1 ≤ s.per
divisor_of v p s is =
    let (flow, flow_is, rest) = parts_of (λ (flow : FlowPlan). option_and_then (signal_of v (group_of_point p.at.bus flow)) p.signal)
    (flow_on_bus v p.at) s is in
    let (j, signal, there) = parts_of (signal_of v (group_of_point p.at.bus flow)) p.signal s rest in
    let (g, g_is, at) = parts_of (λ (group : GroupPlan). slice_get group.signals.items j) (group_at v.buses.items (group_of_point p.at.bus flow)) s there in
    let divides = one_of_all (λ (s : SignalParts). IsDivisor s.per) g.signals.items j s g.signal_divisors at in
    leb-true 1 s.per (and_parts _ _ divides).0

pub no_value_if_exact : (t : SignalParts) (exact : Bool) (bytes : List ℕ) → exact ≡ true → IsUnset t exact (reading t bytes) → HasNoValue (reading t bytes)
no_value_if_exact t exact bytes is (inl no_value) = no_value
no_value_if_exact t exact bytes is (inr (near, unset)) = absurd (false≢true (sym near ∙ is))

same_value : (a b : ℤ) → Value a ≡ Value b → a ≡ b
same_value a b is = cc

-- what the signal of a message reads whose value is this one, where that of the message that it carries reads as that of the origin
pub reads_on : (v : Vehicle) (m k : BusMessage) (s t : SignalParts) (origin : Option BusMessage) (a b : ℤ) → 1 ≤ s.per
    → reading s k.bytes ≡ Value a → reading t m.bytes ≡ Value b → AreOneValue s a t b → ReadsAsOrigin v k s origin → ReadsAsOrigin v m t origin
reads_on v m k s t origin a b some from is one (inl no_value) = absurd (no_value a from)
reads_on v m k s t origin a b some from is one (inr (o, u, c, d, o_is, u_is, first, last, same)) =
    let d_is : d ≡ a = same_value d a (sym last ∙ from) in
    let one_before : AreOneValue u c s a = subst (AreOneValue u c s) d_is same in
    inr (o, u, c, b, o_is, u_is, first, is, one_value_passes u s t c a b some one_before one)

pub reads_as_origin : (v : Vehicle) (worlds : ℕ → World) {m : BusMessage} {o : Option BusMessage} → Brings v worlds m o
    → AreAllExact v m.point → (t : SignalParts) → signal_at v m.point ≡ Some t → ReadsAsOrigin v m t o
reads_as_origin v worlds (itself m ends begun) all t t_is =
    elim (value_or_none (reading t m.bytes)) [
      | inl (a, is) ↦ inr (m, t, a, a, refl, t_is, is, is, refl)
      | inr no_value ↦ inl no_value
    ]
reads_as_origin v worlds (nothing m n by carries) all t t_is =
    let exact = each_here v (λ signal n. is_exact n signal ≡ true) m.point by.place n by.next by.its all in
    inl (no_value_if_exact t (is_exact n m.point.signal) m.bytes exact (carries.signal t t_is))
reads_as_origin v worlds (another m k n o by carries rest) all t t_is =
    let exact = each_here v (λ signal n. is_exact n signal ≡ true) m.point by.place n by.next by.its all in
    let onward = each_behind v (λ signal n. is_exact n signal ≡ true) m.point k.point by.place n by.next by.its carries.goes_on all in
    elim (carries.signal t t_is) [
      | inl unset ↦ inl (no_value_if_exact t (is_exact n m.point.signal) m.bytes exact unset)
      | inr (s, s_is, (a, b, from, is, inl one)) ↦
          reads_on v m k s t o a b (divisor_of v k.point s s_is) from is one (reads_as_origin v worlds rest onward s s_is)
      | inr (s, s_is, (a, b, from, is, inr (near, stands))) ↦ absurd (false≢true (sym near ∙ exact))
    ]

-- ---- the need

-- the end of a trace is sent by the unit
begun_by : (v : Vehicle) (worlds : ℕ → World) (u : UnitAt) (e : Point) (x : BusMessage) → is_sent_by v u e ≡ true → x.point ≡ e → WasBegun v worlds x
    → WasBegunBy v worlds u x
begun_by v worlds u e x sent at begun =
    let there : is_sent_by v u x.point ≡ true = ap (is_sent_by v u) at ∙ sent in
    let parts = and_parts _ _ there in
    let (flow, flow_is, passes) = passed_of (λ (f : FlowPlan). f.sender == u.unit) (flow_on_bus v x.point.at) parts.1 in
    record {
      begun = begun;
      bus = (Decides-eqb x.point.at.bus u.bus).0 parts.0;
      sender = λ other is. ap (λ f. f.sender) (same_Some _ _ (sym is ∙ flow_is)) ∙ (Decides-eqb flow.sender u.unit).0 passes;
    }

pub unaltered : (v : Vehicle) → AreFindings v [] → AreRunsSound → IsUnaltered v
unaltered v clean sound run d place f flow bytes d_is flow_is needed reported =
    let m : BusMessage = record { point = point_on d.unit.bus f d.signal; hearer = d.unit.unit; bytes = bytes } in
    let (e, e_is, sent) = passed_of (is_sent_by v d.from) (origin v m.point) needed.from in
    let (o, from, ends) = brings v clean sound run (length v.forwards.items) m e e_is (begun_if_reported v sound run m reported) in
    record {
      origin = o;
      brings = from;
      begun = λ x is. let (at, begun) = ends x is in begun_by v run.worlds d.from e x sent at begun;
      bytes = λ all x is. same_bytes v run.worlds from all x is;
      value = λ all t t_is. reads_as_origin v run.worlds from all t t_is;
    }

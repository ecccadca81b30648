-- Where gateways are prompt, what they send on directly keeps to the streams that are planned for it, on buses that keep to their plans otherwise.
use Rattle.std.proofs.Common.{◌≡◌, ◌≢◌, ℕ, zero, suc, ◌+◌, ◌*◌, ◌<◌, ◌≤◌, ◌⊎◌, Bool, true, false, length, is_some, unwrap_or, Option, Some, None, refl, sym, ap}
use Rattle.std.proofs.Common.{◌∙◌, subst, inl, inr, arith}
use Rattle.std.proofs.lemmas.Bool.{cases_Bool, cases_lt, false≢true}
use Rattle.std.proofs.lemmas.Option.{same_Some}
use Rattle.std.specs.Option.{option_and_then, option_map_or}
use Rattle.j39_network.specs.declared.plan.flow_plan.FlowPlan.{FlowPlan}
use Rattle.j39_network.specs.declared.plan.timing.Timing.{Timing}
use Rattle.j39_load.specs.BusTimes.{timing_of}
use Rattle.j39_load.specs.Clocks.{shortest_million}
use Rattle.j39_vehicle_times.specs.BusDelays.{AreDelays, delays_on}
use Rattle.j39_load.specs.Asked.{Asked, asked_of, frames_asked}
use Rattle.j39_load.specs.LoadFindings.{AsksOfBus}
use Rattle.j39_load.proofs.OneLoad.{one_asked}
use Rattle.j39_timing.specs.FrameStreams.{AreOfStreams, KeepsStream}
use Rattle.j39_vehicle_laws.proofs.Clocks.{steady_is}
use Rattle.j39_vehicle_laws.specs.Gateways.{Carrier, IsClock, IsHandedOn, IsIts}
use Rattle.j39_timing.specs.Prefixes.{AreBegunUntil}
use Rattle.j39_timing.specs.Traffic.{IsSingle, Traffic, delay_of}
use Rattle.j39_timing.specs.Waits.{IsSpaced}
use Rattle.j39_vehicle_laws.specs.Vehicles.{Bus, IsKnown, IsPlannedOn, KeepsItsStreams, KeepsItsStreamsUntil}
use Rattle.j39_timing.proofs.Prefixes.{then_is_planned}
use Rattle.j39_vehicle_laws.proofs.Vehicles.{keep_their_streams}
use Rattle.j39_vehicle.specs.declared.vehicle.Vehicle.{Vehicle}
use Rattle.j39_vehicle.specs.declared.vehicle.bus_plan.BusPlan.{BusPlan}
use Rattle.j39_vehicle.specs.declared.vehicle.forward.Forward.{Forward}
use Rattle.j39_vehicle_findings.specs.declared.point.FlowAt.{FlowAt}
use Rattle.j39_vehicle_times.specs.declared.bus_delays.Delays.{Delays}
use Rattle.j39_vehicle_times.specs.TimeFindings.{period_ms}
use Rattle.j39_vehicle_times.specs.Times.{askers_on, behind_at, behind_by, delay_at, direct_feeder, flow_at, first_input_at, jitter_ms, latest_ms, own}
use Rattle.j39_vehicle_times.specs.Times.{queued_of, shortest_on, sum_known, timing_on}
use Rattle.j39_vehicle_times.specs.Times.{us_of_ms, within_of}
use Rattle.j39_vehicle_times.proofs.DecidingTimes.{and_then_some}
use Rattle.j39_vehicle_laws.specs.ForwardedStreams.{AreForwardsTimely, AreOtherwiseKept, AreStreamsKept, IsOtherwiseKept, streams_of}
use Rattle.j39_vehicle_laws.specs.KeptBuses.{AreKeptBuses, IsKnownBus, asked_on}
use Rattle.j39_vehicle_laws.specs.Prompt.{ArePrompt, HaveOwnReleases, IsScope, IsSentDirectly, Scope, scope_on, sent_from}
use Rattle.j39_vehicle_laws.specs.Seen.{SeenBuses, frames_at, longest_bit, of_us}
use Rattle.j39_vehicle_laws.proofs.Behind.{fed_never, fed_parts, unfed_release}
use Rattle.j39_vehicle_laws.proofs.Circle.{IsStated, TimedBus, all_of, at_of, behind_value, behind_with, bounded_here, bus_with, direct_with}
use Rattle.j39_vehicle_laws.proofs.Circle.{is_some_false}
use Rattle.j39_vehicle_laws.proofs.Circle.{is_some_true, late_value, of_bus, owns, period_value, queued_value, single_here, stream_of, streamed}
use Rattle.j39_vehicle_laws.proofs.Circle.{view, viewed, wait_is, wait_with, within_value}
use Rattle.j39_vehicle_laws.proofs.Feeders.{feeder_is}
use Rattle.j39_vehicle_laws.proofs.OneFlow.{delay_here, none_ask, own_of_release, own_parts}
use Rattle.j39_vehicle_laws.proofs.Parts.{some_cases, sum_some}
use Rattle.j39_vehicle_laws.proofs.TrueTimes.{clock_is}
use Rattle.j39_vehicle_laws.proofs.Starts.{starts_within}
use Rattle.j39_vehicle_laws.proofs.Until.{frames_then, with_streams}

-- what comes so long behind its release has a time of its own
behind_own : (v : Vehicle) (delays : Delays) (steps : ℕ) (at : FlowAt) (total : ℕ) → behind_by v delays steps at ≡ Some total → (n : ℕ)
    × (own v delays at ≡ Some n)
behind_own v delays steps at total known = some_cases (direct_feeder v at) ((n : ℕ) × (own v delays at ≡ Some n))
    (λ none. own_of_release v delays at total (unfed_release v delays steps at total none known))
    (λ n feeder. by_steps n feeder steps known)
  where
    by_steps : (n : Forward) → direct_feeder v at ≡ Some n → (k : ℕ) → behind_by v delays k at ≡ Some total → (m : ℕ) × (own v delays at ≡ Some m)
    by_steps n feeder zero known = absurd (fed_never v delays at total n feeder known)
    by_steps n feeder (suc k) known = let fed = fed_parts v delays k at total n feeder known in (fed.own_time, fed.own_is)

-- whoever reports who stays, the streams are the same
pub one_traffic : (v : Vehicle) (delays : Delays) (b : ℕ) (timing other : Timing) (one : IsKnownBus v delays b timing) (two : IsKnownBus v delays b other)
    → streams_of timing (frames_asked (asked_on one)) ≡ streams_of other (frames_asked (asked_on two))
one_traffic v delays b timing other one two =
    let bus : one.bus ≡ two.bus = same_Some _ _ (sym one.its ∙ two.its) in
    let time : timing ≡ other = same_Some _ _ (sym one.timed ∙ (ap (λ (x : BusPlan). timing_of x.plan) bus ∙ two.timed)) in
    let asks : AsksOfBus two.bus.plan other one.stays (delays_on delays b) =
    subst (λ (x : BusPlan). AsksOfBus x.plan other one.stays (delays_on delays b)) bus (subst (λ (x : Timing). AsksOfBus one.bus.plan x one.stays
    (delays_on delays b)) time one.asks) in
    let asked : asked_of timing one.bus.plan one.stays ≡ asked_of other two.bus.plan two.stays =
    ap (λ (x : Timing). asked_of x one.bus.plan one.stays) time ∙ (ap (λ (x : BusPlan). asked_of other x.plan one.stays) bus
    ∙ (one_asked two.bus.plan other one.stays two.stays (delays_on delays b) (delays_on delays b) asks two.asks).0) in
    ap (λ (x : Timing). streams_of x (frames_asked (asked_of timing one.bus.plan one.stays))) time ∙ ap (λ (x : Asked). streams_of other (frames_asked x)) asked

case_view : (v : Vehicle) (scope : Scope) (b : ℕ) (P : Option (TimedBus v scope b) → Type 0) → P None → ((t : TimedBus v scope b) → P (Some t))
    → (o : Option (TimedBus v scope b)) → P o
case_view v scope b P none some None = none
case_view v scope b P none some (Some t) = some t

abbrev bus_value : Option FlowAt → ℕ
bus_value from = option_map_or (λ (x : FlowAt). x.bus) from 0

abbrev flow_value : Option FlowAt → ℕ
flow_value from = option_map_or (λ (x : FlowAt). x.flow) from 0

abbrev carrier_of : Bus → ℕ → Carrier
carrier_of bus i =
    record { schedule = bus.schedule; clock = bus.clock; planned = bus.planned; of = bus.of; source = i; release = bus.release; born = bus.release }

module _ (v : Vehicle) (scope : Scope) (delays : Delays) (stated : AreDelays v delays) (closed : IsScope v delays scope) (seen : SeenBuses)
    (kept : AreOtherwiseKept v delays scope seen) (prompt : ArePrompt v delays scope seen) (own_releases : HaveOwnReleases v delays scope seen)
    (timely : AreForwardsTimely v delays) where
  abbrev with_bus : (b : ℕ) → Option (TimedBus v scope b) → Bus
  with_bus b o = bus_with v scope delays stated seen b o

  -- how far the releases of a flow of a bus are apart, by the fastest clock
  abbrev apart_of : ℕ → FlowPlan → ℕ
  apart_of b flow = option_map_or (λ (ms : ℕ). 1000 * ms * shortest_on v.buses.items b) (period_ms flow) 0

  abbrev apart_value : ℕ → ℕ → ℕ
  apart_value b i = option_map_or (apart_of b) (flow_at v.buses.items (at_of b i)) 0

  abbrev vehicle : Rattle.j39_vehicle_laws.specs.Vehicles.Vehicle
  vehicle = record {
    bus = λ b. bus_with v scope delays stated seen b (view v scope b);
    direct = λ b i. direct_with v scope delays stated seen b i (view v scope b);
    from_bus = λ b i. bus_value (sent_from v delays (at_of b i));
    from_stream = λ b i. flow_value (sent_from v delays (at_of b i));
    within = λ b i. of_us (within_value v scope delays stated seen b i);
    wait = λ b i. wait_with v scope delays stated seen b i (view v scope b);
    behind = λ b i. behind_with v scope delays stated seen b i (view v scope b);
    apart = λ b i. apart_value b i;
  }

  abbrev keeps : {b : ℕ} → (t : TimedBus v scope b)
      → IsOtherwiseKept v delays b t.timing (asked_on (of_bus v scope delays stated seen t)).unplanned_end (all_of v scope delays stated seen t)
      (scope_on scope b) (seen b)
  keeps {b} t = kept b t.timing (of_bus v scope delays stated seen t) t.inside

  shortest_there : (b : ℕ) (t : TimedBus v scope b) → shortest_on v.buses.items b ≡ shortest_million t.timing
  shortest_there b t = ap (λ (o : Option Timing). option_map_or shortest_million o 1000000) t.timed

  apart_is : (b i : ℕ) (t : TimedBus v scope b) (is : IsStated v scope delays stated seen b i t)
      → apart_value b i ≡ 1000 * (streamed v scope delays stated seen b i t is).period * shortest_on v.buses.items b
  apart_is b i t is =
      ap (λ (o : Option FlowPlan). option_map_or (apart_of b) o 0) is.its
      ∙ ap (λ (o : Option ℕ). option_map_or (λ (ms : ℕ). 1000 * ms * shortest_on v.buses.items b) o 0) (streamed v scope delays stated seen b i t is).period_is

  -- ---- one flow that is sent on directly

  record Link (b i : ℕ) : Type 0 where
    t : TimedBus v scope b
    view_is : view v scope b ≡ Some t
    here : IsStated v scope delays stated seen b i t
    x : FlowAt
    from : sent_from v delays (at_of b i) ≡ Some x
    among : scope.flows x ≡ true
    n : Forward
    feeder : direct_feeder v (at_of b i) ≡ Some n
    input : first_input_at v n ≡ Some x
    tx : TimedBus v scope x.bus
    view_x : view v scope x.bus ≡ Some tx
    there : IsStated v scope delays stated seen x.bus x.flow tx
    before : ℕ
    before_is : behind_at v delays x ≡ Some before
    within : ℕ
    promised : within_of n ≡ Some within
    in_jitter : before + within ≤ us_of_ms (jitter_ms here.flow)
    no_nearer : (p : ℕ) → period_ms here.flow ≡ Some p → (q : ℕ) × (period_ms there.flow ≡ Some q)
        × (p * shortest_on v.buses.items b ≤ q * shortest_on v.buses.items x.bus)

  link_of : (b i : ℕ) (t : TimedBus v scope b) → view v scope b ≡ Some t → (x : FlowAt) → sent_from v delays (at_of b i) ≡ Some x → Link b i
  link_of b i t view_is x from =
      let (bits, delayed, rest) = and_then_some (λ (bits : ℕ). option_and_then (first_input_at v) (direct_feeder v (at_of b i))) (delay_at delays
      (at_of b i)) x from in
      let (n, feeder, input) = and_then_some (first_input_at v) (direct_feeder v (at_of b i)) x rest in
      let tm = timely (at_of b i) bits n delayed feeder in
      let (before, within, of_source, promised, sum) = sum_some (option_and_then (behind_at v delays) (first_input_at v n))
      (within_of n) tm.queued tm.queued_is in
      let (y, of_input, known) = and_then_some (behind_at v delays) (first_input_at v n) before of_source in
      let same : y ≡ x = same_Some _ _ (sym of_input ∙ input) in
      let same_input : tm.input ≡ x = same_Some _ _ (sym tm.input_is ∙ input) in
      let known_x : behind_at v delays x ≡ Some before = subst (λ (f : FlowAt). behind_at v delays f ≡ Some before) same known in
      let (own_x, owns_x) = behind_own v delays (length v.forwards.items) x before known_x in
      let parts = own_parts v delays x own_x owns_x in
      let among : scope.flows x ≡ true = closed.sources (at_of b i) x t.inside from in
      let none_asks : askers_on v.buses.items b tm.flow ≡ 0 = none_ask v (at_of b i) tm.flow tm.its (closed.sent_unasked (at_of b i) x t.inside from) in
      let none_there : askers_on v.buses.items x.bus parts.flow ≡ 0 = none_ask v x parts.flow parts.its (closed.unasked x among) in
      let soon : tm.queued ≤ us_of_ms (jitter_ms tm.flow) = subst (λ (k : ℕ). tm.queued ≤ us_of_ms (latest_ms k tm.flow)) none_asks tm.in_jitter in
      let (tx, view_x) = viewed v scope x.bus parts.timing (closed.its_bus x among) parts.timed in
      let other : tm.other ≡ parts.flow = same_Some _ _ (sym (subst (λ (f : FlowAt). flow_at v.buses.items f ≡ Some tm.other) same_input tm.other_is)
      ∙ parts.its) in
      record {
        t = t;
        view_is = view_is;
        here = record { flow = tm.flow; its = tm.its; bits = bits; delayed = delayed; none_asks = none_asks };
        x = x;
        from = from;
        among = among;
        n = n;
        feeder = feeder;
        input = input;
        tx = tx;
        view_x = view_x;
        there = record { flow = parts.flow; its = parts.its; bits = parts.bits; delayed = parts.delayed; none_asks = none_there };
        before = before;
        before_is = known_x;
        within = within;
        promised = promised;
        in_jitter = omega (arith, soon, sum);
        no_nearer = λ p is.
            let (q, its, le) = tm.no_nearer p is in (
              q,
              subst (λ (f : FlowPlan). period_ms f ≡ Some q) other its,
              subst (λ (f : FlowAt). p * shortest_on v.buses.items b ≤ q * shortest_on v.buses.items f.bus) same_input le,
            );
      }

  link : (b i : ℕ) → direct_with v scope delays stated seen b i (view v scope b) ≡ true → Link b i
  link b i direct = some_cases (view v scope b) (Link b i)
      (λ none. absurd (false≢true (subst (λ (o : Option (TimedBus v scope b)). direct_with v scope delays stated seen b i o ≡ true) none direct)))
      (λ t view_is.
      let (x, from) = is_some_true (sent_from v delays (at_of b i)) (subst (λ (o : Option
      (TimedBus v scope b)). direct_with v scope delays stated seen b i o ≡ true) view_is direct) in
      link_of b i t view_is x from)

  module _ (b i : ℕ) (l : Link b i) where
    -- a statement on the bus itself, and on the flow that is heard and its bus
    at_bus : (P : Option (TimedBus v scope b) → Type 0) → P (Some l.t) → P (view v scope b)
    at_bus P p = subst P (sym l.view_is) p

    at_source : (P : ℕ → ℕ → Type 0) → P l.x.bus l.x.flow → P (bus_value (sent_from v delays (at_of b i))) (flow_value (sent_from v delays (at_of b i)))
    at_source P p = subst (λ (o : Option FlowAt). P (bus_value o) (flow_value o)) (sym l.from) p

    at_source_bus : (P : Option (TimedBus v scope l.x.bus) → Type 0) → P (Some l.tx) → P (view v scope l.x.bus)
    at_source_bus P p = subst P (sym l.view_x) p

    within_is : within_value v scope delays stated seen b i ≡ l.within
    within_is = ap (λ (o : Option Forward). option_map_or (λ n. unwrap_or (within_of n) 0) o 0) l.feeder ∙ ap (λ (o : Option ℕ). unwrap_or o 0) l.promised

    queued_is : queued_value v scope delays stated seen b i ≡ l.before + l.within
    queued_is =
        ap (λ (o : Option Forward). option_map_or (λ n. unwrap_or (queued_of v delays n) 0) o 0) l.feeder
        ∙ ap (λ (o : Option ℕ). unwrap_or o 0) (ap (λ (o : Option ℕ). sum_known o (within_of l.n)) (ap (option_and_then (behind_at v delays)) l.input
        ∙ l.before_is)
        ∙ ap (λ (o : Option ℕ). sum_known (Some l.before) o) l.promised)

    sent : (place : ℕ) × IsSentDirectly v seen place l.x (at_of b i) l.within
    sent =
        let (place, feeding) = feeder_is v (at_of b i) l.n l.feeder in (
          place,
          prompt.direct place l.n l.x (at_of b i) l.within (record
              { its = feeding.its; output = feeding.feeding; input = l.input; promised = l.promised }) feeding.direct l.t.inside
              (l.there.bits, l.there.delayed) (l.here.bits, l.here.delayed),
        )

    handed_on : IsHandedOn (carrier_of (with_bus (bus_value (sent_from v delays (at_of b i))) (view v scope (bus_value (sent_from v delays (at_of b i)))))
        (flow_value (sent_from v delays (at_of b i)))) (carrier_of (with_bus b (view v scope b)) i) (of_us (within_value v scope delays stated seen b i))
    handed_on =
        at_source (λ a k. IsHandedOn (carrier_of (with_bus a (view v scope a)) k) (carrier_of (with_bus b (view v scope b)) i)
        (of_us (within_value v scope delays stated seen b i)))
        (at_source_bus (λ o. IsHandedOn (carrier_of (with_bus l.x.bus o) l.x.flow) (carrier_of (with_bus b (view v scope b)) i)
        (of_us (within_value v scope delays stated seen b i)))
        (at_bus (λ o. IsHandedOn (carrier_of (with_bus l.x.bus (Some l.tx)) l.x.flow) (carrier_of (with_bus b o) i)
        (of_us (within_value v scope delays stated seen b i)))
        (subst (λ (w : ℕ). IsHandedOn (frames_at v seen l.x) (frames_at v seen (at_of b i)) (of_us w)) (sym within_is) sent.1.handed)))

    its_single : IsSingle ((with_bus b (view v scope b)).traffic.stream i)
    its_single = at_bus (λ o. IsSingle ((with_bus b o).traffic.stream i)) (single_here v scope delays stated seen b i l.t l.here)

    input_single : IsSingle ((with_bus (bus_value (sent_from v delays (at_of b i))) (view v scope (bus_value (sent_from v delays (at_of b i))))).traffic.stream
        (flow_value (sent_from v delays (at_of b i))))
    input_single = at_source (λ a k. IsSingle ((with_bus a (view v scope a)).traffic.stream k))
        (at_source_bus (λ o. IsSingle ((with_bus l.x.bus o).traffic.stream l.x.flow)) (single_here v scope delays stated seen l.x.bus l.x.flow l.tx l.there))

    -- the law of delays of the bus on which it is heard
    begun_there : (by : ℕ) → by ≤ (seen l.x.bus).schedule.now → KeepsItsStreamsUntil (with_bus l.x.bus (Some l.tx)) by
        → AreBegunUntil (seen l.x.bus).schedule (seen l.x.bus).planned (seen l.x.bus).of l.x.flow
        (wait_with v scope delays stated seen l.x.bus l.x.flow (Some l.tx)) by
    begun_there by now streams p in_p is source early =
        let ofb = of_bus v scope delays stated seen l.tx in
        let at_place = delay_here v delays stated l.x _
        (Rattle.j39_vehicle_laws.proofs.Circle.has v scope delays stated seen l.x.bus l.x.flow l.tx l.there) in
        let same : wait_with v scope delays stated seen l.x.bus l.x.flow
        (Some l.tx) ≡ (bounded_here v scope delays stated seen l.x.bus l.x.flow l.tx l.there).wait =
        wait_is v scope delays stated seen l.x.bus l.x.flow l.tx l.there in
        let frames = frames_then l.tx.timing (asked_on ofb).unplanned_end (all_of v scope delays stated seen l.tx) (seen l.x.bus).schedule
        (seen l.x.bus).controllers (seen l.x.bus).planned
        (seen l.x.bus).of l.x.flow
        ((keeps l.tx).frames l.x.flow l.there.bits l.among at_place) by now streams in
        let legal = Rattle.j39_timing.proofs.AnyPrefixes.still_legal_in_any_order (seen l.x.bus).schedule (seen l.x.bus).controllers by
        (Rattle.j39_load.specs.PlannedFrames.others_of l.tx.timing).least (keeps l.tx).legal now in
        let started = starts_within ofb.bus.plan l.tx.timing ofb.stays (delays_on delays l.x.bus) ofb.asks l.x.flow l.there.bits at_place
        (Rattle.j39_timing.specs.Prefixes.seen_until (seen l.x.bus).schedule by (Rattle.j39_load.specs.PlannedFrames.others_of l.tx.timing).least)
        (seen l.x.bus).controllers
        (Rattle.j39_timing.specs.Prefixes.planned_until (seen l.x.bus).schedule (seen l.x.bus).planned by) (seen l.x.bus).of legal frames
        (streamed v scope delays stated seen l.x.bus l.x.flow l.tx l.there).single.1 in
        let soon : (seen l.x.bus).schedule.queued p + (bounded_here v scope delays stated seen l.x.bus l.x.flow l.tx l.there).wait < by = omega
        (arith, early, same) in
        let start = started p in_p (then_is_planned (seen l.x.bus).schedule (seen l.x.bus).planned by p is (omega (arith, soon))) source soon in
        omega (arith, start, same)

    input_begun : (by : ℕ) → by ≤ (with_bus (bus_value (sent_from v delays (at_of b i)))
        (view v scope (bus_value (sent_from v delays (at_of b i))))).schedule.now
        → KeepsItsStreamsUntil (with_bus (bus_value (sent_from v delays (at_of b i))) (view v scope (bus_value (sent_from v delays (at_of b i))))) by
        → AreBegunUntil (with_bus (bus_value (sent_from v delays (at_of b i))) (view v scope (bus_value (sent_from v delays (at_of b i))))).schedule
        (with_bus (bus_value (sent_from v delays (at_of b i))) (view v scope (bus_value (sent_from v delays (at_of b i))))).planned
        (with_bus (bus_value (sent_from v delays (at_of b i))) (view v scope (bus_value (sent_from v delays (at_of b i))))).of
        (flow_value (sent_from v delays (at_of b i)))
        (wait_with v scope delays stated seen (bus_value (sent_from v delays (at_of b i))) (flow_value (sent_from v delays (at_of b i)))
        (view v scope (bus_value (sent_from v delays (at_of b i))))) by
    input_begun by = at_source (λ a k. by ≤ (with_bus a (view v scope a)).schedule.now → KeepsItsStreamsUntil (with_bus a (view v scope a)) by
        → AreBegunUntil (with_bus a (view v scope a)).schedule (with_bus a (view v scope a)).planned (with_bus a (view v scope a)).of k
        (wait_with v scope delays stated seen a k
        (view v scope a)) by)
        (at_source_bus (λ o. by ≤ (with_bus l.x.bus o).schedule.now → KeepsItsStreamsUntil (with_bus l.x.bus o) by
        → AreBegunUntil (with_bus l.x.bus o).schedule (with_bus l.x.bus o).planned (with_bus l.x.bus o).of l.x.flow
        (wait_with v scope delays stated seen l.x.bus l.x.flow o) by)
        (begun_there by))

    -- ---- numbers

    before_value : behind_with v scope delays stated seen l.x.bus l.x.flow (Some l.tx) ≤ of_us l.before
    before_value = behind_value v scope delays stated seen l.x.bus l.x.flow l.tx l.there l.before l.before_is

    source_behind : behind_with v scope delays stated seen (bus_value (sent_from v delays (at_of b i))) (flow_value (sent_from v delays (at_of b i)))
        (view v scope (bus_value (sent_from v delays (at_of b i)))) ≤ of_us l.before
    source_behind = at_source (λ a k. behind_with v scope delays stated seen a k (view v scope a) ≤ of_us l.before)
        (at_source_bus (λ o. behind_with v scope delays stated seen l.x.bus l.x.flow o ≤ of_us l.before) before_value)

    jitter_enough : behind_with v scope delays stated seen (bus_value (sent_from v delays (at_of b i))) (flow_value (sent_from v delays (at_of b i)))
        (view v scope (bus_value (sent_from v delays (at_of b i)))) + of_us (within_value v scope delays stated seen b i)
        ≤ (with_bus b (view v scope b)).clock.shortest * ((with_bus b (view v scope b)).traffic.stream i).jitter
    jitter_enough =
        let one = source_behind in
        let two = within_is in
        let most = l.in_jitter in
        at_bus (λ o. behind_with v scope delays stated seen (bus_value (sent_from v delays (at_of b i))) (flow_value (sent_from v delays (at_of b i)))
        (view v scope (bus_value (sent_from v delays (at_of b i)))) + of_us (within_value v scope delays stated seen b i)
        ≤ (with_bus b o).clock.shortest * ((with_bus b o).traffic.stream i).jitter)
        (let late = late_value v scope delays stated seen b i l.t l.here in omega (arith, one, two, most, late))

    behind_is : behind_with v scope delays stated seen b i (Some l.t)
        ≡ of_us (queued_value v scope delays stated seen b i)
        + longest_bit v b * (wait_with v scope delays stated seen b i (Some l.t) + (stream_of v scope delays stated seen l.t i).bits)
    behind_is = ap (λ (o : Option FlowAt). Rattle.std.proofs.Common.cond (is_some o)
        (of_us (queued_value v scope delays stated seen b i)
        + longest_bit v b * (wait_with v scope delays stated seen b i (Some l.t) + (stream_of v scope delays stated seen l.t i).bits))
        (longest_bit v b * delay_of (stream_of v scope delays stated seen l.t i) (wait_with v scope delays stated seen b i (Some l.t)))) l.from

    behind_enough : behind_with v scope delays stated seen (bus_value (sent_from v delays (at_of b i))) (flow_value (sent_from v delays (at_of b i)))
        (view v scope (bus_value (sent_from v delays (at_of b i)))) + of_us (within_value v scope delays stated seen b i)
        + (with_bus b (view v scope b)).clock.longest
        * (wait_with v scope delays stated seen b i (view v scope b) + ((with_bus b (view v scope b)).traffic.stream i).bits)
        ≤ behind_with v scope delays stated seen b i (view v scope b)
    behind_enough =
        let one = source_behind in
        let two = within_is in
        let three = queued_is in
        at_bus (λ o. behind_with v scope delays stated seen (bus_value (sent_from v delays (at_of b i))) (flow_value (sent_from v delays (at_of b i)))
        (view v scope (bus_value (sent_from v delays (at_of b i)))) + of_us (within_value v scope delays stated seen b i)
        + (with_bus b o).clock.longest * (wait_with v scope delays stated seen b i o + ((with_bus b o).traffic.stream i).bits)
        ≤ behind_with v scope delays stated seen b i o)
        (let four = behind_is in omega (arith, one, two, three, four))

    often_enough : (with_bus b (view v scope b)).clock.longest * ((with_bus b (view v scope b)).traffic.stream i).period ≤ apart_value b i
    often_enough =
        let own = streamed v scope delays stated seen b i l.t l.here in
        let apart = apart_is b i l.t l.here in
        at_bus (λ o. (with_bus b o).clock.longest * ((with_bus b o).traffic.stream i).period ≤ apart_value b i)
        (let near = period_value v scope delays stated seen b i l.t l.here in
        let same : 1000 * own.period * shortest_on v.buses.items b ≡ 1000 * own.period * shortest_million l.t.timing =
        ap (λ (n : ℕ). 1000 * own.period * n) (shortest_there b l.t) in
        omega (arith, near, apart, same))

    apart_there : apart_value b i ≤ apart_value (bus_value (sent_from v delays (at_of b i))) (flow_value (sent_from v delays (at_of b i)))
    apart_there =
        let own = streamed v scope delays stated seen b i l.t l.here in
        let other = streamed v scope delays stated seen l.x.bus l.x.flow l.tx l.there in
        let (q, its, far) = l.no_nearer own.period own.period_is in
        let same : q ≡ other.period = same_Some _ _ (sym its ∙ other.period_is) in
        let one = apart_is b i l.t l.here in
        let two = apart_is l.x.bus l.x.flow l.tx l.there in
        let far_on : own.period * shortest_on v.buses.items b ≤ other.period * shortest_on v.buses.items l.x.bus =
        subst (λ (n : ℕ). own.period * shortest_on v.buses.items b ≤ n * shortest_on v.buses.items l.x.bus) same far in
        at_source (λ a k. apart_value b i ≤ apart_value a k) (omega (arith, one, two, far_on))

  -- ---- frames of a bus

  -- of a flow that is sent on directly, and of any other
  module _ (b : ℕ) (t : TimedBus v scope b) (p : ℕ) (in_p : p < (seen b).schedule.count) (is : (seen b).planned p ≡ true) where
    own_frame : is_some (sent_from v delays (at_of b ((seen b).of.source p))) ≡ false
        → KeepsStream (seen b).schedule (streams_of t.timing (all_of v scope delays stated seen t)).count
        (streams_of t.timing (all_of v scope delays stated seen t)).stream
        (seen b).of p
    own_frame own = (keeps t).own p in_p is (is_some_false (sent_from v delays (at_of b ((seen b).of.source p))) own)

    any_frame : ((seen b).of.source p < (streams_of t.timing (all_of v scope delays stated seen t)).count)
        × ((seen b).schedule.bits p ≤ (stream_of v scope delays stated seen t ((seen b).of.source p)).bits)
        × ((seen b).of.turn p < (stream_of v scope delays stated seen t ((seen b).of.source p)).frames)
    any_frame = elim (cases_Bool (is_some (sent_from v delays (at_of b ((seen b).of.source p))))) [
      | inl sent ↦ (keeps t).sent_on p in_p is (is_some_true (sent_from v delays (at_of b ((seen b).of.source p))) sent)
      | inr own ↦ let one = own_frame own in (one.known, one.bits_at_most, one.turns)
    ]

  -- ---- all that the law of vehicles asks

  known : IsKnown vehicle
  known = record {
    clocks = λ b. case_view v scope b (λ o. IsClock (with_bus b o).clock) (steady_is 0 1 (omega arith))
        (λ t. clock_is v seen b t.timing t.timed (keeps t).clock) (view v scope b);
    some_bits = λ b. case_view v scope b (λ o. (p : ℕ) → p < (with_bus b o).schedule.count → 1 ≤ (with_bus b o).schedule.bits p)
        (λ p in_p. absurd (omega (arith, in_p))) (λ t. (keeps t).legal.positive) (view v scope b);
    queued_first = λ b. case_view v scope b (λ o. (p : ℕ) → p < (with_bus b o).schedule.count
        → (with_bus b o).schedule.queued p ≤ (with_bus b o).schedule.start p)
        (λ p in_p. absurd (omega (arith, in_p))) (λ t. (keeps t).legal.queued_first) (view v scope b);
    known = λ b. case_view v scope b (λ o. (p : ℕ) → IsPlannedOn (with_bus b o) p → (with_bus b o).of.source p < (with_bus b o).traffic.count)
        (λ p its. absurd (omega (arith, its.0))) (λ t p its. (any_frame b t p its.0 its.1).0) (view v scope b);
    bits_at_most = λ b. case_view v scope b (λ o. (p : ℕ) → IsPlannedOn (with_bus b o) p
        → (with_bus b o).schedule.bits p ≤ ((with_bus b o).traffic.stream ((with_bus b o).of.source p)).bits)
        (λ p its. absurd (omega (arith, its.0))) (λ t p its. (any_frame b t p its.0 its.1).1) (view v scope b);
    turns = λ b. case_view v scope b (λ o. (p : ℕ) → IsPlannedOn (with_bus b o) p
        → (with_bus b o).of.turn p < ((with_bus b o).traffic.stream ((with_bus b o).of.source p)).frames)
        (λ p its. absurd (omega (arith, its.0))) (λ t p its. (any_frame b t p its.0 its.1).2) (view v scope b);
    own_first = λ b. case_view v scope b (λ o. (p : ℕ) → IsPlannedOn (with_bus b o) p → direct_with v scope delays stated seen b ((with_bus b o).of.source p) o
        ≡ false
        → (with_bus b o).of.since p ≤ (with_bus b o).schedule.queued p)
        (λ p its. absurd (omega (arith, its.0))) (λ t p its own. (own_frame b t p its.0 its.1 own).release_first) (view v scope b);
    own_jitter = λ b. case_view v scope b (λ o. (p : ℕ) → IsPlannedOn (with_bus b o) p → direct_with v scope delays stated seen b ((with_bus b o).of.source p) o
        ≡ false
        → (with_bus b o).schedule.queued p ≤ (with_bus b o).of.since p + ((with_bus b o).traffic.stream ((with_bus b o).of.source p)).jitter)
        (λ p its. absurd (omega (arith, its.0))) (λ t p its own. (own_frame b t p its.0 its.1 own).jitter_at_most) (view v scope b);
    own_release = λ b. case_view v scope b (λ o. (p : ℕ) → IsPlannedOn (with_bus b o) p → direct_with v scope delays stated seen b
        ((with_bus b o).of.source p) o ≡ false
        → (with_bus b o).release p ≡ Rattle.j39_vehicle_laws.specs.Gateways.time_of (with_bus b o).clock ((with_bus b o).of.since p))
        (λ p its. absurd (omega (arith, its.0)))
        (λ t p its own. own_releases (at_of b ((seen b).of.source p)) t.inside (is_some_false (sent_from v delays (at_of b ((seen b).of.source p))) own) p
        (its.0, its.1, refl)) (view v scope b);
    own_spaced = λ b. case_view v scope b (λ o. (p q : ℕ) → IsPlannedOn (with_bus b o) p → IsPlannedOn (with_bus b o) q → p ≢ q
        → direct_with v scope delays stated seen b ((with_bus b o).of.source p) o ≡ false
        → (with_bus b o).of.source p ≡ (with_bus b o).of.source q → (with_bus b o).of.turn p ≡ (with_bus b o).of.turn q
        → IsSpaced ((with_bus b o).traffic.stream ((with_bus b o).of.source p))
        → ((with_bus b o).of.since p + ((with_bus b o).traffic.stream ((with_bus b o).of.source p)).period ≤ (with_bus b o).of.since q)
        ⊎ ((with_bus b o).of.since q + ((with_bus b o).traffic.stream ((with_bus b o).of.source p)).period ≤ (with_bus b o).of.since p))
        (λ p q its. absurd (omega (arith, its.0)))
        (λ t p q its other differ own source turn paced. (keeps t).spaced p q its.0 other.0 differ its.1 other.1
        (is_some_false (sent_from v delays (at_of b ((seen b).of.source p))) own) source turn paced) (view v scope b);
    handed = λ b i direct. handed_on b i (link b i direct);
    single = λ b i direct. its_single b i (link b i direct);
    input_single = λ b i direct. input_single b i (link b i direct);
    input_begun = λ b i by direct. input_begun b i (link b i direct) by;
    own_apart = λ b i p q its other differ single. case_view v scope b (λ o. IsIts (carrier_of (with_bus b o) i) p → IsIts (carrier_of (with_bus b o) i) q
        → IsSingle ((with_bus b o).traffic.stream i) → direct_with v scope delays stated seen b i o ≡ false
        → ((with_bus b o).release p + apart_value b i ≤ (with_bus b o).release q) ⊎ ((with_bus b o).release q + apart_value b i ≤ (with_bus b o).release p))
        (λ none. absurd (omega (arith, none.0))) (λ t it too one own. own_releases_apart b i t p q it too differ one own) (view v scope b) its other single;
    jitter_enough = λ b i direct. jitter_enough b i (link b i direct);
    often_enough = λ b i direct. often_enough b i (link b i direct);
    behind_own = λ b i. case_view v scope b (λ o. direct_with v scope delays stated seen b i o ≡ false
        → (with_bus b o).clock.longest * delay_of ((with_bus b o).traffic.stream i) (wait_with v scope delays stated seen b i o)
        ≤ behind_with v scope delays stated seen b i o)
        (λ own. omega arith) (λ t own. own_behind b i t own) (view v scope b);
    behind_direct = λ b i direct. behind_enough b i (link b i direct);
    apart_direct = λ b i direct. apart_there b i (link b i direct);
  }
    where
      own_behind : (b i : ℕ) (t : TimedBus v scope b) → is_some (sent_from v delays (at_of b i)) ≡ false
          → longest_bit v b * delay_of (stream_of v scope delays stated seen t i) (wait_with v scope delays stated seen b i (Some t))
          ≤ behind_with v scope delays stated seen b i (Some t)
      own_behind b i t own =
          let same : behind_with v scope delays stated seen b i (Some t)
          ≡ longest_bit v b * delay_of (stream_of v scope delays stated seen t i) (wait_with v scope delays stated seen b i (Some t)) =
          ap (λ (c : Bool). Rattle.std.proofs.Common.cond c
          (of_us (queued_value v scope delays stated seen b i)
          + longest_bit v b * (wait_with v scope delays stated seen b i (Some t) + (stream_of v scope delays stated seen t i).bits))
          (longest_bit v b * delay_of (stream_of v scope delays stated seen t i) (wait_with v scope delays stated seen b i (Some t)))) own in
          omega (arith, same)

      -- the releases of two frames are apart by nothing
      any_apart : (n a c : ℕ) → n ≡ 0 → (a + n ≤ c) ⊎ (c + n ≤ a)
      any_apart n a c none = elim (cases_lt a c) [
        | inl below ↦ inl (omega (arith, below, none))
        | inr above ↦ inr (omega (arith, above, none))
      ]

      own_releases_apart : (b i : ℕ) (t : TimedBus v scope b) (p q : ℕ) → IsIts (carrier_of (with_bus b (Some t)) i) p
          → IsIts (carrier_of (with_bus b (Some t)) i) q → p ≢ q → IsSingle (stream_of v scope delays stated seen t i)
          → is_some (sent_from v delays (at_of b i)) ≡ false
          → ((seen b).release p + apart_value b i ≤ (seen b).release q) ⊎ ((seen b).release q + apart_value b i ≤ (seen b).release p)
      own_releases_apart b i t p q its other differ single own =
          some_cases (flow_at v.buses.items (at_of b i)) _
          (λ none. any_apart (apart_value b i) ((seen b).release p) ((seen b).release q) (ap (λ (o : Option FlowPlan). option_map_or (apart_of b) o 0) none))
          (λ flow its_flow. some_cases (period_ms flow) _
          (λ none. any_apart (apart_value b i) ((seen b).release p) ((seen b).release q)
          (ap (λ (o : Option FlowPlan). option_map_or (apart_of b) o 0) its_flow
          ∙ ap (λ (o : Option ℕ). option_map_or (λ (ms : ℕ). 1000 * ms * shortest_on v.buses.items b) o 0) none))
          (λ ms its_period.
          let same : apart_value b i ≡ 1000 * ms * shortest_million t.timing =
          ap (λ (o : Option FlowPlan). option_map_or (apart_of b) o 0) its_flow
          ∙ (ap (λ (o : Option ℕ). option_map_or (λ (n : ℕ). 1000 * n * shortest_on v.buses.items b) o 0) its_period
          ∙ ap (λ (n : ℕ). 1000 * ms * n) (shortest_there b t)) in
          let source : i ≡ (seen b).of.source p = sym its.2 in
          subst (λ (n : ℕ). ((seen b).release p + n ≤ (seen b).release q) ⊎ ((seen b).release q + n ≤ (seen b).release p)) (sym same)
          ((keeps t).apart p q ms flow its.0 other.0 differ its.1 other.1
          (is_some_false (sent_from v delays (at_of b ((seen b).of.source p)))
          (subst (λ (j : ℕ). is_some (sent_from v delays (at_of b j)) ≡ false) source own))
          (its.2 ∙ sym other.2)
          (subst (λ (j : ℕ). IsSingle (stream_of v scope delays stated seen t j)) source single)
          (subst (λ (j : ℕ). flow_at v.buses.items (at_of b j) ≡ Some flow) source its_flow) its_period)))

  -- ---- so each bus keeps to its plan

  streams_kept : (b : ℕ) → KeepsItsStreams (with_bus b (view v scope b))
  streams_kept b = keep_their_streams vehicle known b

  pub buses_kept : AreKeptBuses v delays scope seen
  buses_kept b timing its inside =
      let timed_here : timing_on v.buses.items b ≡ Some timing = ap (option_and_then (λ (bus : BusPlan). timing_of bus.plan)) its.its ∙ its.timed in
      let (t, view_is) = viewed v scope b timing inside timed_here in
      let streams : KeepsItsStreams (with_bus b (Some t)) = subst (λ (o : Option (TimedBus v scope b)). KeepsItsStreams (with_bus b o)) view_is
      (streams_kept b) in
      let same = one_traffic v delays b t.timing timing (of_bus v scope delays stated seen t) its in
      record {
        clock = (kept b timing its inside).clock;
        legal = (kept b timing its inside).legal;
        frames = λ flow bits among at. with_streams timing (asked_on its).unplanned_end (frames_asked (asked_on its)) (seen b).schedule (seen b).controllers
            (seen b).planned (seen b).of flow
            ((kept b timing its inside).frames flow bits among at)
            (subst (λ (x : Traffic). AreOfStreams (seen b).schedule (λ p. (seen b).planned p ≡ true) x.count x.stream (seen b).of) same streams);
      }

pub streams_are_kept : (v : Vehicle) (delays : Delays) → AreStreamsKept v delays
streams_are_kept v delays timely stated scope closed seen kept prompt own_releases =
    buses_kept v scope delays stated closed seen kept prompt own_releases timely

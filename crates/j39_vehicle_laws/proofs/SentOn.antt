-- What is seen of a vehicle where messages are sent, a period apart, and sent on.
use Rattle.std.proofs.Common.{◌≡◌, ◌≢◌, ℕ, suc, ◌+◌, ◌*◌, ◌/◌, ◌<◌, ◌≤◌, ◌⊎◌, true, eqb, List, [], Option, Some, refl, sym, ap}
use Rattle.std.proofs.Common.{◌∙◌, subst, inl, inr, arith}
use Rattle.std.proofs.lemmas.Bool.{cases_Bool, cases_eq, eq-eqb, eqb-true, true≢false}
use Rattle.std.proofs.Math.Nat.{div-mul-le_self, lt-div-mul-add, mul-le-mul_left, mul-le-mul_right}
use Rattle.std.proofs.lemmas.Option.{none-some, same_Some}
use Rattle.std.specs.List.{slice_get}
use Rattle.std.specs.Option.{option_and_then, option_map}
use Rattle.j39_network.specs.declared.plan.flow_plan.FlowPlan.{FlowPlan}
use Rattle.j39_network.specs.declared.plan.pace.Pace.{Pace}
use Rattle.j39_network.specs.declared.plan.timing.Timing.{Timing}
use Rattle.j39_load.specs.declared.waits.delay.Delay.{Delay}
use Rattle.j39_load.specs.declared.waits.delay.Delay.TheVariants.{Within}
use Rattle.j39_load.specs.Asked.{frames_asked}
use Rattle.j39_load.specs.BusTimes.{timing_of}
use Rattle.j39_load.specs.Clocks.{longest_million, million, shortest_million}
use Rattle.j39_load.specs.Loads.{bits_at_least, bits_per_ms}
use Rattle.j39_load.specs.declared.frames.flow_frames.FlowFrames.{FlowFrames}
use Rattle.j39_load.proofs.Milliseconds.{faster, slower, some_own}
use Rattle.j39_timing.specs.Traffic.{Traffic}
use Rattle.j39_vehicle_laws.specs.Gateways.{Carrier, HasBegun, IsHandedOn, IsIts, end_time, queue_time}
use Rattle.j39_vehicle.specs.declared.vehicle.Vehicle.{Vehicle}
use Rattle.j39_vehicle.specs.declared.vehicle.bus_plan.BusPlan.{BusPlan}
use Rattle.j39_vehicle.specs.declared.vehicle.forward.Forward.{Forward}
use Rattle.j39_vehicle_findings.specs.ForwardTests.{feeds, is_direct}
use Rattle.j39_vehicle_findings.specs.Traces.{goes_on, next_forward}
use Rattle.j39_vehicle_findings.specs.declared.point.FlowAt.{FlowAt}
use Rattle.j39_vehicle_findings.specs.declared.point.Point.{Point}
use Rattle.j39_vehicle_times.specs.BusDelays.{AreDelays, delays_on}
use Rattle.j39_vehicle_times.specs.TimeFindings.{period_ms}
use Rattle.j39_vehicle_times.specs.Times.{bits_within, delay_at, direct_feeder, forward_at, first_input_at, own_of, timing_on, unasked_at, us_of_ms, within_of}
use Rattle.j39_vehicle_times.specs.declared.bus_delays.Delays.{Delays}
use Rattle.j39_vehicle_times.proofs.DecidingTimes.{and_then_some, map_some}
use Rattle.j39_vehicle_laws.specs.ForwardedStreams.{AreOtherwiseKept, IsOtherwiseKept, streams_of}
use Rattle.j39_vehicle_laws.specs.KeptBuses.{IsKnownBus, asked_on}
use Rattle.j39_vehicle_laws.specs.MessagesSentOn.{CanBeSentOn, CanMessagesBeSentOn, CarriesValues, IsLoneForward, IsPacedFlow}
use Rattle.j39_vehicle_laws.specs.Prompt.{ArePrompt, IsSentDirectly, IsSentOn, is_unasked, scope_on, sent_from, whole_vehicle}
use Rattle.j39_vehicle_laws.specs.Seen.{SeenBus, SeenBuses, frames_at, longest_bit, of_us, shortest_bit}
use Rattle.j39_vehicle_laws.specs.VehicleAges.{IsPromptVehicle}
use Rattle.j39_vehicle_laws.specs.YoungValues.{KeepsItsPause}
use Rattle.j39_vehicle_laws.specs.Faithful.{KeepsContents, PassesValues}
use Rattle.j39_vehicle_laws.proofs.Feeders.{fed_by}
use Rattle.j39_vehicle_laws.proofs.OneFlow.{HasOwn, bound, its_stream, known_bus, none_ask, placed}
use Rattle.j39_vehicle_laws.proofs.Kept.{one_traffic}
use Rattle.j39_vehicle_laws.proofs.LoneFlow.{Fits, KeepsItsPace, LoneFlow, bus_with, fits, lone_kept, none_kept}
use Rattle.j39_vehicle_laws.proofs.TwoBuses.{at_x, at_y, both_buses, each_bus, in_both, seen_other, seen_x, seen_y}
use Rattle.j39_vehicle_laws.proofs.Parts.{within_some}
use Rattle.j39_vehicle_laws.proofs.LoneSteps.{at_step, behind_step, few_steps, fewer_bits, is_seen, unit_at, unit_small, unit_some, unit_step, unit_true}
use Rattle.j39_vehicle_laws.proofs.LoneWay.{from_x, own_on_way, two_points, unasked_flow}

module _ (v : Vehicle) (delays : Delays) (stated : AreDelays v delays) (n : ℕ) (forward : Forward) (x y : FlowAt) (within by : ℕ)
    (lone : IsLoneForward v delays n forward x y within) (paced : IsPacedFlow v x) (before bytes : List ℕ)
    (carries : CarriesValues v forward before bytes) where
  stated_at : (at : FlowAt) (bits : ℕ) → delay_at delays at ≡ Some bits → slice_get (delays_on delays at.bus) at.flow ≡ Some (Some (Within bits))
  stated_at at bits delayed =
      let (d, here, within) = and_then_some bits_within (slice_get (delays_on delays at.bus) at.flow) bits delayed in
      here ∙ ap (λ (o : Option Delay). Some o) (within_some d bits within)

  sent_from_x : sent_from v delays y ≡ Some x
  sent_from_x = ap (λ (o : Option ℕ). option_and_then (λ (bits : ℕ). option_and_then (first_input_at v) (direct_feeder v y)) o) lone.stated_y.1
      ∙ (ap (option_and_then (first_input_at v)) lone.fed ∙ lone.sends.input)

  is_sent_on : IsSentOn v delays y
  is_sent_on = (x, sent_from_x)

  -- no request that has a period asks for them
  are_unasked : (is_unasked v y ≡ true) × (is_unasked v x ≡ true)
  are_unasked = lone.unasked y x sent_from_x

  fits_x : (ident : ℕ) × Fits (streams_of lone.timed_x.0 (frames_asked (asked_on (known_bus v delays stated x.bus lone.timed_x.0 lone.timed_x.1)))) x.flow ident
  fits_x = fits v delays x.bus lone.timed_x.0 (known_bus v delays stated x.bus lone.timed_x.0 lone.timed_x.1) x.flow lone.stated_x.0
      (stated_at x lone.stated_x.0 lone.stated_x.1) are_unasked.1

  fits_y : (ident : ℕ) × Fits (streams_of lone.timed_y.0 (frames_asked (asked_on (known_bus v delays stated y.bus lone.timed_y.0 lone.timed_y.1)))) y.flow ident
  fits_y = fits v delays y.bus lone.timed_y.0 (known_bus v delays stated y.bus lone.timed_y.0 lone.timed_y.1) y.flow lone.stated_y.0
      (stated_at y lone.stated_y.0 lone.stated_y.1) are_unasked.0

  ident_x : ℕ
  ident_x = fits_x.0

  ident_y : ℕ
  ident_y = fits_y.0

  fits_of_x : Fits (streams_of lone.timed_x.0 (frames_asked (asked_on (known_bus v delays stated x.bus lone.timed_x.0 lone.timed_x.1)))) x.flow ident_x
  unfolding ident_x
  fits_of_x = fits_x.1

  fits_of_y : Fits (streams_of lone.timed_y.0 (frames_asked (asked_on (known_bus v delays stated y.bus lone.timed_y.0 lone.timed_y.1)))) y.flow ident_y
  unfolding ident_y
  fits_of_y = fits_y.1

  -- ---- steps

  step : ℕ
  step = 1000 * paced.ms * million

  step_is : step ≡ 1000 * paced.ms * million
  unfolding step
  step_is = refl

  some_ms : 1 ≤ paced.ms
  some_ms =
      let (pace, at, is) = map_some (λ (p : Pace). p.period) paced.flow.pace paced.ms paced.period in
      let some = pace.period_positive in
      omega (arith, some, is)

  some_step : 1 ≤ step
  some_step = let some = some_ms in let is = step_is in omega (arith, some, is)

  abbrev width_x : ℕ
  width_x = paced.ms * bits_per_ms lone.timed_x.0.bitrate

  abbrev width_y : ℕ
  width_y = paced.ms * bits_per_ms lone.timed_y.0.bitrate

  some_x : 1 ≤ width_x
  some_x = let some = some_own lone.timed_x.0.bitrate paced.ms some_ms in omega (arith, some)

  some_y : 1 ≤ width_y
  some_y = let some = some_own lone.timed_y.0.bitrate paced.ms some_ms in omega (arith, some)

  step_x : unit_at v x.bus * width_x ≡ step
  step_x = unit_step v x.bus lone.timed_x.0 paced.ms lone.timed_x.1 ∙ sym step_is

  step_y : unit_at v y.bus * width_y ≡ step
  step_y = unit_step v y.bus lone.timed_y.0 paced.ms lone.timed_y.1 ∙ sym step_is

  -- ---- buses

  abbrev lone_x : LoneFlow
  lone_x = record {
    unit = unit_at v x.bus;
    count = suc by;
    flow = x.flow;
    width = width_x;
    step = step;
    late = 0;
    ident = ident_x;
    now = suc by * width_x + (by + 100);
    bytes = before;
  }

  abbrev lone_y : LoneFlow
  lone_y = record {
    unit = unit_at v y.bus;
    count = suc by;
    flow = y.flow;
    width = width_y;
    step = step;
    late = 8;
    ident = ident_y;
    now = suc by * width_y + (by + 100);
    bytes = bytes;
  }

  abbrev lone_none : ℕ → LoneFlow
  lone_none b = record {
    unit = unit_at v b;
    count = 0;
    flow = 0;
    width = 1;
    step = step;
    late = 0;
    ident = 0;
    now = by;
    bytes = [];
  }

  abbrev bus_x : SeenBus
  bus_x = bus_with lone_x

  abbrev bus_y : SeenBus
  bus_y = bus_with lone_y

  abbrev bus_none : ℕ → SeenBus
  bus_none b = bus_with (lone_none b)

  abbrev seen : SeenBuses
  seen = both_buses x.bus y.bus bus_x bus_y bus_none

  -- there are frames of these two flows alone
  occupied : (z : FlowAt) (q : ℕ) → IsIts (frames_at v seen z) q → (z ≡ x) ⊎ (z ≡ y)
  occupied z q its = elim (cases_Bool (eqb z.bus x.bus)) [
    | inl is ↦
        let bus : z.bus ≡ x.bus = eqb-true z.bus x.bus is in
        let flow : x.flow ≡ z.flow = subst (λ (s : SeenBus). s.of.source q ≡ z.flow) (seen_x x.bus y.bus bus_x bus_y bus_none z.bus is) its.2 in
        inl (λ i. record { bus = bus i; flow = sym flow i })
    | inr isnt ↦ elim (cases_Bool (eqb z.bus y.bus)) [
      | inl is ↦
          let bus : z.bus ≡ y.bus = eqb-true z.bus y.bus is in
          let flow : y.flow ≡ z.flow = subst (λ (s : SeenBus). s.of.source q ≡ z.flow) (seen_y x.bus y.bus bus_x bus_y bus_none z.bus isnt is) its.2 in
          inr (λ i. record { bus = bus i; flow = sym flow i })
      | inr neither ↦
          let few : q < 0 = subst (λ (s : SeenBus). q < s.schedule.count) (seen_other x.bus y.bus bus_x bus_y bus_none z.bus isnt neither) its.0 in
          absurd (omega (arith, few))
    ]
  ]

  timed_of : (b : ℕ) (timing : Timing) → IsKnownBus v delays b timing → timing_on v.buses.items b ≡ Some timing
  timed_of b timing of_bus = ap (option_and_then (λ (bus : BusPlan). timing_of bus.plan)) of_bus.its ∙ of_bus.timed

  -- the flow of its own keeps its pace
  has_own : HasOwn v delays x (own_of lone.timed_x.0 paced.flow lone.stated_x.0)
  has_own = record {
    timing = lone.timed_x.0;
    timed = lone.timed_x.1;
    flow = paced.flow;
    its = paced.its;
    bits = lone.stated_x.0;
    delayed = lone.stated_x.1;
    sum = refl;
  }

  period_x : ((streams_of lone.timed_x.0 (frames_asked (asked_on (known_bus v delays stated x.bus lone.timed_x.0 lone.timed_x.1)))).stream x.flow).period
      ≤ width_x
  unfolding has_own
  period_x =
      let stream = its_stream v delays stated x (own_of lone.timed_x.0 paced.flow lone.stated_x.0) has_own
      (none_ask v x paced.flow paced.its are_unasked.1) in
      let same : stream.period ≡ paced.ms = same_Some _ _ (sym stream.period_is ∙ paced.period) in
      let few = fewer_bits lone.timed_x.0 paced.ms in
      let bits : (bound v delays stated x (own_of lone.timed_x.0 paced.flow lone.stated_x.0) has_own).frames.stream.period
      ≡ bits_at_least lone.timed_x.0 paced.ms =
      stream.apart ∙ ap (bits_at_least lone.timed_x.0) same in
      subst (λ (f : FlowFrames). f.stream.period ≤ width_x) (sym (placed v delays stated x (own_of lone.timed_x.0 paced.flow lone.stated_x.0) has_own))
      (omega (arith, few, bits))

  pace_x : (timing : Timing) (other : IsKnownBus v delays x.bus timing) → KeepsItsPace v x.bus timing (streams_of timing (frames_asked (asked_on other))) lone_x
  pace_x timing other = record {
    at_once = refl;
    period = subst (λ (tr : Traffic). (tr.stream x.flow).period ≤ width_x)
        (one_traffic v delays x.bus lone.timed_x.0 timing (known_bus v delays stated x.bus lone.timed_x.0 lone.timed_x.1) other) period_x;
    apart = λ flow ms its period.
        let one : flow ≡ paced.flow = same_Some _ _ (sym its ∙ paced.its) in
        let same : ms ≡ paced.ms = same_Some _ _ (sym period ∙ (ap period_ms one ∙ paced.period)) in
        let less : 1000 * ms * shortest_million timing ≤ 1000 * ms * million = mul-le-mul_left (1000 * ms) (slower timing) in
        let most : 1000 * ms * million ≡ step = ap (λ (k : ℕ). 1000 * k * million) same ∙ sym step_is in
        omega (arith, less, most);
  }

  kept : AreOtherwiseKept v delays (whole_vehicle v) seen
  kept b timing of_bus inside = elim (cases_Bool (eqb b x.bus)) [
    | inl is ↦
        let same : b ≡ x.bus = eqb-true b x.bus is in
        subst (λ (s : SeenBus). IsOtherwiseKept v delays b timing (asked_on of_bus).unplanned_end (frames_asked (asked_on of_bus)) (scope_on (whole_vehicle v) b) s)
        (sym (seen_x x.bus y.bus bus_x bus_y bus_none b is))
        (subst (λ (c : ℕ). (other : IsKnownBus v delays c timing) → IsOtherwiseKept v delays c timing (asked_on other).unplanned_end (frames_asked (asked_on other))
        (scope_on (whole_vehicle v) c) bus_x) (sym same)
        (λ other. lone_kept timing lone_x some_x (unit_true v x.bus timing (timed_of x.bus timing other)) (asked_on other).unplanned_end (frames_asked (asked_on other))
        (subst (λ (tr : Traffic). Fits tr x.flow ident_x)
        (one_traffic v delays x.bus lone.timed_x.0 timing (known_bus v delays stated x.bus lone.timed_x.0 lone.timed_x.1) other) fits_of_x)
        (lone.in_order x.bus timing other) v delays x.bus (scope_on (whole_vehicle v) x.bus) (λ own. pace_x timing other)) of_bus)
    | inr isnt ↦ elim (cases_Bool (eqb b y.bus)) [
      | inl is ↦
          let same : b ≡ y.bus = eqb-true b y.bus is in
          subst (λ (s : SeenBus). IsOtherwiseKept v delays b timing (asked_on of_bus).unplanned_end (frames_asked (asked_on of_bus)) (scope_on (whole_vehicle v) b) s)
          (sym (seen_y x.bus y.bus bus_x bus_y bus_none b isnt is))
          (subst (λ (c : ℕ). (other : IsKnownBus v delays c timing) → IsOtherwiseKept v delays c timing (asked_on other).unplanned_end (frames_asked (asked_on other))
          (scope_on (whole_vehicle v) c) bus_y) (sym same)
          (λ other. lone_kept timing lone_y some_y (unit_true v y.bus timing (timed_of y.bus timing other)) (asked_on other).unplanned_end (frames_asked (asked_on other))
          (subst (λ (tr : Traffic). Fits tr y.flow ident_y)
          (one_traffic v delays y.bus lone.timed_y.0 timing (known_bus v delays stated y.bus lone.timed_y.0 lone.timed_y.1) other) fits_of_y)
          (lone.in_order y.bus timing other) v delays y.bus (scope_on (whole_vehicle v) y.bus) (λ own. absurd (own is_sent_on))) of_bus)
      | inr neither ↦
          subst (λ (s : SeenBus). IsOtherwiseKept v delays b timing (asked_on of_bus).unplanned_end (frames_asked (asked_on of_bus)) (scope_on (whole_vehicle v) b) s)
          (sym (seen_other x.bus y.bus bus_x bus_y bus_none b isnt neither))
          (none_kept v delays b timing (asked_on of_bus).unplanned_end (frames_asked (asked_on of_bus)) (scope_on (whole_vehicle v) b) (lone_none b) refl (omega arith)
          (unit_true v b timing (timed_of b timing of_bus)))
    ]
  ]

  -- ---- the gateway

  begun_x : HasBegun (frames_at v seen x) 0
  begun_x = subst (λ (s : SeenBus). ((0 < s.schedule.count) × (s.planned 0 ≡ true) × (s.of.source 0 ≡ x.flow))
      × (s.schedule.start 0 < s.schedule.now)) (sym (at_x x.bus y.bus bus_x bus_y bus_none))
      ((omega arith, refl, refl), is_seen 0 by width_x 0 (omega arith) (omega arith))

  begun_y : HasBegun (frames_at v seen y) 0
  begun_y = subst (λ (s : SeenBus). ((0 < s.schedule.count) × (s.planned 0 ≡ true) × (s.of.source 0 ≡ y.flow))
      × (s.schedule.start 0 < s.schedule.now)) (sym (at_y x.bus y.bus bus_x bus_y bus_none lone.other_bus))
      ((omega arith, refl, refl), is_seen 0 by width_y 8 (omega arith) (omega arith))

  within_some_ms : 1000 ≤ within
  within_some_ms =
      let (ms, written, made) = map_some us_of_ms forward.within within lone.sends.promised in
      let least : 1 ≤ ms = forward.within_positive ms written in
      omega (arith, least, made)

  abbrev carrier_of : SeenBus → FlowAt → Carrier
  carrier_of s at = record {
    schedule = s.schedule;
    clock = record { time = s.time; shortest = shortest_bit v at.bus; longest = longest_bit v at.bus };
    planned = s.planned;
    of = s.of;
    source = at.flow;
    release = s.release;
    born = s.release;
  }

  -- each message is sent on 8 bits behind its release on the other bus, when it has ended
  ended_first : (q : ℕ) → unit_at v x.bus * (q * width_x + 0 + 1) ≤ unit_at v y.bus * (q * width_y + 8)
  ended_first q =
      let small = unit_small v x.bus in
      let some = unit_some v y.bus in
      let first = behind_step (unit_at v x.bus) width_x step q 1 step_x in
      let same : unit_at v x.bus * (q * width_x + 0 + 1) ≡ unit_at v x.bus * (q * width_x + 1) = ap (λ (k : ℕ). unit_at v x.bus * k) (omega arith) in
      let second = behind_step (unit_at v y.bus) width_y step q 8 step_y in
      omega (arith, small, some, first, same, second)

  queued_soon : (q : ℕ) → unit_at v y.bus * (q * width_y + 8) ≤ unit_at v x.bus * (q * width_x + 0 + 1) + of_us within
  queued_soon q =
      let small = unit_small v y.bus in
      let enough = within_some_ms in
      let first = behind_step (unit_at v x.bus) width_x step q 1 step_x in
      let same : unit_at v x.bus * (q * width_x + 0 + 1) ≡ unit_at v x.bus * (q * width_x + 1) = ap (λ (k : ℕ). unit_at v x.bus * k) (omega arith) in
      let second = behind_step (unit_at v y.bus) width_y step q 8 step_y in
      omega (arith, small, enough, first, same, second)

  record AreHandedOn (A B : SeenBus) : Type 0 where
    handed : IsHandedOn (carrier_of A x) (carrier_of B y) (of_us within)
    each : (p : ℕ) → HasBegun (carrier_of A x) p → (q : ℕ) × IsIts (carrier_of B y) q × (handed.what q ≡ p)
    says : (q : ℕ) (s t : Option ℕ) → B.born q t ≡ A.born (handed.what q) s
    keeps : (q : ℕ) → KeepsContents v forward (Some (A.bytes (handed.what q))) (B.bytes q)
    takes : (q : ℕ) → B.carries n q (handed.what q) ≡ true

  handed_on : AreHandedOn bus_x bus_y
  handed_on = record {
    handed = record {
      what = λ q. q;
      begun = λ q its. ((its.0, refl, refl), is_seen q by width_x 0 its.0 (omega arith));
      releases = λ q its. refl;
      after = λ q its. ended_first q;
      within_time = λ q its. queued_soon q;
      different = λ p q its other differ. differ;
      first_bit = λ q its. let at = at_step (unit_at v y.bus) width_y step q step_y in omega (arith, at);
      last_bit = λ q its.
          let some = unit_some v y.bus in
          let at = behind_step (unit_at v y.bus) width_y step q 1 step_y in
          omega (arith, some, at);
    };
    each = λ p begun. (p, (begun.0.0, refl, refl), refl);
    says = λ q s t. refl;
    keeps = λ q. carries.keeps;
    takes = λ q. eq-eqb q q refl;
  }

  sent_directly : IsSentDirectly v seen n x y within
  sent_directly =
      let whole : AreHandedOn (seen x.bus) (seen y.bus) = in_both x.bus y.bus bus_x bus_y bus_none lone.other_bus AreHandedOn handed_on in
      record {
        handed = whole.handed;
        each = whole.each;
        says = λ s t leads q its. whole.says q s t;
        keeps = λ other at q its.
            subst (λ (f : Forward). KeepsContents v f (Some ((seen x.bus).bytes (whole.handed.what q))) ((seen y.bus).bytes q))
            (same_Some _ _ (sym lone.sends.its ∙ at)) (whole.keeps q);
        carries = λ q its. whole.takes q;
      }

  -- any other has no message to send on
  not_heard : (m : ℕ) (other : Forward) (z : FlowAt) (p : ℕ) → m ≢ n → forward_at v m ≡ Some other → first_input_at v other ≡ Some z
      → IsIts (frames_at v seen z) p
      → ⊥
  not_heard m other z p differ its input is = elim (occupied z p is) [
    | inl same ↦ differ (lone.heard m other its (subst (λ (f : FlowAt). first_input_at v other ≡ Some f) same input))
    | inr same ↦ lone.last m other its (subst (λ (f : FlowAt). first_input_at v other ≡ Some f) same input)
  ]

  not_sent : (m : ℕ) (other : Forward) (z : FlowAt) (q : ℕ) → m ≢ n → forward_at v m ≡ Some other → is_direct other ≡ true → feeds v z other ≡ true
      → IsIts (frames_at v seen z) q → ⊥
  not_sent m other z q differ its direct feeding is = elim (occupied z q is) [
    | inl same ↦ fed_by v x m other (subst (λ (f : FlowAt). feeds v f other ≡ true) same feeding) direct its lone.first
    | inr same ↦ differ (lone.alone m other its (subst (λ (f : FlowAt). feeds v f other ≡ true) same feeding))
  ]

  prompt : ArePrompt v delays (whole_vehicle v) seen
  prompt = record {
    direct = λ m other a b time sends direct inside stated_a stated_b. elim (cases_eq m n) [
      | inl same ↦
          let one : other ≡ forward = same_Some _ _ (sym sends.its ∙ (ap (forward_at v) same ∙ lone.sends.its)) in
          let heard : a ≡ x = same_Some _ _ (sym (subst (λ (f : Forward). first_input_at v f ≡ Some a) one sends.input) ∙ lone.sends.input) in
          let sent : b ≡ y = lone.only b (subst (λ (f : Forward). feeds v b f ≡ true) one sends.output) in
          let promised : time ≡ within = same_Some _ _ (sym (subst (λ (f : Forward). within_of f ≡ Some time) one sends.promised) ∙ lone.sends.promised) in
          subst (λ (k : ℕ). IsSentDirectly v seen k a b time) (sym same)
          (subst (λ (f : FlowAt). IsSentDirectly v seen n f b time) (sym heard)
          (subst (λ (f : FlowAt). IsSentDirectly v seen n x f time) (sym sent)
          (subst (λ (w : ℕ). IsSentDirectly v seen n x y w) (sym promised) sent_directly)))
      | inr differ ↦
          let no_input : (p : ℕ) → IsIts (frames_at v seen a) p → ⊥ = λ p its. not_heard m other a p differ sends.its sends.input its in
          let no_output : (q : ℕ) → IsIts (frames_at v seen b) q → ⊥ = λ q its. not_sent m other b q differ sends.its direct sends.output its in
          record {
            handed = record {
              what = λ q. 0;
              begun = λ q its. absurd (no_output q its);
              releases = λ q its. absurd (no_output q its);
              after = λ q its. absurd (no_output q its);
              within_time = λ q its. absurd (no_output q its);
              different = λ p q its. absurd (no_output p its);
              first_bit = λ q its. absurd (no_output q its);
              last_bit = λ q its. absurd (no_output q its);
            };
            each = λ p begun. absurd (no_input p begun.0);
            says = λ s t leads q its. absurd (no_output q its);
            keeps = λ one at q its. absurd (no_output q its);
            carries = λ q its. absurd (no_output q its);
          }
    ];
    periodic = λ m other a b time pause behind sends periodic among interval known. record {
      newest = λ s t leads p q begun its. elim (cases_eq m n) [
        | inl same ↦
            let one : other ≡ forward = same_Some _ _ (sym sends.its ∙ (ap (forward_at v) same ∙ lone.sends.its)) in
            absurd (true≢false (sym lone.direct ∙ (ap is_direct (sym one) ∙ periodic)))
        | inr differ ↦ absurd (not_heard m other a p differ sends.its sends.input begun.0)
      ];
    };
  }

  -- a frame has its release at a bit, and says what is so then
  released : (b p : ℕ) → p < (seen b).schedule.count → (seen b).release p ≡ (seen b).time ((seen b).of.since p)
  released b p = each_bus x.bus y.bus bus_x bus_y bus_none b (λ s. p < s.schedule.count → s.release p ≡ s.time (s.of.since p))
      (λ in_p. sym (at_step (unit_at v x.bus) width_x step p step_x)) (λ in_p. sym (at_step (unit_at v y.bus) width_y step p step_y))
      (λ in_p. absurd (omega (arith, in_p)))

  said : (b q : ℕ) (signal : Option ℕ) → q < (seen b).schedule.count → (time : ℕ) × ((seen b).born q signal ≡ Some time) × ((seen b).release q ≤ time)
      × (time ≤ (seen b).time ((seen b).schedule.queued q))
  said b q signal = each_bus x.bus y.bus bus_x bus_y bus_none b (λ s. q < s.schedule.count → (time : ℕ) × (s.born q signal ≡ Some time) × (s.release q ≤ time)
      × (time ≤ s.time (s.schedule.queued q)))
      (λ in_q. (q * step, refl, omega arith, let at = behind_step (unit_at v x.bus) width_x step q 0 step_x in omega (arith, at)))
      (λ in_q. (q * step, refl, omega arith, let at = behind_step (unit_at v y.bus) width_y step q 8 step_y in omega (arith, at)))
      (λ in_q. absurd (omega (arith, in_q)))

  abbrev whole : IsPromptVehicle v delays seen by
  whole = record {
    scope = whole_vehicle v;
    closed = record {
      its_bus = λ at among. refl;
      sources = λ at from inside sent. (lone.unasked at from sent).1;
      unasked = λ at among. among;
      sent_unasked = λ at from inside sent. (lone.unasked at from sent).0;
    };
    kept = kept;
    until = λ b timing inside timed.
        each_bus x.bus y.bus bus_x bus_y bus_none b (λ s. by ≤ s.time s.schedule.now) (times_more (unit_at v x.bus) width_x (unit_some v x.bus))
        (times_more (unit_at v y.bus) width_y (unit_some v y.bus))
        (times_by (unit_at v b) by (unit_some v b));
    prompt = prompt;
    own_releases = λ at inside own q its. released at.bus q its.0;
    origins = λ p among last q its. said p.at.bus q p.signal its.0;
  }
    where
      times_by : (u t : ℕ) → 1000000 ≤ u → t ≤ u * t
      times_by u t some = let more : 1 * t ≤ u * t = mul-le-mul_right t (omega (arith, some)) in omega (arith, more)

      times_more : (u width : ℕ) → 1000000 ≤ u → by ≤ u * (suc by * width + (by + 100))
      times_more u width some = let more = times_by u (suc by * width + (by + 100)) some in omega (arith, more)

  -- a release comes at each step
  keeps_pause : KeepsItsPause v seen x 0 by
  keeps_pause pause known t from to =
      let (flow, unasked, rest) = and_then_some (λ (f : FlowPlan). option_and_then
      (λ (timing : Timing). option_map (λ (ms : ℕ). ms * longest_million timing) f.pause)
      (timing_on v.buses.items x.bus)) (unasked_at v x) pause known in
      let (timing, timed, more) = and_then_some (λ (timing : Timing). option_map (λ (ms : ℕ). ms * longest_million timing) flow.pause)
      (timing_on v.buses.items x.bus) pause rest in
      let (ms, paused, made) = map_some (λ (ms : ℕ). ms * longest_million timing) flow.pause pause more in
      let one : flow ≡ paced.flow = same_Some _ _ (sym (unasked_flow v x flow unasked) ∙ paced.its) in
      let longer = paced.longer ms (sym (ap (λ (f : FlowPlan). f.pause) one) ∙ paused) in
      let fast : paced.ms * million ≤ paced.ms * longest_million timing = mul-le-mul_left paced.ms (faster timing) in
      let most : paced.ms * longest_million timing ≤ ms * longest_million timing = mul-le-mul_right (longest_million timing) longer in
      let is = step_is in
      let few : step ≤ 1000 * pause = omega (arith, fast, most, made, is) in
      let low = div-mul-le_self t step in
      let high : t < t / step * step + step = lt-div-mul-add {a = t} {b = step} some_step in
      let inside = few_steps t step some_step in
      subst (λ (s : SeenBus). (p : ℕ) × ((p < s.schedule.count) × (s.planned p ≡ true) × (s.of.source p ≡ x.flow)) × (s.release p ≤ t)
      × (t < s.release p + 1000 * pause)) (sym (at_x x.bus y.bus bus_x bus_y bus_none))
      (t / step, (omega (arith, inside, to), refl, refl), low, omega (arith, high, few))

  pub messages_sent_on : CanBeSentOn v delays n x y before bytes by
  messages_sent_on = record {
    seen = seen;
    prompt = whole;
    whole = refl;
    message = 0;
    begun = begun_x;
    heard = ap (λ (s : SeenBus). s.bytes 0) (at_x x.bus y.bus bus_x bus_y bus_none);
    next = 0;
    sent = begun_y;
    says = ap (λ (s : SeenBus). s.bytes 0) (at_y x.bus y.bus bus_x bus_y bus_none lone.other_bus);
    behind = in_both x.bus y.bus bus_x bus_y bus_none lone.other_bus (λ A B. end_time (carrier_of A x) 0 ≤ queue_time (carrier_of B y) 0) (ended_first 0);
    carries = ap (λ (s : SeenBus). s.carries n 0 0) (at_y x.bus y.bus bus_x bus_y bus_none lone.other_bus);
    pauses = λ p traced q way at comes unfed.
        subst (λ (f : FlowAt). KeepsItsPause v seen f 0 by) (sym (own_on_way v delays n forward x y within lone p q at traced way comes unfed)) keeps_pause;
    passes = λ p traced q r m other frame carried way next its on takes.
        elim (two_points v n y p traced way) [
          | inr there ↦ absurd (none-some m (sym (ap (next_forward v) there ∙ traced.ends) ∙ next))
          | inl here ↦
              let same : m ≡ n = same_Some _ _ (sym next ∙ (ap (next_forward v) here ∙ traced.next)) in
              let one : other ≡ forward = same_Some _ _ (sym its ∙ (ap (forward_at v) same ∙ lone.sends.its)) in
              let far : r ≡ traced.from = same_Some _ _ (sym on ∙ (ap (λ (z : Point). goes_on v z m) here ∙ (ap (goes_on v p) same ∙ traced.on))) in
              let of_x : (seen r.at.bus).bytes carried ≡ before =
              ap (λ (z : Point). (seen z.at.bus).bytes carried) far ∙ (ap (λ (f : FlowAt). (seen f.bus).bytes carried)
              (from_x v delays n forward x y within lone p traced)
              ∙ ap (λ (s : SeenBus). s.bytes carried) (at_x x.bus y.bus bus_x bus_y bus_none)) in
              let of_y : (seen q.at.bus).bytes frame ≡ bytes =
              ap (λ (z : Point). (seen z.at.bus).bytes frame) here ∙ (ap (λ (f : FlowAt). (seen f.bus).bytes frame) traced.of
              ∙ ap (λ (s : SeenBus). s.bytes frame) (at_y x.bus y.bus bus_x bus_y bus_none lone.other_bus)) in
              subst (λ (f : Forward). PassesValues v f ((seen r.at.bus).bytes carried) ((seen q.at.bus).bytes frame)) (sym one)
              (subst (λ (l : List ℕ). PassesValues v forward l ((seen q.at.bus).bytes frame)) (sym of_x)
              (subst (λ (l : List ℕ). PassesValues v forward before l) (sym of_y) carries.passes))
        ];
  }

pub can_be_sent_on : (v : Vehicle) (delays : Delays) → CanMessagesBeSentOn v delays
can_be_sent_on v delays stated n forward x y within by lone paced before bytes carries =
    messages_sent_on v delays stated n forward x y within by lone paced before bytes carries

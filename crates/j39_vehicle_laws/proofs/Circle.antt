-- The buses of a vehicle as the law of vehicles knows them: what gateways send on directly keeps to its streams.
use Rattle.std.proofs.Common.{◌≡◌, ℕ, zero, suc, ◌+◌, ◌*◌, ◌-◌, ◌≤◌, Bool, true, false, cond, List, [], ◌++◌, length, is_some, unwrap_or, Option, Some, None}
use Rattle.std.proofs.Common.{refl, sym, ap, ◌∙◌, subst, arith}
use Rattle.std.proofs.lemmas.Bool.{false≢true, true≢false}
use Rattle.std.proofs.lemmas.Option.{none-some, same_Some}
use Rattle.std.specs.Option.{option_and_then, option_map_or}
use Rattle.j39_network.specs.declared.plan.flow_plan.FlowPlan.{FlowPlan}
use Rattle.j39_network.specs.declared.plan.timing.Timing.{Timing}
use Rattle.j39_load.specs.declared.frames.flow_frames.FlowFrames.{FlowFrames}
use Rattle.j39_load.specs.Asked.{frames_asked}
use Rattle.j39_load.specs.Clocks.{shortest_million}
use Rattle.j39_load.specs.Loads.{bits_at_least, us_of_bits}
use Rattle.j39_load.specs.PlannedFrames.{IsBounded, no_frames, others_of, planned_at}
use Rattle.j39_timing.specs.FrameBits.{longest_frame}
use Rattle.j39_vehicle_laws.specs.Gateways.{steady}
use Rattle.j39_timing.specs.Traffic.{IsSingle, Traffic, delay_of, no_twins}
use Rattle.j39_vehicle_laws.specs.Vehicles.{Bus}
use Rattle.j39_timing.specs.declared.stream.Stream.{Stream}
use Rattle.j39_vehicle.specs.declared.vehicle.Vehicle.{Vehicle}
use Rattle.j39_vehicle.specs.declared.vehicle.forward.Forward.{Forward}
use Rattle.j39_vehicle_findings.specs.declared.point.FlowAt.{FlowAt}
use Rattle.j39_vehicle_times.specs.BusDelays.{AreDelays}
use Rattle.j39_vehicle_times.specs.declared.bus_delays.Delays.{Delays}
use Rattle.j39_vehicle_times.specs.Times.{askers_on, behind_at, behind_by, behind_release, delay_at, direct_feeder, flow_at, first_input_at, jitter_ms, own}
use Rattle.j39_vehicle_times.specs.Times.{own_of}
use Rattle.j39_vehicle_times.specs.Times.{queued_behind, queued_of, sum_known, timing_on, us_of_ms, within_of}
use Rattle.j39_vehicle_laws.specs.ForwardedStreams.{streams_of}
use Rattle.j39_vehicle_laws.specs.KeptBuses.{IsKnownBus, asked_on}
use Rattle.j39_vehicle_laws.specs.Prompt.{Scope, sent_from}
use Rattle.j39_vehicle_laws.specs.Seen.{SeenBuses, clock_on, longest_bit, of_us, shortest_bit}
use Rattle.j39_vehicle_laws.proofs.Behind.{fed_never, fed_parts, unfed_release}
use Rattle.j39_vehicle_laws.proofs.OneFlow.{HasOwn, HasStream, bound, its_stream, jitter_room, known_bus, own_from, own_is, placed, release_fits}
use Rattle.j39_vehicle_laws.proofs.OneFlow.{release_is}
use Rattle.j39_vehicle_laws.proofs.Parts.{some_cases}
use Rattle.j39_vehicle_laws.proofs.TrueTimes.{near_here}

-- ---- values that may be there

pub is_some_true : {A : Type 0} (o : Option A) → is_some o ≡ true → (x : A) × (o ≡ Some x)
is_some_true None is = absurd (false≢true is)
is_some_true (Some x) is = (x, refl)

pub is_some_false : {A : Type 0} (o : Option A) → is_some o ≡ false → ¬ ((x : A) × (o ≡ Some x))
is_some_false None is (x, at) = none-some x at
is_some_false (Some y) is (x, at) = true≢false is

-- ---- what is known for so many steps is known for one more

pub fed_make : (v : Vehicle) (delays : Delays) (steps : ℕ) (at : FlowAt) (n : Forward) (source : FlowAt) (before within own_time : ℕ)
    → direct_feeder v at ≡ Some n
    → first_input_at v n ≡ Some source → behind_by v delays steps source ≡ Some before → within_of n ≡ Some within → own v delays at ≡ Some own_time
    → behind_by v delays (suc steps) at ≡ Some (before + within + own_time)
unfolding behind_by
fed_make v delays steps at n source before within own_time feeder input known promised owns =
    ap (λ (o : Option Forward). option_map_or (λ m. sum_known (queued_behind v m (behind_by v delays steps)) (own v delays at)) o
    (behind_release v delays at)) feeder
    ∙ (ap (λ (o : Option ℕ). sum_known (sum_known o (within_of n)) (own v delays at)) (ap (option_and_then (behind_by v delays steps)) input ∙ known)
    ∙ (ap (λ (o : Option ℕ). sum_known (sum_known (Some before) o) (own v delays at)) promised
    ∙ ap (λ (o : Option ℕ). sum_known (Some (before + within)) o) owns))

unfed_make : (v : Vehicle) (delays : Delays) (steps : ℕ) (at : FlowAt) → direct_feeder v at ≡ None
    → behind_by v delays (suc steps) at ≡ behind_release v delays at
unfolding behind_by
unfed_make v delays steps at none =
    ap (λ (o : Option Forward). option_map_or (λ m. sum_known (queued_behind v m (behind_by v delays steps)) (own v delays at)) o
    (behind_release v delays at)) none

pub known_on : (v : Vehicle) (delays : Delays) (steps : ℕ) (at : FlowAt) (time : ℕ) → behind_by v delays steps at ≡ Some time
    → behind_by v delays (suc steps) at ≡ Some time
known_on v delays zero at time known = some_cases (direct_feeder v at) (behind_by v delays (suc zero) at ≡ Some time)
    (λ none. unfed_make v delays zero at none ∙ unfed_release v delays zero at time none known)
    (λ n feeder. absurd (fed_never v delays at time n feeder known))
known_on v delays (suc steps) at time known = some_cases (direct_feeder v at) (behind_by v delays (suc (suc steps)) at ≡ Some time)
    (λ none. unfed_make v delays (suc steps) at none ∙ unfed_release v delays (suc steps) at time none known)
    (λ n feeder.
    let fed = fed_parts v delays steps at time n feeder known in
    let more = known_on v delays steps fed.source fed.before fed.before_is in
    fed_make v delays (suc steps) at n fed.source fed.before fed.within fed.own_time feeder fed.source_is more fed.promised fed.own_is
    ∙ ap (λ (m : ℕ). Some m) (let sum = fed.sum in omega (arith, sum)))

-- ---- the buses

-- a bus of the scope that has timing
pub record TimedBus (v : Vehicle) (scope : Scope) (b : ℕ) : Type 0 where
  pub inside : scope.buses b ≡ true
  pub timing : Timing
  pub timed : timing_on v.buses.items b ≡ Some timing

abbrev pub at_of : ℕ → ℕ → FlowAt
at_of b i = record { bus = b; flow = i }

abbrev pub no_traffic : Traffic
no_traffic = record { count = 0; stream = λ j. no_frames.stream; demands = []; least = λ j. 0; greatest = λ j. 0; are_twins = no_twins }

pub view_with : (v : Vehicle) (scope : Scope) (b : ℕ) (c : Bool) → scope.buses b ≡ c → (o : Option Timing) → timing_on v.buses.items b ≡ o
    → Option (TimedBus v scope b)
view_with v scope b false outside o is = None
view_with v scope b true inside None none = None
view_with v scope b true inside (Some timing) timed = Some (record { inside = inside; timing = timing; timed = timed })

pub view : (v : Vehicle) (scope : Scope) (b : ℕ) → Option (TimedBus v scope b)
view v scope b = view_with v scope b (scope.buses b) refl (timing_on v.buses.items b) refl

pub viewed : (v : Vehicle) (scope : Scope) (b : ℕ) (timing : Timing) → scope.buses b ≡ true → timing_on v.buses.items b ≡ Some timing
    → (t : TimedBus v scope b) × (view v scope b ≡ Some t)
unfolding view_with view
viewed v scope b timing inside timed = go (scope.buses b) refl (timing_on v.buses.items b) refl inside timed
  where
    go : (c : Bool) (d : scope.buses b ≡ c) (o : Option Timing) (e : timing_on v.buses.items b ≡ o) → c ≡ true → o ≡ Some timing
        → (t : TimedBus v scope b) × (view_with v scope b c d o e ≡ Some t)
    go false d o e outside is = absurd (false≢true outside)
    go true d None e in_it is = absurd (none-some timing is)
    go true d (Some x) e in_it is = (record { inside = d; timing = x; timed = e }, refl)

module _ (v : Vehicle) (scope : Scope) (delays : Delays) (stated : AreDelays v delays) (seen : SeenBuses) where
  abbrev pub of_bus : {b : ℕ} → (t : TimedBus v scope b) → IsKnownBus v delays b t.timing
  of_bus {b} t = known_bus v delays stated b t.timing t.timed

  abbrev pub all_of : {b : ℕ} → TimedBus v scope b → List (Option FlowFrames)
  all_of t = frames_asked (asked_on (of_bus t))

  abbrev pub stream_of : {b : ℕ} → TimedBus v scope b → ℕ → Stream
  stream_of t i = (streams_of t.timing (all_of t)).stream i

  abbrev pub bus_with : (b : ℕ) → Option (TimedBus v scope b) → Bus
  bus_with b None = record {
    schedule = record { count = 0; queued = λ p. 0; start = λ p. 0; bits = λ p. 0; ident = λ p. 0; now = 0 };
    clock = steady 0 1;
    planned = λ p. false;
    of = (seen b).of;
    traffic = no_traffic;
    others = record { least = 0; count = 0 };
    longest = 0;
    release = λ p. 0;
  }
  bus_with b (Some t) = record {
    schedule = (seen b).schedule;
    clock = clock_on v seen b;
    planned = (seen b).planned;
    of = (seen b).of;
    traffic = streams_of t.timing (all_of t);
    others = others_of t.timing;
    longest = longest_frame 8;
    release = (seen b).release;
  }

  -- ---- numbers of streams, where they are those of flows of which a delay is reported

  abbrev pub direct_with : (b i : ℕ) → Option (TimedBus v scope b) → Bool
  direct_with b i None = false
  direct_with b i (Some t) = is_some (sent_from v delays (at_of b i))

  abbrev pub within_value : ℕ → ℕ → ℕ
  within_value b i = option_map_or (λ n. unwrap_or (within_of n) 0) (direct_feeder v (at_of b i)) 0

  abbrev pub queued_value : ℕ → ℕ → ℕ
  queued_value b i = option_map_or (λ n. unwrap_or (queued_of v delays n) 0) (direct_feeder v (at_of b i)) 0

  abbrev pub wait_with : (b i : ℕ) → Option (TimedBus v scope b) → ℕ
  wait_with b i None = 0
  wait_with b i (Some t) = unwrap_or (delay_at delays (at_of b i)) 0 - ((stream_of t i).jitter + (stream_of t i).bits)

  abbrev pub behind_with : (b i : ℕ) → Option (TimedBus v scope b) → ℕ
  behind_with b i None = 0
  behind_with b i (Some t) = cond (is_some (sent_from v delays (at_of b i)))
      (of_us (queued_value b i) + longest_bit v b * (wait_with b i (Some t) + (stream_of t i).bits))
      (longest_bit v b * delay_of (stream_of t i) (wait_with b i (Some t)))

  -- ---- one flow of which a delay is reported

  pub record IsStated (b i : ℕ) (t : TimedBus v scope b) : Type 0 where
    pub flow : FlowPlan
    pub its : flow_at v.buses.items (at_of b i) ≡ Some flow
    pub bits : ℕ
    pub delayed : delay_at delays (at_of b i) ≡ Some bits
    pub none_asks : askers_on v.buses.items b flow ≡ 0

  module _ (b i : ℕ) (t : TimedBus v scope b) (is : IsStated b i t) where
    abbrev pub time : ℕ
    time = own_of t.timing is.flow is.bits

    abbrev pub has : HasOwn v delays (at_of b i) (own_of t.timing is.flow is.bits)
    has = record { timing = t.timing; timed = t.timed; flow = is.flow; its = is.its; bits = is.bits; delayed = is.delayed; sum = refl }

    pub owns : own v delays (at_of b i) ≡ Some (own_of t.timing is.flow is.bits)
    owns = own_from v delays (at_of b i) t.timing is.flow is.bits t.timed is.its is.delayed

    abbrev pub bounded_here : IsBounded t.timing (asked_on (of_bus t)) i is.bits
    bounded_here = bound v delays stated (at_of b i) (own_of t.timing is.flow is.bits) has

    pub frames_are : planned_at (all_of t ++ Rattle.j39_load.specs.Damage.damage_frames t.timing) i ≡ bounded_here.frames
    frames_are = placed v delays stated (at_of b i) (own_of t.timing is.flow is.bits) has

    pub stream_is : stream_of t i ≡ bounded_here.frames.stream
    stream_is = ap (λ (f : FlowFrames). f.stream) frames_are

    pub streamed : HasStream t.timing is.flow bounded_here.frames bounded_here.load.limit
    streamed = its_stream v delays stated (at_of b i) (own_of t.timing is.flow is.bits) has is.none_asks

    pub single_here : IsSingle (stream_of t i)
    single_here = subst (λ (x : Stream). IsSingle x) (sym stream_is) streamed.single

    pub wait_is : wait_with b i (Some t) ≡ bounded_here.wait
    wait_is =
        let total : is.bits ≡ delay_of bounded_here.frames.stream bounded_here.wait = bounded_here.sum in
        ap (λ (o : Option ℕ). unwrap_or o 0 - ((stream_of t i).jitter + (stream_of t i).bits)) is.delayed
        ∙ (ap (λ (x : Stream). is.bits - (x.jitter + x.bits)) stream_is ∙ omega (arith, total))

    pub own_value : longest_bit v b * (wait_with b i (Some t) + (stream_of t i).bits) ≤ of_us (own_of t.timing is.flow is.bits)
    own_value =
        let same : longest_bit v b * (wait_with b i (Some t) + (stream_of t i).bits) ≡ longest_bit v b * (bounded_here.wait + bounded_here.frames.stream.bits) =
        ap (λ (w : ℕ). longest_bit v b * (w + (stream_of t i).bits)) wait_is ∙ ap (λ (x : Stream). longest_bit v b * (bounded_here.wait + x.bits)) stream_is in
        let fits = own_is v delays stated (at_of b i) (own_of t.timing is.flow is.bits) has is.none_asks in
        omega (arith, same, fits)

    pub release_value : behind_release v delays (at_of b i) ≡ Some (us_of_bits t.timing is.bits)
    release_value = release_is v delays stated (at_of b i) (own_of t.timing is.flow is.bits) has is.none_asks

    pub release_room : longest_bit v b * delay_of (stream_of t i) (wait_with b i (Some t)) ≤ of_us (us_of_bits t.timing is.bits)
    release_room =
        let same : longest_bit v b * delay_of (stream_of t i) (wait_with b i (Some t))
        ≡ longest_bit v b * delay_of bounded_here.frames.stream bounded_here.wait =
        ap (λ (w : ℕ). longest_bit v b * delay_of (stream_of t i) w) wait_is ∙ ap (λ (x : Stream). longest_bit v b * delay_of x bounded_here.wait) stream_is in
        let fits = release_fits v delays stated (at_of b i) (own_of t.timing is.flow is.bits) has is.none_asks in
        omega (arith, same, fits)

    -- its jitter, and its period, in true time
    pub late_value : of_us (us_of_ms (jitter_ms is.flow)) ≤ shortest_bit v b * (stream_of t i).jitter
    late_value =
        let same : shortest_bit v b * (stream_of t i).jitter ≡ shortest_bit v b * bounded_here.frames.stream.jitter =
        ap (λ (x : Stream). shortest_bit v b * x.jitter) stream_is in
        let room = jitter_room v delays stated (at_of b i) (own_of t.timing is.flow is.bits) has is.none_asks in
        omega (arith, same, room)

    pub period_value : longest_bit v b * (stream_of t i).period ≤ 1000 * streamed.period * shortest_million t.timing
    period_value =
        let same : longest_bit v b * (stream_of t i).period ≡ longest_bit v b * bits_at_least t.timing streamed.period =
        ap (λ (x : Stream). longest_bit v b * x.period) stream_is ∙ ap (λ (n : ℕ). longest_bit v b * n) streamed.apart in
        let near = near_here v b t.timing t.timed streamed.period in
        omega (arith, same, near)

  -- what is known to come behind its release has room for what is reckoned with here
  pub behind_value : (b i : ℕ) (t : TimedBus v scope b) (is : IsStated b i t) (total : ℕ) → behind_at v delays (at_of b i) ≡ Some total
      → behind_with b i (Some t) ≤ of_us total
  behind_value b i t is total known = some_cases (direct_feeder v (at_of b i)) (behind_with b i (Some t) ≤ of_us total)
      (λ none.
      let release = unfed_release v delays (length v.forwards.items) (at_of b i) total none known in
      let nothing : sent_from v delays (at_of b i) ≡ None =
      ap (λ (o : Option ℕ). option_and_then (λ (bits : ℕ). option_and_then (first_input_at v) (direct_feeder v
      (at_of b i))) o) is.delayed
      ∙ ap (option_and_then (first_input_at v)) none in
      let same : behind_with b i (Some t) ≡ longest_bit v b * delay_of (stream_of t i) (wait_with b i (Some t)) =
      ap (λ (o : Option FlowAt). cond (is_some o) (of_us (queued_value b i) + longest_bit v b * (wait_with b i (Some t) + (stream_of t i).bits))
      (longest_bit v b * delay_of (stream_of t i) (wait_with b i (Some t)))) nothing in
      let whole : us_of_bits t.timing is.bits ≡ total = same_Some _ _ (sym (release_value b i t is) ∙ release) in
      let fits = release_room b i t is in
      omega (arith, same, whole, fits))
      (λ n feeder. by_feeder n feeder (length v.forwards.items) refl known)
    where
      by_feeder : (n : Forward) → direct_feeder v (at_of b i) ≡ Some n → (steps : ℕ) → steps ≡ length v.forwards.items
          → behind_by v delays steps (at_of b i) ≡ Some total
          → behind_with b i (Some t) ≤ of_us total
      by_feeder n feeder zero all known = absurd (fed_never v delays (at_of b i) total n feeder known)
      by_feeder n feeder (suc steps) all known =
          let fed = fed_parts v delays steps (at_of b i) total n feeder known in
          let more : behind_at v delays fed.source ≡ Some fed.before =
          subst (λ (k : ℕ). behind_by v delays k fed.source ≡ Some fed.before) all (known_on v delays steps fed.source fed.before fed.before_is) in
          let from : sent_from v delays (at_of b i) ≡ Some fed.source =
          ap (λ (o : Option ℕ). option_and_then (λ (bits : ℕ). option_and_then (first_input_at v) (direct_feeder v (at_of b i))) o) is.delayed
          ∙ (ap (option_and_then (first_input_at v)) feeder ∙ fed.source_is) in
          let until : queued_of v delays n ≡ Some (fed.before + fed.within) =
          ap (λ (o : Option ℕ). sum_known o (within_of n)) (ap (option_and_then (behind_at v delays)) fed.source_is ∙ more)
          ∙ ap (λ (o : Option ℕ). sum_known (Some fed.before) o) fed.promised in
          let queue : queued_value b i ≡ fed.before + fed.within =
          ap (λ (o : Option Forward). option_map_or (λ m. unwrap_or (queued_of v delays m) 0) o 0) feeder ∙ ap (λ (o : Option ℕ). unwrap_or o 0) until in
          let own_here : own_of t.timing is.flow is.bits ≡ fed.own_time = same_Some _ _ (sym (owns b i t is) ∙ fed.own_is) in
          let own_sum = own_value b i t is in
          let sum = fed.sum in
          let same : behind_with b i (Some t) ≡ of_us (queued_value b i) + longest_bit v b * (wait_with b i (Some t) + (stream_of t i).bits) =
          ap (λ (o : Option FlowAt). cond (is_some o) (of_us (queued_value b i) + longest_bit v b * (wait_with b i (Some t) + (stream_of t i).bits))
          (longest_bit v b * delay_of (stream_of t i) (wait_with b i (Some t)))) from in
          omega (arith, same, queue, own_here, own_sum, sum)

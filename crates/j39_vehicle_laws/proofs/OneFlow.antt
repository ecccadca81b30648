-- One flow of which a delay is reported, on its own bus.
use Rattle.std.proofs.Common.{◌≡◌, ◌≢◌, ℕ, ◌+◌, ◌*◌, ◌-◌, ◌<◌, ◌≤◌, ◌⊎◌, ◌==◌, Bool, true, false, List, [], ◌++◌, if◌then◌else◌, Option, Some, refl, sym, ap}
use Rattle.std.proofs.Common.{◌∙◌}
use Rattle.std.proofs.Common.{subst, arith}
use Rattle.std.proofs.lemmas.Bool.{eqb-true, leb-true}
use Rattle.std.proofs.lemmas.Option.{same_Some, slice_get-map}
use Rattle.std.specs.List.{slice_get}
use Rattle.std.specs.Option.{option_and_then, option_map, option_map_or}
use Rattle.j39_network.specs.declared.plan.Plan.{Plan}
use Rattle.j39_network.specs.declared.plan.flow_plan.FlowPlan.{FlowPlan}
use Rattle.j39_network.specs.declared.plan.group_plan.GroupPlan.{GroupPlan}
use Rattle.j39_network.specs.declared.plan.pace.Pace.{Pace}
use Rattle.j39_network.specs.declared.plan.timing.Timing.{Timing}
use Rattle.j39_network.specs.declared.plan.to.To.{To}
use Rattle.j39_network.specs.declared.plan.to.To.TheVariants.{All, One}
use Rattle.j39_network.specs.declared.plan.unit_plan.UnitPlan.{UnitPlan}
use Rattle.j39_load.specs.BusTimes.{timing_of}
use Rattle.j39_vehicle_times.specs.BusDelays.{AreDelays, AreDelaysOn, delays_on}
use Rattle.j39_load.specs.declared.waits.delay.Delay.{Delay}
use Rattle.j39_load.specs.declared.waits.delay.Delay.TheVariants.{Within}
use Rattle.j39_load.specs.declared.frames.flow_frames.FlowFrames.{FlowFrames}
use Rattle.j39_load.specs.declared.loads.flow_load.FlowLoad.{FlowLoad}
use Rattle.j39_load.specs.declared.frames.messages.Messages.TheVariants.{Short}
use Rattle.j39_load.specs.Asked.{Asked, frames_asked}
use Rattle.j39_load.specs.Damage.{damage_frames}
use Rattle.j39_load.specs.AnswerStreams.{askers_of, frames_for, messages_for}
use Rattle.j39_load.specs.FlowLoads.{asked_load, load_of_flow, loads_of}
use Rattle.j39_load.specs.Loads.{bits_at_least, bits_at_most, is_always_short, long_messages, messages_of, single_frames, us_of_bits}
use Rattle.j39_load.specs.PlannedFrames.{AreFramesInAnyOrder, IsBounded, planned_at}
use Rattle.j39_load.proofs.BoundedFlows.{bounded}
use Rattle.j39_load.proofs.PositivePeriods.{ArePaced, of_loads}
use Rattle.j39_load.proofs.StreamsBefore.{own_read, with_damage}
use Rattle.j39_load.proofs.UnaskedFlows.{spaced_where_none_asks}
use Rattle.j39_timing.specs.AnyOrder.{AreBegunWithin}
use Rattle.j39_vehicle_laws.specs.Gateways.{IsClock, IsIts}
use Rattle.j39_timing.specs.Traffic.{IsSingle, delay_of}
use Rattle.j39_timing.specs.Waits.{IsSpaced}
use Rattle.j39_timing.specs.declared.stream.Stream.{Stream}
use Rattle.j39_vehicle.specs.declared.vehicle.Vehicle.{Vehicle}
use Rattle.j39_vehicle.specs.declared.vehicle.bus_plan.BusPlan.{BusPlan}
use Rattle.j39_vehicle_findings.specs.declared.point.FlowAt.{FlowAt}
use Rattle.j39_vehicle_times.specs.declared.bus_delays.Delays.{Delays}
use Rattle.j39_vehicle_times.specs.TimeFindings.{period_ms}
use Rattle.j39_vehicle_times.specs.Times.{askers_on, behind_of, behind_release, bits_within, delay_at, flow_at, jitter_ms, latest_ms, own, own_of, timing_on}
use Rattle.j39_vehicle_times.specs.Times.{us_of_ms}
use Rattle.j39_vehicle_times.proofs.DecidingTimes.{and_then_some, map_some}
use Rattle.j39_vehicle_laws.specs.KeptBuses.{AreKeptBuses, IsKeptBus, IsKnownBus, asked_on}
use Rattle.j39_vehicle_laws.specs.Prompt.{Scope, is_unasked, scope_on}
use Rattle.j39_vehicle_laws.specs.Seen.{SeenBuses, clock_on, frames_at, longest_bit, of_us, shortest_bit}
use Rattle.j39_vehicle_laws.proofs.Starts.{starts_within}
use Rattle.j39_vehicle_laws.proofs.Parts.{within_some}
use Rattle.j39_vehicle_laws.proofs.TrueTimes.{clock_is, room_here, reported_here}

-- ---- what its own time has for parts

pub record HasOwn (v : Vehicle) (delays : Delays) (at : FlowAt) (time : ℕ) : Type 0 where
  pub timing : Timing
  pub timed : timing_on v.buses.items at.bus ≡ Some timing
  pub flow : FlowPlan
  pub its : flow_at v.buses.items at ≡ Some flow
  pub bits : ℕ
  pub delayed : delay_at delays at ≡ Some bits
  pub sum : time ≡ own_of timing flow bits

pub own_parts : (v : Vehicle) (delays : Delays) (at : FlowAt) (time : ℕ) → own v delays at ≡ Some time → HasOwn v delays at time
own_parts v delays at time is =
    let (timing, timed, rest) = and_then_some _ (timing_on v.buses.items at.bus) time is in
    let (flow, its, last) = and_then_some _ (flow_at v.buses.items at) time rest in
    let (bits, delayed, sum) = map_some (own_of timing flow) (delay_at delays at) time last in
    record { timing = timing; timed = timed; flow = flow; its = its; bits = bits; delayed = delayed; sum = sym sum }

-- ---- what is reported of its bus

pub known_bus : (v : Vehicle) (delays : Delays) → AreDelays v delays → (b : ℕ) (timing : Timing) → timing_on v.buses.items b ≡ Some timing
    → IsKnownBus v delays b timing
known_bus v delays stated b timing timed =
    let (bus, its, has) = and_then_some (λ (bus : BusPlan). timing_of bus.plan) (slice_get v.buses.items b) timing timed in
    let (stays, asks) = subst (λ (o : Option Timing). AreDelaysOn bus.plan o (delays_on delays b)) has (stated.each b bus its) in
    record { bus = bus; its = its; timed = has; stays = stays; asks = asks }

pub own_from : (v : Vehicle) (delays : Delays) (at : FlowAt) (timing : Timing) (flow : FlowPlan) (bits : ℕ) → timing_on v.buses.items at.bus ≡ Some timing
    → flow_at v.buses.items at ≡ Some flow → delay_at delays at ≡ Some bits → own v delays at ≡ Some (own_of timing flow bits)
own_from v delays at timing flow bits timed its delayed =
    ap (λ (o : Option Timing). option_and_then (λ (t : Timing). option_and_then (λ (f : FlowPlan). option_map (own_of t f) (delay_at delays at))
    (flow_at v.buses.items at)) o) timed
    ∙ (ap (λ (o : Option FlowPlan). option_and_then (λ (f : FlowPlan). option_map (own_of timing f) (delay_at delays at)) o) its
    ∙ ap (option_map (own_of timing flow)) delayed)

abbrev behind_with : Vehicle → Delays → FlowAt → Timing → FlowPlan → Option ℕ
behind_with v delays at t f = option_map (behind_of t (askers_on v.buses.items at.bus f) f) (delay_at delays at)

-- what ends so long behind a release of its own has a time of its own
pub own_of_release : (v : Vehicle) (delays : Delays) (at : FlowAt) (time : ℕ) → behind_release v delays at ≡ Some time
    → (n : ℕ) × (own v delays at ≡ Some n)
own_of_release v delays at time known =
    let (timing, timed, rest) = and_then_some (λ (t : Timing). option_and_then (behind_with v delays at t) (flow_at v.buses.items at))
    (timing_on v.buses.items at.bus) time known in
    let (flow, its, more) = and_then_some (behind_with v delays at timing) (flow_at v.buses.items at) time rest in
    let (bits, delayed, made) = map_some (behind_of timing (askers_on v.buses.items at.bus flow) flow) (delay_at delays at) time more in
    (own_of timing flow bits, own_from v delays at timing flow bits timed its delayed)

-- ---- what its stream is

-- no request that has a period asks for a flow that doesn't come only as an answer to one
pub none_ask : (v : Vehicle) (at : FlowAt) (flow : FlowPlan) → flow_at v.buses.items at ≡ Some flow → is_unasked v at ≡ true
    → askers_on v.buses.items at.bus flow ≡ 0
none_ask v at flow its unasked = eqb-true (askers_on v.buses.items at.bus flow) 0
    (subst (λ (o : Option FlowPlan). option_map_or (λ (f : FlowPlan). askers_on v.buses.items at.bus f == 0) o true ≡ true) its unasked)

pub record HasStream (timing : Timing) (flow : FlowPlan) (frames : FlowFrames) (limit : ℕ) : Type 0 where
  pub single : IsSingle frames.stream
  pub limited : limit ≤ frames.stream.period
  pub jitter : frames.stream.jitter ≡ bits_at_most timing (jitter_ms flow)
  pub period : ℕ
  pub period_is : period_ms flow ≡ Some period
  pub apart : frames.stream.period ≡ bits_at_least timing period

short_is : (a b : FlowFrames) → Short a ≡ Short b → a ≡ b
short_is a b is = cc

long_short : (timing : Timing) (units : List UnitPlan) (stays : UnitPlan → Bool) (flow : FlowPlan) (pace : Pace) (group : GroupPlan) (k : ℕ) (to : To)
    (frames : FlowFrames)
    → messages_for timing pace k (long_messages timing units stays flow pace group to) ≡ Short frames → ⊥
long_short timing units stays flow pace group k All frames is = let stated = is in cc
long_short timing units stays flow pace group k (One u) frames is = let stated = is in cc

pub short_frames : (timing : Timing) (units : List UnitPlan) (stays : UnitPlan → Bool) (flow : FlowPlan) (pace : Pace) (group : GroupPlan) (k : ℕ)
    (frames : FlowFrames)
    → messages_for timing pace k (messages_of timing units stays flow pace group) ≡ Short frames
    → frames_for timing pace k (single_frames timing units stays flow pace group) ≡ frames
short_frames timing units stays flow pace group k frames is = go (is_always_short group) is
  where
    go : (short : Bool) → messages_for timing pace k (if short then Short
        (single_frames timing units stays flow pace group) else long_messages timing units stays flow pace group flow.to) ≡ Short frames
        → frames_for timing pace k (single_frames timing units stays flow pace group) ≡ frames
    go true at = short_is _ _ at
    go false at = absurd (long_short timing units stays flow pace group k flow.to frames at)

pub stream_of : (timing : Timing) (plan : Plan) (stays : UnitPlan → Bool) (place : ℕ) (flow : FlowPlan) → slice_get plan.flows.items place ≡ Some flow
    → askers_of plan.requests.items flow ≡ 0 → (load : FlowLoad) → slice_get (loads_of timing plan stays) place ≡ Some (Some load) → (frames : FlowFrames)
    → load.messages ≡ Short frames
    → HasStream timing flow frames load.limit
stream_of timing plan stays place flow its none_asks load at frames short =
    let stated : load_of_flow timing plan stays flow ≡ Some load =
    same_Some _ _ (sym (slice_get-map (load_of_flow timing plan stays) plan.flows.items place ∙ ap (option_map (load_of_flow timing plan stays)) its) ∙ at) in
    let (pace, paced, rest) = and_then_some _ flow.pace load stated in
    let (group, of, made) = map_some (asked_load timing plan.requests.items plan.units.items stays flow pace)
    (slice_get plan.groups.items flow.group) load rest in
    let is_short : messages_for timing pace (askers_of plan.requests.items flow) (messages_of timing plan.units.items stays flow pace group) ≡ Short frames =
    ap (λ (l : FlowLoad). l.messages) made ∙ short in
    let same : frames_for timing pace (askers_of plan.requests.items flow) (single_frames timing plan.units.items stays flow pace group) ≡ frames =
    short_frames timing plan.units.items stays flow pace group (askers_of plan.requests.items flow) frames is_short in
    let paces : ArePaced load.limit (Short frames) = subst (ArePaced load.limit) short (of_loads timing plan stays place load at).messages in
    record {
      single = (paces.1, spaced_where_none_asks timing plan stays flow load frames short none_asks stated);
      limited = paces.2;
      jitter = ap (λ (f : FlowFrames). f.stream.jitter) (sym same)
          ∙ ap (λ (p : Option Pace). bits_at_most timing (option_map_or (λ (x : Pace). x.jitter) p 0)) (sym paced);
      period = pace.period;
      period_is = ap (option_map (λ (x : Pace). x.period)) paced;
      apart = ap (λ (f : FlowFrames). f.stream.period) (sym same);
    }

short_is_short : (timing : Timing) (units : List UnitPlan) (stays : UnitPlan → Bool) (flow : FlowPlan) (pace : Pace) (group : GroupPlan) (k : ℕ)
    (frames : FlowFrames)
    → messages_for timing pace k (messages_of timing units stays flow pace group) ≡ Short frames → is_always_short group ≡ true
short_is_short timing units stays flow pace group k frames is = go (is_always_short group) is
  where
    go : (short : Bool) → messages_for timing pace k (if short then Short
        (single_frames timing units stays flow pace group) else long_messages timing units stays flow pace group flow.to) ≡ Short frames
        → short ≡ true
    go true at = refl
    go false at = absurd (long_short timing units stays flow pace group k flow.to frames at)

pub group_of : (timing : Timing) (plan : Plan) (stays : UnitPlan → Bool) (place : ℕ) (flow : FlowPlan) → slice_get plan.flows.items place ≡ Some flow
    → (load : FlowLoad) → slice_get (loads_of timing plan stays) place ≡ Some (Some load) → (frames : FlowFrames) → load.messages ≡ Short frames
    → (group : GroupPlan) × (slice_get plan.groups.items flow.group ≡ Some group) × (group.most ≤ 8)
group_of timing plan stays place flow its load at frames short =
    let stated : load_of_flow timing plan stays flow ≡ Some load =
    same_Some _ _ (sym (slice_get-map (load_of_flow timing plan stays) plan.flows.items place ∙ ap (option_map (load_of_flow timing plan stays)) its) ∙ at) in
    let (pace, paced, rest) = and_then_some _ flow.pace load stated in
    let (group, of, made) = map_some (asked_load timing plan.requests.items plan.units.items stays flow pace)
    (slice_get plan.groups.items flow.group) load rest in
    let is_short : messages_for timing pace (askers_of plan.requests.items flow) (messages_of timing plan.units.items stays flow pace group) ≡ Short frames =
    ap (λ (l : FlowLoad). l.messages) made ∙ short in
    (group, of, leb-true group.most 8 (short_is_short timing plan.units.items stays flow pace group (askers_of plan.requests.items flow) frames is_short))

-- ---- its frames

pub record IsOneFlow (v : Vehicle) (delays : Delays) (seen : SeenBuses) (at : FlowAt) (time : ℕ) : Type 0 where
  pub stream : Stream
  pub wait : ℕ
  pub timing : Timing
  pub timed : timing_on v.buses.items at.bus ≡ Some timing
  pub bits : ℕ
  pub delayed : delay_at delays at ≡ Some bits
  pub sum : bits ≡ delay_of stream wait
  pub fits : bits ≤ stream.period
  pub clock : IsClock (clock_on v seen at.bus)
  pub own_time : longest_bit v at.bus * (wait + stream.bits) ≤ of_us time
  pub total : ℕ
  pub total_is : behind_release v delays at ≡ Some total
  pub release_time : longest_bit v at.bus * delay_of stream wait ≤ of_us total
  pub some_bits : (p : ℕ) → p < (seen at.bus).schedule.count → 1 ≤ (seen at.bus).schedule.bits p
  pub queued_first : (p : ℕ) → p < (seen at.bus).schedule.count → (seen at.bus).schedule.queued p ≤ (seen at.bus).schedule.start p
  pub few_bits : (p : ℕ) → IsIts (frames_at v seen at) p → (seen at.bus).schedule.bits p ≤ stream.bits
  pub release_first : (p : ℕ) → IsIts (frames_at v seen at) p → (seen at.bus).of.since p ≤ (seen at.bus).schedule.queued p
  pub jitter : (p : ℕ) → IsIts (frames_at v seen at) p → (seen at.bus).schedule.queued p ≤ (seen at.bus).of.since p + stream.jitter
  pub starts : AreBegunWithin (seen at.bus).schedule (seen at.bus).planned (seen at.bus).of at.flow wait
  pub spaced : (p q : ℕ) → IsIts (frames_at v seen at) p → IsIts (frames_at v seen at) q → p ≢ q
      → ((seen at.bus).of.since p + stream.period ≤ (seen at.bus).of.since q) ⊎ ((seen at.bus).of.since q + stream.period ≤ (seen at.bus).of.since p)

module _ (v : Vehicle) (delays : Delays) (stated : AreDelays v delays) (at : FlowAt) (time : ℕ) (has : HasOwn v delays at time) where
  abbrev pub timing : Timing
  timing = has.timing

  abbrev pub of_bus : IsKnownBus v delays at.bus has.timing
  of_bus = known_bus v delays stated at.bus has.timing has.timed

  abbrev pub asked : Asked
  asked = asked_on of_bus

  pub delay_here : slice_get (delays_on delays at.bus) at.flow ≡ Some (Some (Within has.bits))
  delay_here =
      let (d, here, within) = and_then_some bits_within (slice_get (delays_on delays at.bus) at.flow) has.bits has.delayed in
      here ∙ ap (λ (x : Option Delay). Some x) (within_some d has.bits within)

  flow_here : slice_get of_bus.bus.plan.flows.items at.flow ≡ Some has.flow
  flow_here = subst (λ (o : Option BusPlan). slice_get (option_map_or (λ
      (bus : BusPlan). bus.plan.flows.items) o []) at.flow ≡ Some has.flow) of_bus.its has.its

  abbrev pub bound : IsBounded has.timing asked at.flow has.bits
  bound = bounded of_bus.bus.plan has.timing of_bus.stays (delays_on delays at.bus) of_bus.asks at.flow has.bits delay_here

  -- its group
  pub short_group : (group : GroupPlan) × (slice_get of_bus.bus.plan.groups.items has.flow.group ≡ Some group) × (group.most ≤ 8)
  short_group = group_of has.timing of_bus.bus.plan of_bus.stays at.flow has.flow flow_here bound.load bound.its bound.frames bound.short

  pub placed : planned_at (frames_asked asked ++ damage_frames has.timing) at.flow ≡ bound.frames
  placed = with_damage has.timing (frames_asked asked) at.flow bound.frames
      (own_read asked.flows asked.units asked.requests at.flow bound.load bound.frames bound.its bound.short)

  -- where no request that has a period asks for it
  module _ (none_asks : askers_on v.buses.items at.bus has.flow ≡ 0) where
    none_here : askers_of of_bus.bus.plan.requests.items has.flow ≡ 0
    none_here = ap (λ (o : Option BusPlan). option_map_or (λ (bus : BusPlan). askers_of bus.plan.requests.items has.flow) o 0) (sym of_bus.its) ∙ none_asks

    pub its_stream : HasStream has.timing has.flow bound.frames bound.load.limit
    its_stream = stream_of has.timing of_bus.bus.plan of_bus.stays at.flow has.flow flow_here none_here bound.load bound.its bound.frames bound.short

    -- its jitter has room for as many true milliseconds
    pub jitter_room : of_us (us_of_ms (jitter_ms has.flow)) ≤ shortest_bit v at.bus * bound.frames.stream.jitter
    jitter_room =
        let room = room_here v at.bus has.timing has.timed (jitter_ms has.flow) in
        let same : shortest_bit v at.bus * bound.frames.stream.jitter ≡ shortest_bit v at.bus * bits_at_most has.timing (jitter_ms has.flow) =
        ap (λ (n : ℕ). shortest_bit v at.bus * n) its_stream.jitter in
        omega (arith, room, same)

    pub own_is : longest_bit v at.bus * (bound.wait + bound.frames.stream.bits) ≤ of_us time
    own_is =
        let total = bound.sum in
        let late = its_stream.jitter in
        let rest : has.bits - bits_at_most has.timing (jitter_ms has.flow) ≡ bound.wait + bound.frames.stream.bits = omega (arith, total, late) in
        let stated = reported_here v at.bus has.timing has.timed (bound.wait + bound.frames.stream.bits) in
        let same : time ≡ us_of_bits has.timing (bound.wait + bound.frames.stream.bits) = has.sum ∙ ap (us_of_bits has.timing) rest in
        omega (arith, stated, same)

    pub release_is : behind_release v delays at ≡ Some (us_of_bits has.timing has.bits)
    release_is =
        ap (λ (o : Option Timing). option_and_then (λ (t : Timing). option_and_then (behind_with v delays at t) (flow_at v.buses.items at)) o) has.timed
        ∙ (ap (λ (o : Option FlowPlan). option_and_then (behind_with v delays at has.timing) o) has.its
        ∙ (ap (option_map (behind_of has.timing (askers_on v.buses.items at.bus has.flow) has.flow)) has.delayed
        ∙ (ap (λ (k : ℕ). Some (behind_of has.timing k has.flow has.bits)) none_asks
        ∙ ap (λ (n : ℕ). Some (us_of_bits has.timing n)) nothing_more)))
      where
        nothing_more : has.bits + (bits_at_most has.timing (latest_ms 0 has.flow) - bits_at_most has.timing (jitter_ms has.flow)) ≡ has.bits
        nothing_more = omega arith

    pub release_fits : longest_bit v at.bus * delay_of bound.frames.stream bound.wait ≤ of_us (us_of_bits has.timing has.bits)
    release_fits = subst (λ (n : ℕ). longest_bit v at.bus * n ≤ of_us (us_of_bits has.timing has.bits)) bound.sum
        (reported_here v at.bus has.timing has.timed has.bits)

    module _ (scope : Scope) (inside : scope.buses at.bus ≡ true) (among : scope.flows at ≡ true) (seen : SeenBuses)
        (kept : AreKeptBuses v delays scope seen) where
      keeps_bus : IsKeptBus has.timing asked (delays_on delays at.bus) (scope_on scope at.bus) (seen at.bus)
      keeps_bus = kept at.bus has.timing of_bus inside

      frames_here : AreFramesInAnyOrder has.timing asked.unplanned_end (frames_asked asked) (seen at.bus).schedule (seen at.bus).controllers
          (seen at.bus).planned
          (seen at.bus).of at.flow
      frames_here = keeps_bus.frames at.flow has.bits among delay_here

      keeps : (p : ℕ) → IsIts (frames_at v seen at) p
          → ((seen at.bus).schedule.bits p ≤ bound.frames.stream.bits) × ((seen at.bus).of.since p ≤ (seen at.bus).schedule.queued p)
          × ((seen at.bus).schedule.queued p ≤ (seen at.bus).of.since p + bound.frames.stream.jitter)
      keeps p (in_p, is, source) =
          let one = frames_here.known.of_streams.keeps p in_p is in
          let here : planned_at (frames_asked asked ++ damage_frames has.timing) ((seen at.bus).of.source p) ≡ bound.frames =
          subst (λ (j : ℕ). planned_at (frames_asked asked ++ damage_frames has.timing) j ≡ bound.frames) (sym source) placed in (
            subst (λ (f : FlowFrames). (seen at.bus).schedule.bits p ≤ f.stream.bits) here one.bits_at_most,
            one.release_first,
            subst (λ (f : FlowFrames). (seen at.bus).schedule.queued p ≤ (seen at.bus).of.since p + f.stream.jitter) here one.jitter_at_most,
          )

      one_turn : (p : ℕ) → IsIts (frames_at v seen at) p → (seen at.bus).of.turn p ≡ 0
      one_turn p (in_p, is, source) =
          let one = frames_here.known.of_streams.keeps p in_p is in
          let here : planned_at (frames_asked asked ++ damage_frames has.timing) ((seen at.bus).of.source p) ≡ bound.frames =
          subst (λ (j : ℕ). planned_at (frames_asked asked ++ damage_frames has.timing) j ≡ bound.frames) (sym source) placed in
          let turn : (seen at.bus).of.turn p < bound.frames.stream.frames = subst (λ (f : FlowFrames).
          (seen at.bus).of.turn p < f.stream.frames) here one.turns in
          let single : bound.frames.stream.frames ≡ 1 = its_stream.single.0 in
          omega (arith, turn, single)

      apart : (p q : ℕ) → IsIts (frames_at v seen at) p → IsIts (frames_at v seen at) q → p ≢ q
          → ((seen at.bus).of.since p + bound.frames.stream.period ≤ (seen at.bus).of.since q)
          ⊎ ((seen at.bus).of.since q + bound.frames.stream.period ≤ (seen at.bus).of.since p)
      apart p q its other differ =
          let here : planned_at (frames_asked asked ++ damage_frames has.timing) ((seen at.bus).of.source p) ≡ bound.frames =
          subst (λ (j : ℕ). planned_at (frames_asked asked ++ damage_frames has.timing) j ≡ bound.frames) (sym its.2) placed in
          subst (λ (f : FlowFrames). ((seen at.bus).of.since p + f.stream.period ≤ (seen at.bus).of.since q)
          ⊎ ((seen at.bus).of.since q + f.stream.period ≤ (seen at.bus).of.since p)) here
          (frames_here.known.of_streams.spaced p q its.0 other.0 differ its.1 other.1 (its.2 ∙ sym other.2) (one_turn p its ∙ sym (one_turn q other))
          (subst (λ (f : FlowFrames). IsSpaced f.stream) (sym here) its_stream.single.1))

      pub one_flow : own v delays at ≡ Some time → IsOneFlow v delays seen at time
      one_flow is = record {
        stream = bound.frames.stream;
        wait = bound.wait;
        timing = has.timing;
        timed = has.timed;
        bits = has.bits;
        delayed = has.delayed;
        sum = bound.sum;
        fits = let inside = bound.inside in let limited = its_stream.limited in omega (arith, inside, limited);
        clock = clock_is v seen at.bus has.timing has.timed keeps_bus.clock;
        own_time = own_is;
        total = us_of_bits has.timing has.bits;
        total_is = release_is;
        release_time = release_fits;
        some_bits = keeps_bus.legal.positive;
        queued_first = keeps_bus.legal.queued_first;
        few_bits = λ p its. (keeps p its).0;
        release_first = λ p its. (keeps p its).1;
        jitter = λ p its. (keeps p its).2;
        starts = starts_within of_bus.bus.plan has.timing of_bus.stays (delays_on delays at.bus) of_bus.asks at.flow has.bits delay_here (seen at.bus).schedule
            (seen at.bus).controllers
            (seen at.bus).planned (seen at.bus).of keeps_bus.legal frames_here its_stream.single.1;
        spaced = apart;
      }

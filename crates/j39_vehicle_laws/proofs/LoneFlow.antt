-- A bus on which frames of one flow are seen, of which a delay is reported, or none: that it keeps to its plan.
use Rattle.std.proofs.Common.{◌≡◌, ◌≢◌, ℕ, zero, suc, ◌+◌, ◌*◌, ◌<◌, ◌≤◌, ◌⊎◌, Bool, true, eqb, List, [], ◌∷◌, ◌++◌, length, Option, Some, None, refl, sym, ap}
use Rattle.std.proofs.Common.{◌∙◌, subst}
use Rattle.std.proofs.Common.{inl, inr, arith}
use Rattle.std.proofs.Math.Nat.{mul-le-mul_right}
use Rattle.std.proofs.lemmas.Bool.{cases_eq, cases_lt, true≢false}
use Rattle.std.proofs.lemmas.Option.{slice_get-map}
use Rattle.std.specs.List.{slice_get}
use Rattle.std.specs.Option.{option_map_or}
use Rattle.j39_network.specs.PlannedUnits.{unit_at, units_of}
use Rattle.j39_network.specs.declared.plan.flow_plan.FlowPlan.{FlowPlan}
use Rattle.j39_network.specs.declared.plan.timing.Timing.{Timing}
use Rattle.j39_network.specs.declared.plan.to.To.TheVariants.{One}
use Rattle.j39_search.proofs.Members.{all_at}
use Rattle.j39_load.specs.declared.waits.delay.Delay.TheVariants.{Within}
use Rattle.j39_load.specs.declared.frames.flow_frames.FlowFrames.{FlowFrames}
use Rattle.j39_load.specs.declared.loads.flow_load.FlowLoad.{FlowLoad}
use Rattle.j39_load.specs.declared.frames.messages.Messages.TheVariants.{Short}
use Rattle.j39_load.specs.AnyQueues.{keep_order}
use Rattle.j39_load.specs.Asked.{Asked, frames_asked}
use Rattle.j39_load.specs.Damage.{damage_frames}
use Rattle.j39_load.specs.AnswerStreams.{askers_of, frames_for}
use Rattle.j39_load.specs.FlowLoads.{asked_load, load_of_flow}
use Rattle.j39_load.specs.Loads.{group_ident, single_frames}
use Rattle.j39_load.specs.PlannedFrames.{IsBounded, planned_at}
use Rattle.j39_load.specs.Ranks.{AreUnitsPlanned}
use Rattle.j39_load.proofs.BoundedFlows.{all_in_order, bounded, legal_in_order}
use Rattle.j39_load.proofs.DemandLaws.{never_wanted}
use Rattle.j39_load.proofs.KeepingPlanned.{none_other}
use Rattle.j39_load.proofs.PositivePeriods.{ArePaced, of_loads}
use Rattle.j39_load.proofs.Ranks.{lie_between}
use Rattle.j39_load.proofs.StreamsBefore.{get_or_inside, own_read, with_damage}
use Rattle.j39_timing.specs.FrameStreams.{Origins}
use Rattle.j39_timing.specs.TimedFrames.{IsLegal, Schedule}
use Rattle.j39_timing.specs.Traffic.{Traffic}
use Rattle.j39_load.specs.Clocks.{IsTrueTime, shortest_million}
use Rattle.j39_vehicle.specs.declared.vehicle.Vehicle.{Vehicle}
use Rattle.j39_vehicle.specs.declared.vehicle.bus_plan.BusPlan.{BusPlan}
use Rattle.j39_vehicle_times.specs.BusDelays.{delays_on}
use Rattle.j39_vehicle_times.specs.TimeFindings.{period_ms}
use Rattle.j39_vehicle_times.specs.Times.{flow_at}
use Rattle.j39_vehicle_times.specs.declared.bus_delays.Delays.{Delays}
use Rattle.j39_vehicle_times.proofs.DecidingTimes.{and_then_some, map_some}
use Rattle.j39_vehicle_laws.specs.ForwardedStreams.{IsOtherwiseKept, KeepsOtherwise, streams_of}
use Rattle.j39_vehicle_laws.specs.KeptBuses.{IsKnownBus, asked_on}
use Rattle.j39_vehicle_laws.specs.Prompt.{IsSentOn, is_unasked}
use Rattle.j39_vehicle_laws.specs.Seen.{SeenBus}
use Rattle.j39_vehicle_laws.proofs.OneFlow.{none_ask, short_frames}

-- ---- a bus with frames of one flow

-- so many frames of the flow, at these steps in bits and in true time, each sent so many bits behind its release, at once
pub record LoneFlow : Type 0 where
  pub unit : ℕ
  pub count : ℕ
  pub flow : ℕ
  pub width : ℕ
  pub step : ℕ
  pub late : ℕ
  pub ident : ℕ
  pub now : ℕ
  pub bytes : List ℕ

abbrev pub frames_of : LoneFlow → Schedule
frames_of f = record {
  count = f.count;
  queued = λ p. p * f.width + f.late;
  start = λ p. p * f.width + f.late;
  bits = λ p. 1;
  ident = λ p. f.ident;
  now = f.now;
}

abbrev origins_in : LoneFlow → Origins
origins_in f = record { source = λ p. f.flow; turn = λ p. 0; since = λ p. p * f.width }

-- with a clock all of whose bits are as long; what comes of a message of a gateway's input is in the frame of the same place
abbrev pub bus_with : LoneFlow → SeenBus
bus_with f = record {
  schedule = frames_of f;
  controllers = all_in_order;
  time = λ t. f.unit * t;
  planned = λ p. true;
  of = origins_in f;
  release = λ p. p * f.step;
  born = λ p t. Some (p * f.step);
  bytes = λ p. f.bytes;
  carries = λ n p q. eqb p q;
}

-- of two places one is a step behind the other
steps : (p q width few : ℕ) → few ≤ width → p ≢ q → (p * width + few ≤ q * width) ⊎ (q * width + few ≤ p * width)
steps p q width few room differ = elim (cases_lt p q) [
  | inl less ↦ inl (let more : suc p * width ≤ q * width = mul-le-mul_right width less in omega (arith, more, room))
  | inr from ↦ inr (let more : suc q * width ≤ p * width = mul-le-mul_right width (omega (arith, from, differ)) in omega (arith, more, room))
]

one_at_a_time : (p q width late t : ℕ) → 1 ≤ width → p * width + late ≤ t → t < p * width + late + 1 → q * width + late ≤ t → t < q * width + late + 1
    → p ≡ q
one_at_a_time p q width late t some from_p to_p from_q to_q = elim (cases_eq p q) [
  | inl same ↦ same
  | inr differ ↦ elim (steps p q width 1 some differ) [
    | inl before ↦ absurd (omega (arith, before, to_p, from_q))
    | inr after ↦ absurd (omega (arith, after, to_q, from_p))
  ]
]

lone_legal : (f : LoneFlow) → 1 ≤ f.width → IsLegal (frames_of f)
lone_legal f some = record {
  positive = λ p in_p. omega arith;
  queued_first = λ p in_p. omega arith;
  alone = λ p q t in_p in_q seen on also. one_at_a_time p q f.width f.late t some on.0 on.1 also.0 also.1;
  never_idle = λ p t in_p seen waits. absurd (let after = waits.0 in let before = waits.1 in omega (arith, after, before));
  in_order = λ p q in_p in_q seen waits. omega arith;
}

-- ---- a flow of which a delay is reported

pub record Fits (traffic : Traffic) (flow ident : ℕ) : Type 0 where
  pub inside : flow < traffic.count
  pub unwanted : (traffic.stream flow).wanted ≡ None
  pub some_bits : 1 ≤ (traffic.stream flow).bits
  pub single : (traffic.stream flow).frames ≡ 1
  pub low : traffic.least flow ≤ ident
  pub high : ident ≤ traffic.greatest flow

module _ (v : Vehicle) (delays : Delays) (b : ℕ) (timing : Timing) (of_bus : IsKnownBus v delays b timing) (i bits : ℕ)
    (delayed : slice_get (delays_on delays b) i ≡ Some (Some (Within bits))) (unasked : is_unasked v (record { bus = b; flow = i }) ≡ true) where
  abbrev asked : Asked
  asked = asked_on of_bus

  abbrev its_bound : IsBounded timing (asked_on of_bus) i bits
  its_bound = bounded of_bus.bus.plan timing of_bus.stays (delays_on delays b) of_bus.asks i bits delayed

  pub fits : (ident : ℕ) × Fits (streams_of timing (frames_asked (asked_on of_bus))) i ident
  fits =
      let (one, at_one, here) = map_some (load_of_flow timing of_bus.bus.plan of_bus.stays) (slice_get of_bus.bus.plan.flows.items i) (Some its_bound.load)
      (sym (slice_get-map (load_of_flow timing of_bus.bus.plan of_bus.stays) of_bus.bus.plan.flows.items i) ∙ its_bound.its) in
      let (pace, paced, rest) = and_then_some _ one.pace its_bound.load here in
      let (group, of, made) = map_some (asked_load timing of_bus.bus.plan.requests.items of_bus.bus.plan.units.items of_bus.stays one pace)
      (slice_get of_bus.bus.plan.groups.items one.group)
      its_bound.load rest in
      let short = ap (λ (l : FlowLoad). l.messages) made ∙ its_bound.short in
      let flow_is : flow_at v.buses.items (record { bus = b; flow = i }) ≡ Some one =
      ap (λ (o : Option BusPlan). slice_get (option_map_or (λ (x : BusPlan). x.plan.flows.items) o []) i) of_bus.its ∙ at_one in
      let none_asks : askers_of of_bus.bus.plan.requests.items one ≡ 0 =
      ap (λ (o : Option BusPlan). option_map_or (λ (x : BusPlan). askers_of x.plan.requests.items one) o 0) (sym of_bus.its)
      ∙ none_ask v (record { bus = b; flow = i }) one flow_is unasked in
      let same : frames_for timing pace (askers_of of_bus.bus.plan.requests.items one)
      (single_frames timing of_bus.bus.plan.units.items of_bus.stays one pace group)
      ≡ its_bound.frames =
      short_frames timing of_bus.bus.plan.units.items of_bus.stays one pace group (askers_of of_bus.bus.plan.requests.items one) its_bound.frames short in
      let planned : AreUnitsPlanned of_bus.bus.plan one = record {
        sender = all_at (λ (g : FlowPlan). g.sender < length of_bus.bus.plan.units.items) of_bus.bus.plan.flows.items of_bus.bus.plan.flow_senders i one at_one;
        receiver = all_at (λ (g : FlowPlan). (u : ℕ) → g.to ≡ One u → u < length of_bus.bus.plan.units.items) of_bus.bus.plan.flows.items
            of_bus.bus.plan.flow_receivers i one at_one;
      } in
      let between = lie_between of_bus.bus.plan of_bus.stays of_bus.asks.standing (λ u. (unit_at (units_of of_bus.bus.plan) u).preferred)
      (λ u below. inl refl) one planned timing group in
      let at = own_read asked.flows asked.units asked.requests i its_bound.load its_bound.frames its_bound.its its_bound.short in
      let paces : ArePaced its_bound.load.limit (Short its_bound.frames) =
      subst (ArePaced its_bound.load.limit) its_bound.short (of_loads timing of_bus.bus.plan of_bus.stays i its_bound.load its_bound.its).messages in
      let some : 1 ≤ (single_frames timing of_bus.bus.plan.units.items of_bus.stays one pace group).stream.bits = omega arith in
      let here_placed : planned_at (frames_asked (asked_on of_bus) ++ damage_frames timing) i ≡ its_bound.frames =
      with_damage timing (frames_asked (asked_on of_bus)) i its_bound.frames at in
      let all_same : frames_for timing pace (askers_of of_bus.bus.plan.requests.items one)
      (single_frames timing of_bus.bus.plan.units.items of_bus.stays one pace group)
      ≡ planned_at (frames_asked (asked_on of_bus) ++ damage_frames timing) i =
      same ∙ sym here_placed in (
        group_ident (λ u. (unit_at (units_of of_bus.bus.plan) u).preferred) group one,
        record {
          inside = longer (frames_asked asked) (damage_frames timing) i (get_or_inside (frames_asked asked) i its_bound.frames at);
          unwanted = ap (λ (f : FlowFrames). f.stream.wanted) (sym all_same)
              ∙ ap (λ (k : ℕ). (frames_for timing pace k
              (single_frames timing of_bus.bus.plan.units.items of_bus.stays one pace group)).stream.wanted) none_asks;
          some_bits = subst (λ (f : FlowFrames). 1 ≤ f.stream.bits) all_same some;
          single = subst (λ (f : FlowFrames). f.stream.frames ≡ 1) (sym here_placed) paces.1;
          low = subst (λ (f : FlowFrames). f.least_ident ≤ group_ident (λ u. (unit_at
              (units_of of_bus.bus.plan) u).preferred) group one) all_same between.least;
          high = subst (λ (f : FlowFrames). group_ident (λ u. (unit_at
              (units_of of_bus.bus.plan) u).preferred) group one ≤ f.greatest_ident) all_same between.greatest;
        },
      )
    where
      longer : (xs ys : List (Option FlowFrames)) (k : ℕ) → k < length xs → k < length (xs ++ ys)
      longer [] ys k below = absurd (omega arith)
      longer (z ∷ zs) ys zero below = omega arith
      longer (z ∷ zs) ys (suc k) below = let rest = longer zs ys k (omega arith) in omega (arith, rest)

-- ---- what such buses keep

-- what a flow of the bus itself keeps that has this traffic: each message is queued at its release, and these are a period apart, in bits and in true time
pub record KeepsItsPace (v : Vehicle) (b : ℕ) (timing : Timing) (traffic : Traffic) (f : LoneFlow) : Type 0 where
  pub at_once : f.late ≡ 0
  pub period : (traffic.stream f.flow).period ≤ f.width
  pub apart : (flow : FlowPlan) (ms : ℕ) → flow_at v.buses.items (record { bus = b; flow = f.flow }) ≡ Some flow → period_ms flow ≡ Some ms
      → 1000 * ms * shortest_million timing ≤ f.step

module _ (timing : Timing) (f : LoneFlow) (some : 1 ≤ f.width) (clock : IsTrueTime timing (λ t. f.unit * t)) (ends : ℕ) (all : List (Option FlowFrames))
    (suits : Fits (streams_of timing all) f.flow f.ident) (ordered : (j : ℕ) → keep_order (planned_at all j) ≡ true) where
  lone_keeps : (i : ℕ) → KeepsOtherwise timing ends all (frames_of f) all_in_order (λ p. true) (origins_in f) i
  lone_keeps i = record {
    longest_at_most = λ p in_p. omega arith;
    as_wanted = never_wanted (frames_of f) (λ p. true) (origins_in f) (streams_of timing all).demands (streams_of timing all).stream
        (λ p in_p is. suits.unwanted);
    from_least = λ p in_p is. suits.low;
    to_greatest = λ p in_p is source. subst (λ k. f.ident ≤ (streams_of timing all).greatest k) source suits.high;
    own_identifier = λ p q t in_p in_q seen is shared at_p at_q same. (refl, shared);
    urgency_of_others = λ p in_p isnt. absurd (true≢false isnt);
    few_others = λ p from to in_p is source seen waits stretch.
        let none = none_other (frames_of f) (λ q. true) (λ q. refl) f.ident from to in omega (arith, none);
    of_unit = λ p in_p is un. absurd (true≢false un);
    to_last = λ p in_p is kept. absurd (true≢false (sym (ordered f.flow) ∙ kept));
    queue_groups = λ j level goes kept is. absurd (true≢false (sym (ordered j) ∙ kept));
  }

  pub lone_kept : (v : Vehicle) (delays : Delays) (b : ℕ) (flows : ℕ → Bool)
      → (¬ IsSentOn v delays (record { bus = b; flow = f.flow }) → KeepsItsPace v b timing (streams_of timing all) f)
      → IsOtherwiseKept v delays b timing ends all flows (bus_with f)
  lone_kept v delays b flows pace = record {
    clock = clock;
    apart = λ p q ms other in_p in_q differ is_p is_q own same single its every.
        steps p q f.step (1000 * ms * shortest_million timing) ((pace own).apart other ms its every) differ;
    legal = legal_in_order (frames_of f) (lone_legal f some);
    own = λ p in_p is own. record {
      known = suits.inside;
      bits_at_most = suits.some_bits;
      turns = let one = suits.single in omega (arith, one);
      release_first = omega arith;
      jitter_at_most = let at_once = (pace own).at_once in omega (arith, at_once);
    };
    sent_on = λ p in_p is sent. (suits.inside, suits.some_bits, let one = suits.single in omega (arith, one));
    spaced = λ p q in_p in_q differ is_p is_q own source turn is_spaced. steps p q f.width ((streams_of timing all).stream f.flow).period
        (pace own).period differ;
    frames = λ other bits among at. lone_keeps other;
  }

pub none_kept : (v : Vehicle) (delays : Delays) (b : ℕ) (timing : Timing) (ends : ℕ) (all : List (Option FlowFrames)) (flows : ℕ → Bool) (f : LoneFlow)
    → f.count ≡ 0
    → 1 ≤ f.width → IsTrueTime timing (λ t. f.unit * t) → IsOtherwiseKept v delays b timing ends all flows (bus_with f)
none_kept v delays b timing ends all flows f none some clock = record {
  clock = clock;
  apart = λ p q ms other in_p. absurd (omega (arith, in_p, none));
  legal = legal_in_order (frames_of f) (lone_legal f some);
  own = λ p in_p. absurd (omega (arith, in_p, none));
  sent_on = λ p in_p. absurd (omega (arith, in_p, none));
  spaced = λ p q in_p. absurd (omega (arith, in_p, none));
  frames = λ flow bits among at. record {
    longest_at_most = λ p in_p. absurd (omega (arith, in_p, none));
    as_wanted = never_wanted (frames_of f) (λ p. true) (origins_in f) (streams_of timing all).demands (streams_of timing all).stream
        (λ p in_p. absurd (omega (arith, in_p, none)));
    from_least = λ p in_p. absurd (omega (arith, in_p, none));
    to_greatest = λ p in_p. absurd (omega (arith, in_p, none));
    own_identifier = λ p q t in_p. absurd (omega (arith, in_p, none));
    urgency_of_others = λ p in_p. absurd (omega (arith, in_p, none));
    few_others = λ p from to in_p. absurd (omega (arith, in_p, none));
    of_unit = λ p in_p. absurd (omega (arith, in_p, none));
    to_last = λ p in_p. absurd (omega (arith, in_p, none));
    queue_groups = λ j level goes kept is. record {
      identifiers = λ p in_p. absurd (omega (arith, in_p, none));
      own_identifiers = λ p q t in_p. absurd (omega (arith, in_p, none));
      few_unplanned = λ p from to in_p. absurd (omega (arith, in_p, none));
    };
  };
}

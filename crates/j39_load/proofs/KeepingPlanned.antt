-- What a bus keeps on which all frames are planned, and on which each unit holds its planned address.
use Rattle.std.proofs.Common.{◌≡◌, ◌≢◌, ℕ, ◌+◌, ◌-◌, ◌*◌, ◌^◌, ◌<◌, ◌≤◌, ◌⊎◌, Bool, true, false, not, ◌&&◌, cond, ltb, nat_le, nat_lt, length, Option, Some}
use Rattle.std.proofs.Common.{refl, sym, ap, ◌∙◌, subst, inl, inr, arith}
use Rattle.std.proofs.Math.Nat.{mul-le-mul_left}
use Rattle.std.proofs.lemmas.Bool.{cases_lt, lt-ltb, ltb-true, true≢false}
use Rattle.std.proofs.lemmas.List.{length-map}
use Rattle.std.proofs.lemmas.Option.{same_Some}
use Rattle.std.specs.List.{slice_get}
use Rattle.std.specs.Option.{option_map_or}
use Rattle.j39_claim.specs.ClaimRule.{PlannedUnit}
use Rattle.j39_id.specs.Ident.{identifier_of}
use Rattle.j39_network.specs.PlannedUnits.{planned_unit, unit_at, units_of}
use Rattle.j39_network.specs.declared.plan.Plan.{Plan}
use Rattle.j39_network.specs.declared.plan.flow_plan.FlowPlan.{FlowPlan}
use Rattle.j39_network.specs.declared.plan.group_plan.GroupPlan.{GroupPlan}
use Rattle.j39_network.specs.declared.plan.pace.Pace.{Pace}
use Rattle.j39_network.specs.declared.plan.queue.Queue.{Queue}
use Rattle.j39_network.specs.declared.plan.timing.Timing.{Timing}
use Rattle.j39_network.specs.declared.plan.to.To.TheVariants.{One}
use Rattle.j39_network.specs.declared.plan.unit_plan.UnitPlan.{UnitPlan}
use Rattle.j39_search.proofs.Members.{all_at}
use Rattle.j39_findings.proofs.WhoStays.{placed}
use Rattle.j39_timing.specs.AnyOrder.{Controllers}
use Rattle.j39_timing.specs.QueueGroups.{unplanned_queued}
use Rattle.j39_timing.specs.Rounds.{all_planned}
use Rattle.j39_timing.specs.TimedFrames.{IsLegal, Schedule}
use Rattle.j39_timing.specs.Traffic.{others_queued}
use Rattle.j39_timing.proofs.Sums.{total-none}
use Rattle.j39_world.specs.HeldAddresses.{ArePlannedApart}
use Rattle.j39_load.specs.AskedFlows.{is_answering, is_asked_too_often}
use Rattle.j39_load.specs.KeepsAnswers.{IsAnswering, IsOfFlow, KeepsAnswers}
use Rattle.j39_load.specs.KeepsBroadcasts.{KeepsBroadcasts}
use Rattle.j39_load.specs.KeepsPlan.{CanBeKept, KeepsQueues, KeepsToPlan, KeptBus}
use Rattle.j39_load.specs.Loads.{bits_per_ms, is_any}
use Rattle.j39_load.specs.Ranks.{AreHeldApart}
use Rattle.j39_load.specs.SentFrames.{Announcing, Broadcasts, Carrying, FrameSources, HasPeriodMs, Held, IsFrameOf, IsMsBehind, IsSentByUnit, IsSentEvery}
use Rattle.j39_load.specs.SentFrames.{IsSingleFrame, IsWithinUnitMs, Source, goes_to}
use Rattle.j39_load.proofs.AnswersGiven.{answers_given, first_period}
use Rattle.j39_load.proofs.Milliseconds.{in_ms_behind}
use Rattle.j39_load.proofs.Slots.{slots, slots_any_order, slots_legal}

-- where all is planned nothing else is queued
pub none_other : (s : Schedule) (planned : ℕ → Bool) → ((p : ℕ) → planned p ≡ true) → (c from to : ℕ) → others_queued s planned c from to ≡ 0
none_other s planned all c from to = total-none s.count _ (λ p in_p.
    ap (λ (b : Bool). cond (not b && (nat_lt (s.ident p) c && (nat_le (s.queued p) to && nat_lt from (s.start p)))) 1 0) (all p))

pub none_foreseen : (s : Schedule) (planned : ℕ → Bool) → ((p : ℕ) → planned p ≡ true) → (from to : ℕ) → unplanned_queued s planned from to ≡ 0
none_foreseen s planned all from to = total-none s.count _ (λ p in_p.
    ap (λ (b : Bool). cond (not b && (nat_le (s.queued p) to && nat_lt from (s.start p))) 1 0) (all p))

-- ---- without long messages to all

abbrev pub no_broadcasts : Broadcasts
no_broadcasts = record {
  count = λ u. 0;
  flow = λ u m. 0;
  release = λ u m. 0;
  wanted = λ u m. 0;
  announced = λ u m. 0;
  packets = λ u m. 0;
}

pub none_sent : (plan : Plan) (timing : Timing) (s : Schedule) (planned : ℕ → Bool) (sent : FrameSources)
    → ((u : ℕ) → sent.broadcasts.count u ≡ 0) → ((p u m : ℕ) → sent.source p ≡ Announcing u m → ⊥)
    → ((p u m k : ℕ) → sent.source p ≡ Carrying u m k → ⊥) → KeepsBroadcasts plan timing s planned sent
none_sent plan timing s planned sent none announced carried = record {
  messages = λ u m below. absurd (let zero_is = none u in omega (arith, below, zero_is));
  apart = λ u m n ms pair. absurd (let zero_is = none u in let below = pair.1 in omega (arith, below, zero_is));
  one_waits = λ u m n pair. absurd (let zero_is = none u in let below = pair.1 in omega (arith, below, zero_is));
  in_turn = λ u m n less below. absurd (let zero_is = none u in omega (arith, below, zero_is));
  announced = λ p u m in_p is source. absurd (announced p u m source);
  once = λ p q u m in_p in_q is_p is_q first second. absurd (announced p u m first);
  carried = λ p q u m k in_p in_q is_p is_q first second. absurd (carried p u m k first);
  behind = λ p u m k in_p is source. absurd (carried p u m k source);
  before = λ p u m k n in_p is source. absurd (carried p u m k source);
  gaps = λ p q u m n j k in_p in_q other is_p is_q first. absurd (carried p u m j first);
}

-- ---- the units of a plan

module _ (plan : Plan) (apart : ArePlannedApart (units_of plan)) where
  -- each unit holds its planned address
  abbrev pub planned_address : ℕ → ℕ
  planned_address u = (unit_at (units_of plan) u).preferred

  abbrev pub planned_held : Held
  planned_held = record { named = λ t u. ltb u (length plan.units.items); address = λ t. planned_address }

  pub planned_apart : (t : ℕ) → AreHeldApart (planned_held.named t) (planned_held.address t)
  planned_apart t = record {
    range = λ u named.
        let below = ltb-true u (length plan.units.items) named in
        let (unit, at, is) = placed plan.keep_free plan.units.items u (omega (arith, below, length-map plan.units.items (planned_unit plan.keep_free))) in
        let same : planned_address u ≡ unit.address = ap (λ (c : PlannedUnit). c.preferred) is in
        let low = unit.address_range in
        omega (arith, same, low);
    apart = λ u v other named_u named_v.
        let below_u = ltb-true u (length plan.units.items) named_u in
        let below_v = ltb-true v (length plan.units.items) named_v in
        let size = length-map plan.units.items (planned_unit plan.keep_free) in
        apart u v (omega (arith, below_u, size)) (omega (arith, below_v, size)) other;
  }

  named_unit : (u : ℕ) → u < length plan.units.items → ltb u (length plan.units.items) ≡ true
  named_unit u below = lt-ltb u (length plan.units.items) below

  pub planned_sender : (f : ℕ) (flow : FlowPlan) → slice_get plan.flows.items f ≡ Some flow → ltb flow.sender (length plan.units.items) ≡ true
  planned_sender f flow its =
      named_unit flow.sender (all_at (λ (g : FlowPlan). g.sender < length plan.units.items) plan.flows.items plan.flow_senders f flow its)

  pub planned_receiver : (f : ℕ) (flow : FlowPlan) → slice_get plan.flows.items f ≡ Some flow → (v : ℕ) → flow.to ≡ One v
      → ltb v (length plan.units.items) ≡ true
  planned_receiver f flow its v goes = named_unit v
      (all_at (λ (g : FlowPlan). (u : ℕ) → g.to ≡ One u → u < length plan.units.items) plan.flows.items plan.flow_receivers f flow its v goes)

-- the period of a flow
pub period_is : (plan : Plan) (f : ℕ) (flow : FlowPlan) (pace : Pace) → slice_get plan.flows.items f ≡ Some flow → flow.pace ≡ Some pace → (ms : ℕ)
    → HasPeriodMs plan f ms → pace.period ≡ ms
period_is plan f flow pace its paced ms every =
    let same : flow ≡ every.flow = same_Some _ _ (sym its ∙ every.its) in
    let paces : pace ≡ every.pace = same_Some _ _ (sym paced ∙ (ap (λ (g : FlowPlan). g.pace) same ∙ every.paced)) in
    ap (λ (x : Pace). x.period) paces ∙ every.is

-- ---- what is kept

-- a frame of a flow that is sent as late as its jitter allows at most
pub planned_single : (plan : Plan) (timing : Timing) (apart : ArePlannedApart (units_of plan)) (f : ℕ) (flow : FlowPlan) (pace : Pace) (group : GroupPlan)
    → slice_get plan.flows.items f ≡ Some flow → flow.pace ≡ Some pace → slice_get plan.groups.items flow.group ≡ Some group → group.most ≤ 8
    → (s : Schedule) (release p : ℕ) → s.bits p ≤ 80 + 10 * group.most → release ≤ s.queued p → IsWithinUnitMs timing pace.jitter release (s.queued p)
    → s.ident p ≡ identifier_of group.priority group.pgn (goes_to (planned_address plan apart) flow.to) (planned_address plan apart flow.sender)
    → IsSingleFrame plan timing s (planned_held plan apart) f release p
planned_single plan timing apart f flow pace group its paced of short s release p few first late is = record {
  flow = flow;
  its = its;
  pace = pace;
  paced = paced;
  group = group;
  of = of;
  short = short;
  length = few;
  release_first = first;
  jitter_at_most = late;
  sender_named = λ t queued. planned_sender plan apart f flow its;
  receiver_named = λ t v queued goes. planned_receiver plan apart f flow its v goes;
  identifier = λ t queued. is;
}

-- of two places one is behind the other
pub either_behind : (timing : Timing) (ms width : ℕ) → ((p q : ℕ) → p < q → IsMsBehind timing ms (p * width) (q * width)) → (p q : ℕ) → p ≢ q
    → IsMsBehind timing ms (p * width) (q * width) ⊎ IsMsBehind timing ms (q * width) (p * width)
either_behind timing ms width behind p q differ = elim (cases_lt p q) [
  | inl less ↦ inl (behind p q less)
  | inr more ↦ inr (behind q p (omega (arith, more, differ)))
]

-- so frames of a flow are whose places are a period apart
pub a_period_apart : (plan : Plan) (timing : Timing) (f : ℕ) (flow : FlowPlan) (pace : Pace) → slice_get plan.flows.items f ≡ Some flow
    → flow.pace ≡ Some pace → (width : ℕ) → ((p q : ℕ) → p < q → IsMsBehind timing pace.period (p * width) (q * width)) → (p q ms : ℕ) → p ≢ q
    → HasPeriodMs plan f ms → IsMsBehind timing ms (p * width) (q * width) ⊎ IsMsBehind timing ms (q * width) (p * width)
a_period_apart plan timing f flow pace its paced width behind p q ms differ every =
    subst (λ (x : ℕ). IsMsBehind timing x (p * width) (q * width) ⊎ IsMsBehind timing x (q * width) (p * width))
    (period_is plan f flow pace its paced ms every) (either_behind timing pace.period width behind p q differ)

pub keeps_all : (plan : Plan) (timing : Timing) (apart : ArePlannedApart (units_of plan)) (s : Schedule) (sent : FrameSources)
    → ((p : ℕ) → p < s.count → IsFrameOf plan timing s (planned_held plan apart) sent.broadcasts (sent.source p) (sent.release p) p)
    → ((p q ms : ℕ) → p ≢ q → sent.source p ≡ sent.source q → IsSentEvery plan (sent.source p) ms
    → IsMsBehind timing ms (sent.release p) (sent.release q) ⊎ IsMsBehind timing ms (sent.release q) (sent.release p))
    → KeepsAnswers plan timing s all_planned sent → KeepsBroadcasts plan timing s all_planned sent
    → KeepsToPlan plan timing s all_planned sent (planned_held plan apart)
keeps_all plan timing apart s sent frames behind answers broadcasts = record {
  frames = λ p in_p is. frames p in_p;
  apart = λ p q ms in_p in_q differ is_p is_q same every. behind p q ms differ same every;
  answers = answers;
  broadcasts = broadcasts;
  held_by_plan = λ t u below. inl refl;
  held_apart = planned_apart plan apart;
  others_length = λ p in_p is. absurd (true≢false is);
  others_priority = λ p in_p is. absurd (true≢false is);
  others_identifier = λ p q t in_p in_q seen is_p source is_q. absurd (true≢false is_q);
  few_others = λ p from to in_p is source seen waits wait.
      let none = none_other s all_planned (λ q. refl) (s.ident p) from to in omega (arith, none);
}

-- frames of one flow answer nothing, where it doesn't come only as an answer
pub answer_nothing : (plan : Plan) (timing : Timing) (s : Schedule) (sent : FrameSources) (f : ℕ) (flow : FlowPlan) → slice_get plan.flows.items f ≡ Some flow
    → is_answering plan.requests.items flow ≡ false → ((p g : ℕ) → IsOfFlow g (sent.source p) → f ≡ g) → ((u : ℕ) → sent.broadcasts.count u ≡ 0)
    → KeepsAnswers plan timing s all_planned sent
answer_nothing plan timing s sent f flow its unasked of_flow none = record {
  of_frame = λ p. record { request = 0; number = 0; moment = 0 };
  of_message = λ u m. record { request = 0; number = 0; moment = 0 };
  frames = λ g answering. record {
    few = λ p is. absurd (never g answering (of_flow p g is.2));
    asked = λ p is. absurd (never g answering (of_flow p g is.2));
    moment_first = λ p is. absurd (never g answering (of_flow p g is.2));
    in_time = λ p is. absurd (never g answering (of_flow p g is.2));
    once = λ p q is other alike same. absurd (never g answering (of_flow p g is.2));
    apart = λ p q ms is other same order every. absurd (never g answering (of_flow p g is.2));
  };
  messages = λ u g answering. record {
    few = λ m is. absurd (let below = is.0 in let zero_is = none u in omega (arith, below, zero_is));
    asked = λ m is. absurd (let below = is.0 in let zero_is = none u in omega (arith, below, zero_is));
    moment_first = λ m is. absurd (let below = is.0 in let zero_is = none u in omega (arith, below, zero_is));
    in_time = λ m is. absurd (let below = is.0 in let zero_is = none u in omega (arith, below, zero_is));
    once = λ m n is other alike same. absurd (let below = is.0 in let zero_is = none u in omega (arith, below, zero_is));
    apart = λ m n ms is other same order every. absurd (let below = is.0 in let zero_is = none u in omega (arith, below, zero_is));
  };
}
  where
    never : (g : ℕ) → IsAnswering plan g → f ≡ g → ⊥
    never g answering same =
        let one : flow ≡ answering.flow = same_Some _ _ (sym its ∙ (ap (slice_get plan.flows.items) same ∙ answering.its)) in
        true≢false (sym answering.answers ∙ (ap (is_answering plan.requests.items) (sym one) ∙ unasked))

-- ---- frames of one source, so many bits apart

abbrev pub of_one_source : Source → ℕ → FrameSources
of_one_source source width = record { source = λ p. source; release = λ p. p * width; broadcasts = no_broadcasts }

-- with room for so many milliseconds
pub steps_behind : (timing : Timing) (ms width : ℕ) → ms * bits_per_ms timing.bitrate ≤ width → (p q : ℕ) → p < q
    → IsMsBehind timing ms (p * width) (q * width)
steps_behind timing ms width room p q less =
    let more : width * (p + 1) ≤ width * q = mul-le-mul_left width (omega (arith, less)) in
    in_ms_behind timing ms (p * width) (q * width) (omega (arith, more, room))

-- so many of these milliseconds pass on the way from a place to another one
pub places_behind : (timing : Timing) (ms width p q : ℕ) → ms * bits_per_ms timing.bitrate ≤ width → p ≤ q
    → IsMsBehind timing ((q - p) * ms) (p * width) (q * width)
places_behind timing ms width p q room order =
    let times : (q - p) * (ms * bits_per_ms timing.bitrate) ≤ (q - p) * width = mul-le-mul_left (q - p) room in
    let turned : (q - p) * ms * bits_per_ms timing.bitrate ≡ (q - p) * (ms * bits_per_ms timing.bitrate) = grind arith in
    let parts : (p + (q - p)) * width ≡ p * width + (q - p) * width = grind arith in
    let whole : (p + (q - p)) * width ≡ q * width = ap (λ (n : ℕ). n * width) (omega (arith, order)) in
    in_ms_behind timing ((q - p) * ms) (p * width) (q * width) (omega (arith, times, turned, parts, whole))

-- both the period of a flow, and that of the first request that asks for it, in bits
abbrev pub room_for : Plan → Timing → FlowPlan → Pace → ℕ
room_for plan timing flow pace = (pace.period + first_period plan.requests.items flow) * bits_per_ms timing.bitrate

-- no more is asked of the flow than its period lets
abbrev pub IsAskedSeldom : Plan → FlowPlan → Type 0
IsAskedSeldom plan flow = is_asked_too_often plan.requests.items flow ≡ false

pub seldom_at : (plan : Plan) (f g : ℕ) (flow : FlowPlan) → slice_get plan.flows.items f ≡ Some flow → f ≡ g → IsAskedSeldom plan flow
    → (answering : IsAnswering plan g) → IsAskedSeldom plan answering.flow
seldom_at plan f g flow its same few answering =
    subst (IsAskedSeldom plan) (same_Some _ _ (sym its ∙ (ap (slice_get plan.flows.items) same ∙ answering.its))) few

module _ (plan : Plan) (timing : Timing) (apart : ArePlannedApart (units_of plan)) (f : ℕ) (flow : FlowPlan) (pace : Pace)
    (its : slice_get plan.flows.items f ≡ Some flow) (paced : flow.pace ≡ Some pace) (few : IsAskedSeldom plan flow) (source : Source) (width : ℕ)
    (room : room_for plan timing flow pace ≤ width) (every : (ms : ℕ) → IsSentEvery plan source ms → HasPeriodMs plan f ms)
    (of_flow : (g : ℕ) → IsOfFlow g source → f ≡ g)
    (to_one : ((u m : ℕ) → source ≡ Announcing u m → ⊥) × ((u m k : ℕ) → source ≡ Carrying u m k → ⊥)) (s : Schedule)
    (frames : (p : ℕ) → p < s.count → IsFrameOf plan timing s (planned_held plan apart) no_broadcasts source (p * width) p) where
  room_for_period : pace.period * bits_per_ms timing.bitrate ≤ width
  room_for_period =
      let parts : room_for plan timing flow pace
      ≡ pace.period * bits_per_ms timing.bitrate + first_period plan.requests.items flow * bits_per_ms timing.bitrate =
      grind arith in
      omega (arith, parts, room)

  room_for_request : (g : ℕ) (answering : IsAnswering plan g) → f ≡ g → first_period plan.requests.items answering.flow * bits_per_ms timing.bitrate ≤ width
  room_for_request g answering same =
      let parts : room_for plan timing flow pace
      ≡ pace.period * bits_per_ms timing.bitrate + first_period plan.requests.items flow * bits_per_ms timing.bitrate =
      grind arith in
      subst (λ (x : FlowPlan). first_period plan.requests.items x * bits_per_ms timing.bitrate ≤ width)
      (same_Some _ _ (sym its ∙ (ap (slice_get plan.flows.items) same ∙ answering.its))) (omega (arith, parts, room))

  no_messages : KeepsBroadcasts plan timing s all_planned (of_one_source source width)
  no_messages = none_sent plan timing s all_planned (of_one_source source width) (λ u. refl) (λ p u m same. to_one.0 u m same)
      (λ p u m k same. to_one.1 u m k same)

  pub one_source_kept : KeepsToPlan plan timing s all_planned (of_one_source source width) (planned_held plan apart)
  one_source_kept = keeps_all plan timing apart s (of_one_source source width) frames
      (λ p q ms differ same is_every.
      a_period_apart plan timing f flow pace its paced width (steps_behind timing pace.period width room_for_period) p q ms differ (every ms is_every))
      (answers_given plan timing s (of_one_source source width) (planned_held plan apart) frames no_messages (λ p. p)
      (λ p g answering in_p is. seldom_at plan f g flow its (of_flow g is) few answering) (λ p q in_p in_q same one. one)
      (λ p q g answering in_p in_q is_p is_q order.
      places_behind timing (first_period plan.requests.items answering.flow) width p q (room_for_request g answering (of_flow g is_p)) order)
      (λ u m g answering below is. absurd (omega (arith, below))) (λ u m below. absurd (omega (arith, below))))
      no_messages

  pub source_can_be_kept : IsLegal s → CanBeKept plan timing source s.count
  source_can_be_kept legal = record {
    s = s;
    planned = all_planned;
    sent = of_one_source source width;
    held = planned_held plan apart;
    legal = legal;
    keeps = one_source_kept;
    frames = refl;
    all_planned = λ p. refl;
    of_source = λ p. refl;
  }

-- these units send the frames, and each unit keeps order that the plan reports so of
abbrev pub planned_controllers : Plan → (ℕ → ℕ) → Controllers
planned_controllers plan unit = record {
  unit = unit;
  keeps_order = λ u. option_map_or (λ (x : UnitPlan). not (is_any x.queue)) (slice_get plan.units.items u) true;
}

pub keeps_queues : (plan : Plan) (timing : Timing) (s : Schedule) (sent : FrameSources) (unit : ℕ → ℕ)
    → ((p u : ℕ) → IsSentByUnit plan (sent.source p) u → unit p ≡ u) → ((p : ℕ) → s.ident p < 2 ^ 29)
    → KeepsQueues plan timing s (planned_controllers plan unit) all_planned sent
keeps_queues plan timing s sent unit sender few = record {
  sender = λ p u in_p is sends. sender p u sends;
  order = λ u unit at keeps.
      ap (λ (o : Option UnitPlan). option_map_or (λ (x : UnitPlan). not (is_any x.queue)) o true) at ∙ ap (λ (q : Queue). not (is_any q)) keeps;
  identifiers = λ p in_p isnt. absurd (true≢false isnt);
  others_apart = λ p q t u unit in_p in_q seen is_p is_q takes at any. absurd (true≢false is_q);
  few_unplanned = λ p from to u unit in_p is takes at any seen waits wait.
      let none = none_foreseen s all_planned (λ q. refl) from to in omega (arith, none);
}

-- frames in slots, whoever sends them
abbrev pub slots_kept : (plan : Plan) (timing : Timing) (apart : ArePlannedApart (units_of plan)) (width n : ℕ) (ident : ℕ → ℕ) → 80 ≤ width
    → (sent : FrameSources) (unit : ℕ → ℕ) → KeepsToPlan plan timing (slots width n ident) all_planned sent (planned_held plan apart)
    → KeepsQueues plan timing (slots width n ident) (planned_controllers plan unit) all_planned sent → KeptBus plan timing
slots_kept plan timing apart width n ident wide sent unit keeps queues = record {
  s = slots width n ident;
  controllers = planned_controllers plan unit;
  planned = all_planned;
  sent = sent;
  held = planned_held plan apart;
  legal = slots_legal width n ident wide;
  any_order = slots_any_order width n ident (planned_controllers plan unit) wide;
  keeps = keeps;
  queues = queues;
  all_planned = λ p. refl;
}

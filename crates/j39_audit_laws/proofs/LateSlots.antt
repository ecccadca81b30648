-- A bus on which a frame ends each 990 milliseconds, from the end of the first second on.
use Rattle.std.proofs.Common.{◌≡◌, ◌≢◌, ℕ, ◌+◌, ◌-◌, ◌*◌, ◌<◌, ◌≤◌, ◌⊎◌, refl, sym, ap, ◌∙◌, subst, inl, inr, arith}
use Rattle.std.proofs.Math.Nat.{mul-le-mul_right}
use Rattle.std.proofs.lemmas.Bool.{cases_eq, cases_lt}
use Rattle.std.proofs.lemmas.Option.{same_Some}
use Rattle.j39_id.specs.Ident.{identifier_of}
use Rattle.j39_network.specs.PlannedUnits.{units_of}
use Rattle.j39_network.specs.declared.plan.Plan.{Plan}
use Rattle.j39_network.specs.declared.plan.flow_plan.FlowPlan.{FlowPlan}
use Rattle.j39_network.specs.declared.plan.group_plan.GroupPlan.{GroupPlan}
use Rattle.j39_network.specs.declared.plan.pace.Pace.{Pace}
use Rattle.j39_network.specs.declared.plan.timing.Bitrate.{Bitrate}
use Rattle.j39_network.specs.declared.plan.timing.Bitrate.TheVariants.{Kbit125, Kbit250, Kbit500, Mbit1}
use Rattle.j39_network.specs.declared.plan.timing.Timing.{Timing}
use Rattle.j39_timing.specs.AnyOrder.{Controllers, IsLegalInAnyOrder}
use Rattle.j39_timing.specs.Messages.{frame_end}
use Rattle.j39_timing.specs.Rounds.{all_planned}
use Rattle.j39_timing.specs.TimedFrames.{IsLegal, Schedule}
use Rattle.j39_world.specs.HeldAddresses.{ArePlannedApart}
use Rattle.j39_load.specs.Clocks.{bit_time}
use Rattle.j39_load.specs.KeepsPlan.{KeepsQueues, KeepsToPlan, KeptBus}
use Rattle.j39_load.specs.Loads.{bits_per_ms}
use Rattle.j39_load.specs.SentFrames.{FrameSources, HasPeriodMs, IsMsBehind, IsSingleFrame, Single, goes_to}
use Rattle.j39_load.proofs.KeepingApart.{few_ident}
use Rattle.j39_load.proofs.KeepingPlanned.{answer_nothing, keeps_all, keeps_queues, no_broadcasts, none_sent, period_is, planned_address, planned_controllers}
use Rattle.j39_load.proofs.KeepingPlanned.{planned_held, planned_single}
use Rattle.j39_load.proofs.Milliseconds.{at_once, in_ms_behind}
use Rattle.j39_load.proofs.Slots.{ends_before}
use Rattle.j39_audit_laws.specs.LoggedBuses.{IsOftenSent}
use Rattle.j39_audit_laws.specs.MarkRecords.{IsNextTo, IsTimeOf, KeepsTime}

-- ---- bits

some_rate : (bitrate : Bitrate) → 125 ≤ bits_per_ms bitrate
some_rate Kbit125 = omega arith
some_rate Kbit250 = omega arith
some_rate Kbit500 = omega arith
some_rate Mbit1 = omega arith

-- from one end to the next
abbrev pub width : Bitrate → ℕ
width bitrate = 990 * bits_per_ms bitrate

-- the first begins so that it ends with the second
abbrev pub first : Bitrate → ℕ
first bitrate = 1000 * bits_per_ms bitrate - 80

abbrev pub late_slots : Bitrate → ℕ → Schedule
late_slots bitrate ident = record {
  count = 2;
  queued = λ p. first bitrate + p * width bitrate;
  start = λ p. first bitrate + p * width bitrate;
  bits = λ p. 80;
  ident = λ p. ident;
  now = 2000 * bits_per_ms bitrate;
}

one_slot : (from wide p q t : ℕ) → 80 ≤ wide → (from + p * wide ≤ t) × (t < from + p * wide + 80) → (from + q * wide ≤ t) × (t < from + q * wide + 80) → p ≡ q
one_slot from wide p q t room (a, b) (c, d) = elim (cases_lt p q) [
  | inl less ↦ absurd (let far = ends_before wide p q less in omega (arith, far, room, b, c))
  | inr more ↦ elim (cases_eq p q) [
    | inl same ↦ same
    | inr other ↦ absurd (let far = ends_before wide q p (omega (arith, more, other)) in omega (arith, far, room, a, d))
  ]
]

pub late_legal : (bitrate : Bitrate) (ident : ℕ) → IsLegal (late_slots bitrate ident)
late_legal bitrate ident = record {
  positive = λ p in_p. omega arith;
  queued_first = λ p in_p. omega arith;
  alone = λ p q t in_p in_q seen on_p on_q. one_slot (first bitrate) (width bitrate) p q t (let some = some_rate bitrate in omega (arith, some)) on_p on_q;
  never_idle = λ p t in_p seen waits. absurd (let (a, b) = waits in omega (arith, a, b));
  in_order = λ p q in_p in_q seen waits. absurd (let (a, b) = waits in omega (arith, a, b));
}

pub late_any_order : (bitrate : Bitrate) (ident : ℕ) (controllers : Controllers) → IsLegalInAnyOrder (late_slots bitrate ident) controllers
late_any_order bitrate ident controllers = record {
  positive = λ p in_p. omega arith;
  queued_first = λ p in_p. omega arith;
  alone = λ p q t in_p in_q seen on_p on_q. one_slot (first bitrate) (width bitrate) p q t (let some = some_rate bitrate in omega (arith, some)) on_p on_q;
  never_idle = λ p t in_p seen waits. absurd (let (a, b) = waits in omega (arith, a, b));
  in_order = λ p q in_p in_q seen waits. absurd (let (a, b) = waits in omega (arith, a, b));
}

-- ---- times

first_end : (bitrate : Bitrate) (ident : ℕ) → frame_end (late_slots bitrate ident) 0 ≡ 1000 * bits_per_ms bitrate
first_end bitrate ident = let some = some_rate bitrate in omega (arith, some)

second_end : (bitrate : Bitrate) (ident : ℕ) → frame_end (late_slots bitrate ident) 1 ≡ 1990 * bits_per_ms bitrate
second_end bitrate ident = let some = some_rate bitrate in omega (arith, some)

-- a clock that agrees with true time, in thousandths of a microsecond
abbrev pub exact_clock : Bitrate → ℕ → ℕ
exact_clock bitrate t = 1000 * (bit_time bitrate * t)

pub exact_keeps : (bitrate : Bitrate) → KeepsTime (bit_time bitrate) (exact_clock bitrate)
exact_keeps bitrate a b below =
    let at : a + (b - a) ≡ b = omega arith in
    let split : bit_time bitrate * (a + (b - a)) ≡ bit_time bitrate * a + bit_time bitrate * (b - a) = grind arith in
    let whole : bit_time bitrate * b ≡ bit_time bitrate * a + bit_time bitrate * (b - a) = ap (λ (k : ℕ). bit_time bitrate * k) (sym at) ∙ split in
    (omega (arith, whole), omega (arith, whole))

second_of : (bitrate : Bitrate) (ms : ℕ) → bit_time bitrate * (ms * bits_per_ms bitrate) ≡ 1000 * ms
second_of Kbit125 ms = omega arith
second_of Kbit250 ms = omega arith
second_of Kbit500 ms = omega arith
second_of Mbit1 ms = omega arith

pub first_time : (bitrate : Bitrate) (ident within : ℕ) → IsTimeOf (exact_clock bitrate) within 1000000 (frame_end (late_slots bitrate ident) 0)
first_time bitrate ident within =
    let at : bit_time bitrate * frame_end (late_slots bitrate ident) 0 ≡ 1000000 =
    ap (λ (t : ℕ). bit_time bitrate * t) (first_end bitrate ident) ∙ second_of bitrate 1000 in
    (omega (arith, at), omega (arith, at))

pub second_time : (bitrate : Bitrate) (ident within : ℕ) → IsTimeOf (exact_clock bitrate) within 1990000 (frame_end (late_slots bitrate ident) 1)
second_time bitrate ident within =
    let at : bit_time bitrate * frame_end (late_slots bitrate ident) 1 ≡ 1990000 =
    ap (λ (t : ℕ). bit_time bitrate * t) (second_end bitrate ident) ∙ second_of bitrate 1990 in
    (omega (arith, at), omega (arith, at))

pub first_ended : (bitrate : Bitrate) (ident : ℕ) → frame_end (late_slots bitrate ident) 0 ≤ (late_slots bitrate ident).now
first_ended bitrate ident = let some = some_rate bitrate in omega (arith, some)

pub second_ended : (bitrate : Bitrate) (ident : ℕ) → frame_end (late_slots bitrate ident) 1 ≤ (late_slots bitrate ident).now
second_ended bitrate ident = let some = some_rate bitrate in omega (arith, some)

pub ends_in_turn : (bitrate : Bitrate) (ident : ℕ) → frame_end (late_slots bitrate ident) 0 < frame_end (late_slots bitrate ident) 1
ends_in_turn bitrate ident = let some = some_rate bitrate in omega (arith, some)

-- no frame ends between them
pub next_one : (bitrate : Bitrate) (ident : ℕ) → IsNextTo (late_slots bitrate ident) 0 1
next_one bitrate ident = record {
  known = omega arith;
  ended = second_ended bitrate ident;
  none_between = λ q in_q before. elim (cases_eq q 0) [
    | inl same ↦ subst (λ (k : ℕ). frame_end (late_slots bitrate ident) k ≤ frame_end (late_slots bitrate ident) 0) (sym same) (omega arith)
    | inr other ↦
        let one : q ≡ 1 = omega (arith, in_q, other) in
        absurd (let less : frame_end (late_slots bitrate ident) 1 < frame_end (late_slots bitrate ident) 1 =
        subst (λ (k : ℕ). frame_end (late_slots bitrate ident) k < frame_end (late_slots bitrate ident) 1) one before in
        omega (arith, less))
  ];
}

-- ---- it keeps to a plan

module _ (plan : Plan) (timing : Timing) (apart : ArePlannedApart (units_of plan)) (f : ℕ) (flow : FlowPlan) (pace : Pace) (group : GroupPlan)
    (is : IsOftenSent plan f flow pace group) where
  abbrev pub ident_of_flow : ℕ
  ident_of_flow = identifier_of group.priority group.pgn (goes_to (planned_address plan apart) flow.to) (planned_address plan apart flow.sender)

  abbrev bus : Schedule
  bus = late_slots timing.bitrate ident_of_flow

  abbrev pub late_sent : FrameSources
  late_sent = record { source = λ p. Single f; release = λ p. first timing.bitrate + p * width timing.bitrate; broadcasts = no_broadcasts }

  pub late_frame : (p : ℕ) → IsSingleFrame plan timing bus (planned_held plan apart) f (late_sent.release p) p
  late_frame p = planned_single plan timing apart f flow pace group is.its is.paced is.of is.short bus (late_sent.release p) p (omega arith) (omega arith)
      (at_once timing pace.jitter (late_sent.release p)) refl

  later : (p q ms : ℕ) → HasPeriodMs plan f ms → p < q → IsMsBehind timing ms (late_sent.release p) (late_sent.release q)
  later p q ms every less =
      let same = period_is plan f flow pace is.its is.paced ms every in
      let often = is.often in
      let far = ends_before (width timing.bitrate) p q less in
      let few : ms * bits_per_ms timing.bitrate ≤ width timing.bitrate = mul-le-mul_right (bits_per_ms timing.bitrate) (omega (arith, same, often)) in
      in_ms_behind timing ms (late_sent.release p) (late_sent.release q) (omega (arith, far, few))

  pub either_later : (p q ms : ℕ) → p ≢ q → HasPeriodMs plan f ms
      → IsMsBehind timing ms (late_sent.release p) (late_sent.release q) ⊎ IsMsBehind timing ms (late_sent.release q) (late_sent.release p)
  either_later p q ms differ every = elim (cases_lt p q) [
    | inl less ↦ inl (later p q ms every less)
    | inr more ↦ inr (later q p ms every (omega (arith, more, differ)))
  ]

  pub late_keeps : KeepsToPlan plan timing bus all_planned late_sent (planned_held plan apart)
  late_keeps = keeps_all plan timing apart bus late_sent (λ p in_p. late_frame p) (λ p q ms differ same every. either_later p q ms differ every)
      (answer_nothing plan timing bus late_sent f flow is.its is.unasked (λ p g own. own) (λ u. refl))
      (none_sent plan timing bus all_planned late_sent (λ u. refl) (λ p u m same. cc) (λ p u m k same. cc))

  pub late_queues : KeepsQueues plan timing bus (planned_controllers plan (λ p. flow.sender)) all_planned late_sent
  late_queues = keeps_queues plan timing bus late_sent (λ p. flow.sender)
      (λ p u sends. ap (λ (g : FlowPlan). g.sender) (same_Some _ _ (sym is.its ∙ sends.1)) ∙ sends.2) (λ p. few_late)
    where
      few_late : ident_of_flow < 536870912
      few_late = few_ident plan timing apart f flow pace group is.its is.paced is.of is.short 0 is.number

  abbrev pub late_bus : KeptBus plan timing
  late_bus = record {
    s = bus;
    controllers = planned_controllers plan (λ p. flow.sender);
    planned = all_planned;
    sent = late_sent;
    held = planned_held plan apart;
    legal = late_legal timing.bitrate ident_of_flow;
    any_order = late_any_order timing.bitrate ident_of_flow (planned_controllers plan (λ p. flow.sender));
    keeps = late_keeps;
    queues = late_queues;
    all_planned = λ p. refl;
  }

-- A bus can keep to a plan in the plan's own words: one flow of it alone, whose frames come one behind the other, in time or as late as its
-- jitter allows, undamaged, or with the first one damaged once or behind one that is left half sent.
use Rattle.std.proofs.Common.{◌≡◌, ℕ, ◌+◌, ◌*◌, ◌^◌, ◌%◌, ◌<◌, ◌≤◌, Bool, true, false, not, cond, if◌then◌else◌, ltb, nat_lt, length, Option}
use Rattle.std.proofs.Common.{None, Some}
use Rattle.std.proofs.Common.{refl, sym, ap, ◌∙◌, inl, inr, arith}
use Rattle.std.proofs.lemmas.Bool.{cond_both, leb-false}
use Rattle.std.proofs.lemmas.Option.{same_Some, slice_get_cases}
use Rattle.std.specs.List.{slice_get}
use Rattle.std.specs.Option.{option_map_or}
use Rattle.j39_id.specs.Ident.{identifier_of}
use Rattle.j39_id.specs.Pgn.{IsPgn, is_pdu2, pdu2_first, pf_of}
use Rattle.j39_network.specs.declared.plan.Plan.{Plan}
use Rattle.j39_network.specs.declared.plan.flow_plan.FlowPlan.{FlowPlan}
use Rattle.j39_network.specs.declared.plan.group_plan.GroupPlan.{GroupPlan}
use Rattle.j39_network.specs.declared.plan.pace.Pace.{Pace}
use Rattle.j39_network.specs.declared.plan.timing.ErrorRate.{ErrorRate}
use Rattle.j39_network.specs.declared.plan.timing.Timing.{Timing}
use Rattle.j39_network.specs.declared.plan.to.To.{To}
use Rattle.j39_network.specs.declared.plan.to.To.TheVariants.{All, One}
use Rattle.j39_network.specs.declared.plan.unit_plan.UnitPlan.{UnitPlan}
use Rattle.j39_load.specs.KeepsErrors.{KeepsErrors, KeepsErrorsInAnyOrder, begins_within, planned_with}
use Rattle.j39_load.specs.KeepsPlan.{CanBeKept, KeepsQueues, KeepsToPlan}
use Rattle.j39_load.specs.KeptTogether.{CanBeKeptTogether}
use Rattle.j39_load.specs.Loads.{bits_per_ms, is_any}
use Rattle.j39_load.specs.Ranks.{AreHeldApart}
use Rattle.j39_load.specs.SentFrames.{Announcing, Carrying, FrameSources, HasPeriodMs, Held, Single, goes_to}
use Rattle.j39_load.proofs.DamagedFirst as damaged_first
use Rattle.j39_load.proofs.KeepingPlanned.{IsAskedSeldom, keeps_queues, none_foreseen, none_other, of_one_source, one_source_kept, period_is, room_for}
use Rattle.j39_load.proofs.KeepingPlanned.{source_can_be_kept}
use Rattle.j39_load.proofs.KeepingPlanned.{planned_address, planned_apart, planned_controllers, planned_held, planned_receiver, planned_sender, planned_single}
use Rattle.j39_timing.proofs.Rounds.{rounds_legal}
use Rattle.j39_load.proofs.Milliseconds.{at_once, in_ms_behind, in_unit_ms}
use Rattle.j39_timing.specs.AnyOrder.{Controllers}
use Rattle.j39_timing.specs.Errors.{Damaged, with_errors}
use Rattle.j39_timing.specs.Rounds.{AreSenders, Senders, all_planned, in_rounds}
use Rattle.j39_timing.specs.Sums.{total}
use Rattle.j39_timing.specs.TimedFrames.{Schedule}
use Rattle.j39_network.specs.PlannedUnits.{units_of}
use Rattle.j39_world.specs.HeldAddresses.{ArePlannedApart}

-- an identifier has 29 bits
pub few_bits : (priority pgn d s : ℕ) → priority ≤ 7 → IsPgn pgn → d ≤ 255 → s ≤ 255 → identifier_of priority pgn d s < 2 ^ 29
few_bits priority pgn d s top number few_d few_s = go (is_pdu2 pgn) refl
  where
    range : pgn < 2 ^ 18
    range = number.range

    go : (b : Bool) → is_pdu2 pgn ≡ b → priority * 2 ^ 26 + pgn * 2 ^ 8 + (if b then 0 else d * 2 ^ 8) + s < 2 ^ 29
    go true is = omega (arith, top, range, few_s)
    go false isnt = let low : pgn % 256 ≡ 0 = number.low (leb-false pdu2_first (pf_of pgn) isnt) in omega (arith, top, range, low, few_d, few_s)

-- one attempt is no more than one
one_at_most : (f : ℕ → ℕ) → f 0 ≤ 1 → total 1 f ≤ 1
unfolding total
one_at_most f few = omega (arith, few)

-- ---- a flow each message of which goes in one frame

module _ (plan : Plan) (timing : Timing) (apart : ArePlannedApart (units_of plan)) (f : ℕ) (flow : FlowPlan) (pace : Pace) (group : GroupPlan)
    (its : slice_get plan.flows.items f ≡ Some flow) (paced : flow.pace ≡ Some pace) (of : slice_get plan.groups.items flow.group ≡ Some group)
    (short : group.most ≤ 8) (n : ℕ) where
  abbrev pub address : ℕ → ℕ
  address = planned_address plan apart

  abbrev pub held : Held
  held = planned_held plan apart

  -- from one frame to the next is a period, also one of a request for it, and a frame
  abbrev step : ℕ
  step = room_for plan timing flow pace + 160

  abbrev alone : Senders
  alone = record {
    units = 1;
    packets = λ u. 0;
    bits = 80 + 10 * group.most;
    step = step;
    gap = step;
    ident = λ u. identifier_of group.priority group.pgn (goes_to address flow.to) (address flow.sender);
  }

  abbrev bus : Schedule
  bus = in_rounds alone n

  -- no such frame is one of a long message to all
  to_one : ((u m : ℕ) → Single f ≡ Announcing u m → ⊥) × ((u m k : ℕ) → Single f ≡ Carrying u m k → ⊥)
  to_one = ((λ u m same. cc), (λ u m k same. cc))

  are_senders : AreSenders alone
  are_senders = record {
    some = omega arith;
    long = omega arith;
    apart = omega (arith, short);
    positive = omega arith;
    round = omega arith;
  }

  pub held_apart : (t : ℕ) → AreHeldApart (held.named t) (held.address t)
  held_apart t = planned_apart plan apart t

  pub sender_named : ltb flow.sender (length plan.units.items) ≡ true
  sender_named = planned_sender plan apart f flow its

  pub receiver_named : (v : ℕ) → flow.to ≡ One v → ltb v (length plan.units.items) ≡ true
  receiver_named v goes = planned_receiver plan apart f flow its v goes

  pub same_period : (ms : ℕ) → HasPeriodMs plan f ms → pace.period ≡ ms
  same_period ms every = period_is plan f flow pace its paced ms every

  pub can_be_kept : IsAskedSeldom plan flow → CanBeKept plan timing (Single f) n
  can_be_kept few = source_can_be_kept plan timing apart f flow pace its paced few (Single f) step (omega arith) (λ ms every. every) (λ g is. is) to_one bus
      (λ p in_p. planned_single plan timing apart f flow pace group its paced of short bus (p * step) p (omega arith) (omega arith)
      (at_once timing pace.jitter (p * step)) refl)
      (rounds_legal alone are_senders n)

  -- ---- each frame as late as the jitter allows, and the first damaged once, or behind one that is left half sent

  abbrev jitter : ℕ
  jitter = pace.jitter * bits_per_ms timing.bitrate

  -- from one frame to the next is such a time, and room for the two and an error frame
  abbrev long_step : ℕ
  long_step = room_for plan timing flow pace + 400

  abbrev ident : ℕ
  ident = identifier_of group.priority group.pgn (goes_to address flow.to) (address flow.sender)

  some_bits : 1 ≤ 80 + 10 * group.most
  some_bits = omega arith

  room : (80 + 10 * group.most) + (80 + 10 * group.most) + 31 ≤ long_step
  room = omega (arith, short)

  abbrev late_bus : Schedule
  late_bus = damaged_first.frames n long_step jitter (80 + 10 * group.most) ident some_bits room

  abbrev late_sent : FrameSources
  late_sent = of_one_source (Single f) long_step

  late_keeps : IsAskedSeldom plan flow → KeepsToPlan plan timing late_bus all_planned late_sent held
  late_keeps few = one_source_kept plan timing apart f flow pace its paced few (Single f) long_step (omega arith) (λ ms every. every)
      (λ g is. is) to_one late_bus
      (λ p in_p. planned_single plan timing apart f flow pace group its paced of short late_bus (p * long_step) p (omega arith) (omega arith)
      (in_unit_ms timing pace.jitter (p * long_step) (p * long_step + jitter) (omega arith)) refl)

  -- the flow's unit sends all
  abbrev controllers : Controllers
  controllers = planned_controllers plan (λ p. flow.sender)

  destination_few : (to : To) → flow.to ≡ to → goes_to address to ≤ 255
  destination_few All is = omega arith
  destination_few (One v) is = let few = (held_apart 0).range v (receiver_named v is) in omega (arith, few)

  pub few_ident : IsPgn group.pgn → ident < 2 ^ 29
  few_ident number = few_bits group.priority group.pgn (goes_to address flow.to) (address flow.sender) group.priority_range number
      (destination_few flow.to refl) (let few = (held_apart 0).range flow.sender sender_named in omega (arith, few))

  late_queues : IsPgn group.pgn → KeepsQueues plan timing late_bus controllers all_planned late_sent
  late_queues number = keeps_queues plan timing late_bus late_sent (λ p. flow.sender)
      (λ p u sends. ap (λ (g : FlowPlan). g.sender) (same_Some _ _ (sym its ∙ sends.1)) ∙ sends.2) (λ p. few_ident number)

  no_unit : slice_get plan.units.items (length plan.units.items) ≡ None
  no_unit = elim (slice_get_cases plan.units.items (length plan.units.items)).1 [
    | inl (unit, below, at, same) ↦ absurd (omega (arith, below))
    | inr (past, none) ↦ none
  ]

  module _ (half_sent : Bool) where
    abbrev attempt : Damaged
    attempt = damaged_first.damage n long_step jitter (80 + 10 * group.most) ident some_bits room half_sent (omega (arith, short))

    late_errors : (rate : ErrorRate) → timing.errors ≡ Some rate → KeepsErrors timing rate late_bus attempt all_planned late_sent
    late_errors rate stated = record {
      stated = stated;
      in_order = λ e g before in_g. omega arith;
      seldom = λ from.
          let once = one_at_most (λ e. cond (begins_within timing rate.every attempt from e) 1 0)
          (cond_both (begins_within timing rate.every attempt from 0) 1 0 (λ (k : ℕ). k ≤ 1) (λ _. omega arith) (λ _. omega arith)) in
          let some = rate.count_positive in
          omega (arith, once, some);
      few_others = λ p from to in_p is source seen waits wait.
          let none = none_other (with_errors late_bus attempt) (planned_with late_bus all_planned)
          (λ q. cond_both (nat_lt q late_bus.count) true true (λ (b : Bool). b ≡ true) (λ _. refl) (λ _. refl))
          ((with_errors late_bus attempt).ident p) from to in
          omega (arith, none);
    }

    late_errors_in_any_order : KeepsErrorsInAnyOrder plan timing late_bus controllers attempt all_planned late_sent
    late_errors_in_any_order = record {
      own = length plan.units.items;
      in_order = ap (λ (o : Option UnitPlan). option_map_or (λ (x : UnitPlan). not (is_any x.queue)) o true) no_unit;
      few_unplanned = λ p from to u unit in_p is takes at any seen waits wait.
          let none = none_foreseen (with_errors late_bus attempt) (planned_with late_bus all_planned)
          (λ q. cond_both (nat_lt q late_bus.count) true true (λ (b : Bool). b ≡ true) (λ _. refl) (λ _. refl)) from to in
          omega (arith, none);
    }

    pub can_be_kept_together : IsAskedSeldom plan flow → IsPgn group.pgn → (rate : ErrorRate) → timing.errors ≡ Some rate
        → CanBeKeptTogether plan timing rate f pace n half_sent
    can_be_kept_together few number rate stated =
        let legal = damaged_first.legal n long_step jitter (80 + 10 * group.most) ident some_bits room half_sent (omega (arith, short)) in
        record {
          s = late_bus;
          damaged = attempt;
          controllers = controllers;
          planned = all_planned;
          sent = late_sent;
          held = held;
          legal = legal;
          any_order = damaged_first.any_order late_bus attempt legal controllers;
          keeps = late_keeps few;
          queues = late_queues number;
          errors = late_errors rate stated;
          errors_in_any_order = late_errors_in_any_order;
          frames = refl;
          of_flow = λ p. refl;
          all_planned = λ p. refl;
          jitter = λ p. in_ms_behind timing pace.jitter (p * long_step) (p * long_step + jitter) (omega arith);
          once = refl;
          of_first = λ e. refl;
          of_another = λ e. refl;
        }

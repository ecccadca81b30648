-- A bus on which a flow is sent at each period: it keeps to its plan, and the flow keeps its pause.
use Rattle.std.proofs.Common.{◌≡◌, ℕ, suc, ◌+◌, ◌-◌, ◌*◌, ◌/◌, ◌<◌, ◌≤◌, List, refl, sym, ap, ◌∙◌, arith}
use Rattle.std.proofs.Math.Nat.{div-mul-le_self, lt-div-mul-add, mul-le-mul_left, mul-le-mul_right}
use Rattle.std.proofs.lemmas.Option.{same_Some}
use Rattle.j39_id.specs.Ident.{identifier_of}
use Rattle.j39_network.specs.PlannedUnits.{units_of}
use Rattle.j39_network.specs.declared.plan.Plan.{Plan}
use Rattle.j39_network.specs.declared.plan.flow_plan.FlowPlan.{FlowPlan}
use Rattle.j39_network.specs.declared.plan.group_plan.GroupPlan.{GroupPlan}
use Rattle.j39_network.specs.declared.plan.pace.Pace.{Pace}
use Rattle.j39_network.specs.declared.plan.timing.Bitrate.{Bitrate}
use Rattle.j39_network.specs.declared.plan.timing.Bitrate.TheVariants.{Kbit125, Kbit250, Kbit500, Mbit1}
use Rattle.j39_network.specs.declared.plan.timing.Timing.{Timing}
use Rattle.j39_world.specs.HeldAddresses.{ArePlannedApart}
use Rattle.j39_load.specs.Clocks.{IsTrueTime, bit_time, longest_million, million}
use Rattle.j39_load.specs.KeepsPlan.{KeepsQueues, KeepsToPlan, KeptBus}
use Rattle.j39_load.specs.Loads.{bits_per_ms}
use Rattle.j39_load.specs.ReadInTime.{AreWritten}
use Rattle.j39_load.specs.SentFrames.{Announcing, Carrying, FrameSources, IsMsBefore, Single, goes_to}
use Rattle.j39_load.specs.ValuesInTime.{KeepsPause}
use Rattle.j39_load.proofs.KeepingApart.{few_ident}
use Rattle.j39_load.proofs.KeepingPlanned.{a_period_apart, answer_nothing, keeps_all, keeps_queues, none_sent, of_one_source, planned_address}
use Rattle.j39_load.proofs.KeepingPlanned.{planned_controllers, planned_held}
use Rattle.j39_load.proofs.KeepingPlanned.{planned_single, slots_kept, steps_behind}
use Rattle.j39_load.proofs.Milliseconds.{at_once, faster, some_fast}
use Rattle.j39_load.proofs.Slots.{slots}
use Rattle.j39_timing.specs.Rounds.{all_planned}
use Rattle.j39_timing.specs.TimedFrames.{Schedule}
use Rattle.j39_vehicle_laws.specs.ValuesBrought.{CanBringValues, CanValuesBeBrought, IsSingleWithPause}

-- ---- bits

wide : (bitrate : Bitrate) (ms : ℕ) → 1 ≤ ms → 80 ≤ ms * bits_per_ms bitrate
wide Kbit125 ms some = omega (arith, some)
wide Kbit250 ms some = omega (arith, some)
wide Kbit500 ms some = omega (arith, some)
wide Mbit1 ms some = omega (arith, some)

-- fewer bits than a period's last less than it
within_period : (bitrate : Bitrate) (f ms bits : ℕ) → suc bits * f ≤ ms * bits_per_ms bitrate * f → 0 < f → bits * bit_time bitrate * f < 1000 * ms * f
within_period Kbit125 f ms bits less some = omega (arith, less, some)
within_period Kbit250 f ms bits less some = omega (arith, less, some)
within_period Kbit500 f ms bits less some = omega (arith, less, some)
within_period Mbit1 f ms bits less some = omega (arith, less, some)

-- three periods last more than one
before_period : (bitrate : Bitrate) (f ms a b : ℕ) → (a + 3 * (ms * bits_per_ms bitrate)) * f ≤ b * f → ms * million ≤ ms * f → 0 < ms * f
    → a * bit_time bitrate * f + 1000 * ms * million < b * bit_time bitrate * f
before_period Kbit125 f ms a b times more some = omega (arith, times, more, some)
before_period Kbit250 f ms a b times more some = omega (arith, times, more, some)
before_period Kbit500 f ms a b times more some = omega (arith, times, more, some)
before_period Mbit1 f ms a b times more some = omega (arith, times, more, some)

-- ---- the bus

module _ (plan : Plan) (timing : Timing) (apart : ArePlannedApart (units_of plan)) (f : ℕ) (flow : FlowPlan) (pace : Pace) (pause : ℕ) (group : GroupPlan)
    (is : IsSingleWithPause plan f flow pace pause group) (value : List ℕ) (written : AreWritten group value) (to : ℕ) (room : 80 ≤ to) where
  abbrev address : ℕ → ℕ
  address = planned_address plan apart

  -- from one frame to the next is a period
  abbrev width : ℕ
  width = pace.period * bits_per_ms timing.bitrate

  abbrev ident : ℕ
  ident = identifier_of group.priority group.pgn (goes_to address flow.to) (address flow.sender)

  abbrev bus : Schedule
  bus = slots width (to + 3) (λ p. ident)

  abbrev sent : FrameSources
  sent = of_one_source (Single f) width

  some_ms : 1 ≤ pace.period
  some_ms = pace.period_positive

  some_width : 80 ≤ width
  some_width = wide timing.bitrate pace.period some_ms

  to_one : ((u m : ℕ) → Single f ≡ Announcing u m → ⊥) × ((u m k : ℕ) → Single f ≡ Carrying u m k → ⊥)
  to_one = ((λ u m same. cc), (λ u m k same. cc))

  keeps : KeepsToPlan plan timing bus all_planned sent (planned_held plan apart)
  keeps = keeps_all plan timing apart bus sent
      (λ p in_p. planned_single plan timing apart f flow pace group is.its is.paced is.of is.short bus (p * width) p (omega arith) (omega arith)
      (at_once timing pace.jitter (p * width)) refl)
      (λ p q ms differ same every.
      a_period_apart plan timing f flow pace is.its is.paced width (steps_behind timing pace.period width (omega arith)) p q ms differ every)
      (answer_nothing plan timing bus sent f flow is.its is.unasked (λ p g own. own) (λ u. refl))
      (none_sent plan timing bus all_planned sent (λ u. refl) (λ p u m same. to_one.0 u m same) (λ p u m k same. to_one.1 u m k same))

  queues : KeepsQueues plan timing bus (planned_controllers plan (λ p. flow.sender)) all_planned sent
  queues = keeps_queues plan timing bus sent (λ p. flow.sender)
      (λ p u sends. ap (λ (g : FlowPlan). g.sender) (same_Some _ _ (sym is.its ∙ sends.1)) ∙ sends.2)
      (λ p. few_ident plan timing apart f flow pace group is.its is.paced is.of is.short (to + 3) is.number)

  abbrev kept : KeptBus plan timing
  kept = slots_kept plan timing apart width (to + 3) (λ p. ident) some_width sent (λ p. flow.sender) keeps queues

  -- a period has a release
  keeps_pause : (time : ℕ → ℕ) → IsTrueTime timing time → KeepsPause plan timing time bus all_planned sent f pause 0 to
  keeps_pause time clock t from by =
      let wide_enough = some_width in
      let low = div-mul-le_self t width in
      let high : t < t / width * width + width = lt-div-mul-add {a = t} {b = width} (omega (arith, wide_enough)) in
      let more : t / width * 1 ≤ t / width * width = mul-le-mul_left (t / width) (omega (arith, wide_enough)) in
      let some = some_fast timing in
      let times : suc (t - t / width * width) * longest_million timing ≤ width * longest_million timing =
      mul-le-mul_right (longest_million timing) (omega (arith, low, high)) in
      let near = within_period timing.bitrate (longest_million timing) pace.period (t - t / width * width) times some in
      let most = clock.at_most (t / width * width) t low in
      let longer : pace.period * longest_million timing ≤ pause * longest_million timing = mul-le-mul_right (longest_million timing) is.longer in
      (t / width, (omega (arith, low, more, by), refl, refl), low, omega (arith, near, most, longer))

  is_seen : IsMsBefore timing pace.period to bus.now
  is_seen =
      let wide_enough = some_width in
      let more : to * 1 ≤ to * width = mul-le-mul_left to (omega (arith, wide_enough)) in
      let fast = faster timing in
      let times : (to + 3 * width) * longest_million timing ≤ (to + 3) * width * longest_million timing =
      mul-le-mul_right (longest_million timing) (omega (arith, more)) in
      let one : 1 * longest_million timing ≤ pace.period * longest_million timing = mul-le-mul_right (longest_million timing) some_ms in
      let some = some_fast timing in
      before_period timing.bitrate (longest_million timing) pace.period to bus.now times (mul-le-mul_left pace.period fast) (omega (arith, one, some))

  pub can_bring : CanBringValues plan timing f pace pause group value to
  can_bring = record {
    bus = kept;
    bytes = λ p. value;
    are = λ p. refl;
    written = λ p its. written;
    pauses = keeps_pause;
    seen = is_seen;
    frame = 0;
    ended = record { its = (omega arith, refl, refl); ended = omega (arith, room) };
  }

pub values_brought : (plan : Plan) (timing : Timing) → CanValuesBeBrought plan timing
values_brought plan timing apart f flow pace pause group is value written to room = can_bring plan timing apart f flow pace pause group is value written to room

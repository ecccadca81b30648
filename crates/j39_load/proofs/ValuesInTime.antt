-- On a bus that keeps to a plan with whose load nothing is wrong values arrive in time, in milliseconds.
use Rattle.std.proofs.Common.{◌≡◌, ℕ, ◌+◌, ◌*◌, ◌-◌, ◌<◌, ◌≤◌, Bool, true, false, if◌then◌else◌, List, [], Option, Some, None}
use Rattle.std.proofs.Common.{refl, sym, ap, ◌∙◌, arith, option_map}
use Rattle.std.proofs.lemmas.Bool.{leb-true}
use Rattle.std.proofs.Math.Nat.{mul-le-mul_right}
use Rattle.std.proofs.lemmas.Grind.{div_ceil_times}
use Rattle.std.proofs.lemmas.Option.{none-some, same_Some, slice_get-map}
use Rattle.std.specs.List.{slice_get}
use Rattle.j39_findings.specs.Findings.{Clean}
use Rattle.j39_network.specs.declared.plan.Plan.{Plan}
use Rattle.j39_network.specs.declared.plan.flow_plan.FlowPlan.{FlowPlan}
use Rattle.j39_network.specs.declared.plan.group_plan.GroupPlan.{GroupPlan}
use Rattle.j39_network.specs.declared.plan.need_plan.NeedPlan.{NeedPlan}
use Rattle.j39_network.specs.declared.plan.pace.Pace.{Pace}
use Rattle.j39_network.specs.declared.plan.timing.Timing.{Timing}
use Rattle.j39_network.specs.declared.plan.to.To.{To}
use Rattle.j39_network.specs.declared.plan.to.To.TheVariants.{All as ToAllUnits, One}
use Rattle.j39_network.specs.declared.plan.unit_plan.UnitPlan.{UnitPlan}
use Rattle.j39_load.specs.declared.waits.delay.Delay.{Delay}
use Rattle.j39_load.specs.declared.frames.flow_frames.FlowFrames.{FlowFrames}
use Rattle.j39_load.specs.declared.loads.flow_load.FlowLoad.{FlowLoad}
use Rattle.j39_load.specs.declared.frames.messages.Messages.TheVariants.{Short}
use Rattle.j39_load.specs.Asked.{asked_of}
use Rattle.j39_load.specs.KeepsPlan.{IsSingleFlow, origins_of}
use Rattle.j39_load.specs.LoadFindings.{AreLoadFindings, AsksOfBus}
use Rattle.j39_load.specs.Loads.{bits_at_least, is_always_short, long_messages, single_frames, time_limit, us_of_bits, us_of_unit_ms}
use Rattle.j39_load.specs.AnswerStreams.{askers_of, messages_for}
use Rattle.j39_load.specs.FlowLoads.{load_of_flow}
use Rattle.j39_load.specs.ReadInTime.{AreReadYoung, CarryWritten, IsNeedRead}
use Rattle.j39_load.specs.Clocks.{IsTrueTime, bit_time, longest_million, million}
use Rattle.j39_load.specs.SentFrames.{FrameSources}
use Rattle.j39_load.specs.ValuesInTime.{AreValuesInTime, ArriveOn, IsValueInTime}
use Rattle.j39_load.proofs.KeepingAnyOrder.{keeps_in_any_order}
use Rattle.j39_load.proofs.KeepingPlan.{keeps_in_order}
use Rattle.j39_load.proofs.Milliseconds.{before_bits, behind_bits, least_inside, stated_in_time}
use Rattle.j39_load.proofs.KeptInTime.{in_period}
use Rattle.j39_load.proofs.ReadingInTime.{read_where_checked}
use Rattle.j39_load.proofs.Sending.{in_order}
use Rattle.j39_timing.specs.FreshFrames.{KeepsComing}
use Rattle.j39_timing.specs.TimedFrames.{Schedule}

-- a time that is over in so many bits more
aged : (timing : Timing) (time : ℕ → ℕ) → IsTrueTime timing time → (pause within bits born last now : ℕ) → last + bits ≡ now
    → time last < time born + 1000 * pause * longest_million timing
    → us_of_unit_ms timing pause + us_of_bits timing bits ≤ within → time now ≤ time born + within * million
aged timing time clock pause within bits born last now sum near asked =
    let on = clock.at_most last now (omega (arith, sum)) in
    let span : now - last ≡ bits = omega (arith, sum) in
    let same : (now - last) * bit_time timing.bitrate * longest_million timing ≡ bits * bit_time timing.bitrate * longest_million timing =
    ap (λ (n : ℕ). n * bit_time timing.bitrate * longest_million timing) span in
    let stated = stated_in_time timing bits in
    let silent = (div_ceil_times (1000 * pause * longest_million timing) million (omega arith)).0 in
    let both : (us_of_unit_ms timing pause + us_of_bits timing bits) * million ≤ within * million = mul-le-mul_right million asked in
    omega (arith, on, same, stated, silent, both, near)

-- the pace of a flow of which a load is reported
record IsPaceOf (timing : Timing) (flow : FlowPlan) (load : FlowLoad) : Type 0 where
  pub pace : Pace
  pub paced : flow.pace ≡ Some pace
  pub limit : load.limit ≡ time_limit timing pace

module _ (plan : Plan) (timing : Timing) (stays : UnitPlan → Bool) (flow : FlowPlan) (load : FlowLoad) where
  pace_stated : (pace : Option Pace) (group : Option GroupPlan) → flow.pace ≡ pace → slice_get plan.groups.items flow.group ≡ group
      → load_of_flow timing plan stays flow ≡ Some load → IsPaceOf timing flow load
  pace_stated None group paced at is = absurd (none-some load (rw (paced) at is))
  pace_stated (Some pace) None paced at is = absurd (none-some load (rw (paced, at) at is))
  pace_stated (Some pace) (Some group) paced at is = record {
    pace = pace;
    paced = paced;
    limit = ap (λ (l : FlowLoad). l.limit) (sym (same_Some _ load (rw (paced, at) at is)));
  }

  -- where its messages are reported to go in one frame they do
  single_stated : (pace : Pace) (group : GroupPlan) (frames : FlowFrames) → flow.pace ≡ Some pace → slice_get plan.groups.items flow.group ≡ Some group
      → load_of_flow timing plan stays flow ≡ Some load → load.messages ≡ Short frames → group.most ≤ 8
  single_stated pace group frames paced at is short =
      by_length (is_always_short group) flow.to refl (ap (λ (l : FlowLoad). l.messages) (same_Some _ load (rw (paced, at) at is)) ∙ short)
    where
      by_length : (b : Bool) (to : To) → is_always_short group ≡ b
          → messages_for timing pace (askers_of plan.requests.items flow)
          (if b then Short (single_frames timing plan.units.items stays flow pace group) else long_messages timing plan.units.items stays flow pace group to)
          ≡ Short frames → group.most ≤ 8
      by_length true to fits same = leb-true group.most 8 fits
      by_length false ToAllUnits fits same = absurd (let stated = same in cc)
      by_length false (One v) fits same = absurd (let stated = same in cc)

module _ (plan : Plan) (timing : Timing) (clean : Clean plan) (stays : UnitPlan → Bool) (delays : List (Option Delay))
    (asks : AsksOfBus plan timing stays delays)
    (need : NeedPlan) (within : ℕ) (read : IsNeedRead plan timing (asked_of timing plan stays) delays need within) where
  its_load : load_of_flow timing plan stays read.fresh.flow ≡ Some read.fresh.bounded.load
  its_load = same_Some _ (Some read.fresh.bounded.load)
      (sym (slice_get-map (load_of_flow timing plan stays) plan.flows.items read.fresh.place
      ∙ ap (option_map (load_of_flow timing plan stays)) read.fresh.its) ∙ read.fresh.bounded.its)

  its_pace : IsPaceOf timing read.fresh.flow read.fresh.bounded.load
  its_pace =
      pace_stated plan timing stays read.fresh.flow read.fresh.bounded.load read.fresh.flow.pace (slice_get plan.groups.items read.fresh.flow.group) refl refl
      its_load

  -- its messages go in one frame
  single : IsSingleFlow plan read.fresh.place
  single = record {
    flow = read.fresh.flow;
    its = read.fresh.its;
    group = read.group;
    of = read.of;
    short = single_stated plan timing stays read.fresh.flow read.fresh.bounded.load its_pace.pace read.group read.fresh.bounded.frames its_pace.paced read.of
        its_load read.fresh.bounded.short;
  }

  -- its delay is within its period
  delay_within : read.fresh.bits ≤ bits_at_least timing its_pace.pace.period
  delay_within =
      let inside = read.fresh.bounded.inside in
      let limit = its_pace.limit in
      let period = in_period timing its_pace.pace.period its_pace.pace.deadline in
      omega (arith, inside, limit, period)

  arrive : (s : Schedule) (planned : ℕ → Bool) (sent : FrameSources)
      → ((silent : ℕ) (bytes : ℕ → List ℕ) (written : CarryWritten s planned (origins_of plan sent) read.fresh.place read.group bytes) (from to : ℕ)
      → KeepsComing s planned (origins_of plan sent) read.fresh.place silent from to
      → to + (read.fresh.bounded.frames.stream.jitter + read.fresh.bounded.wait) < s.now
      → AreReadYoung s planned (origins_of plan sent) read.fresh.place read.group bytes written (silent + read.fresh.bits)
      (from + read.fresh.bits) (to + read.fresh.bits))
      → ArriveOn plan timing s planned sent read.fresh.place its_pace.pace read.fresh.pause read.group within
  arrive s planned sent young bytes written time clock from to pausing shown t behind up =
      let seen = before_bits timing its_pace.pace.period to s.now shown in
      let fewer = least_inside timing its_pace.pace.period in
      let low = behind_bits timing its_pace.pace.period from t behind in
      let sum = read.fresh.bounded.sum in
      let delay = delay_within in
      let last = t - read.fresh.bits in
      let back : last + read.fresh.bits ≡ t = omega (arith, low, delay) in
      let (p, (in_p, is, source), release, near) = pausing last (omega (arith, low, delay, back)) (omega (arith, up, back)) in
      let silent = last - sent.release p + 1 in
      let coming : KeepsComing s planned (origins_of plan sent) read.fresh.place silent last last =
      λ u first end. (p, in_p, is, source, omega (arith, release, first), omega (arith, release, end)) in
      let (some, each) = young silent bytes written last last coming (omega (arith, seen, sum, delay, fewer, up, back)) t (omega (arith, back))
      (omega (arith, back)) in (
        some,
        λ q newest.
            let reads = each q newest in
            let age = reads.young in
            let later : sent.release p ≤ sent.release q = omega (arith, age, back, release) in
            let on = clock.at_least (sent.release p) (sent.release q) later in
            let old = aged timing time clock read.fresh.pause (1000 * within) read.fresh.bits (sent.release p) last t back near read.fresh.young in
            (omega (arith, on, old), reads.read),
      )

  value_in_time : IsValueInTime plan timing need within
  value_in_time = record {
    place = read.fresh.place;
    flow = read.fresh.flow;
    its = read.fresh.its;
    meets = read.fresh.meets;
    unasked = read.fresh.unasked;
    pace = its_pace.pace;
    paced = its_pace.paced;
    pause = read.fresh.pause;
    paused = read.fresh.paused;
    group = read.group;
    of = read.of;
    in_any_order = λ s controllers planned sent held legal keeps queues.
        arrive s planned sent (λ silent. read.in_any_order silent s controllers planned (origins_of plan sent) legal
        (keeps_in_any_order plan timing stays clean asks.standing s controllers planned sent held read.fresh.place single legal keeps queues));
    in_order = λ ordered s planned sent held legal keeps.
        arrive s planned sent (λ silent. read.in_order silent (in_order timing plan stays ordered) s planned (origins_of plan sent) legal
        (keeps_in_order plan timing stays clean asks.standing s planned sent held read.fresh.place single legal keeps));
  }

pub values_in_time : (plan : Plan) (timing : Timing) → Clean plan → AreLoadFindings plan (Some timing) [] → AreValuesInTime plan timing
values_in_time plan timing clean found n need within at asked =
    let (stays, delays, asks, each) = read_where_checked plan timing clean found in
    value_in_time plan timing clean stays delays asks need within (each n need within at asked)

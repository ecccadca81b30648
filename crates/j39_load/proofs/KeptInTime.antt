-- On a bus that keeps to a plan with whose load nothing is wrong each frame is sent in time, in milliseconds.
use Rattle.std.proofs.Common.{◌≡◌, ℕ, ◌<◌, ◌≤◌, Bool, true, List, [], Option, Some, None, length}
use Rattle.std.proofs.Common.{sym, ap, ◌∙◌, subst, arith}
use Rattle.std.proofs.lemmas.Option.{none-some, same_Some}
use Rattle.j39_findings.specs.Findings.{Clean}
use Rattle.j39_network.specs.declared.plan.Plan.{Plan}
use Rattle.j39_network.specs.declared.plan.flow_plan.FlowPlan.{FlowPlan}
use Rattle.j39_network.specs.declared.plan.pace.Pace.{Pace}
use Rattle.j39_network.specs.declared.plan.timing.Timing.{Timing}
use Rattle.j39_network.specs.declared.plan.unit_plan.UnitPlan.{UnitPlan}
use Rattle.j39_load.specs.declared.waits.delay.Delay.{Delay}
use Rattle.j39_load.specs.declared.loads.flow_load.FlowLoad.{FlowLoad}
use Rattle.j39_load.specs.Asked.{asked_of, frames_asked, total_load}
use Rattle.j39_load.specs.KeepsErrors.{AreInTimeWithErrors, AreInTimeWithErrorsInAnyOrder, origins_with, planned_with}
use Rattle.j39_load.specs.KeepsPlan.{AreFramesInTime, AreSentInTime, IsSingleFlow, KeepsToPlan, origins_of, source_place}
use Rattle.j39_load.specs.LoadFindings.{AreLoadFindings, AsksOfBus, further_findings, load_findings}
use Rattle.j39_load.specs.Loads.{bits_at_least, bits_inside, limit_by, time_limit}
use Rattle.j39_load.specs.PlannedFrames.{IsBounded}
use Rattle.j39_load.specs.SentFrames.{FrameSources, Held, IsFrameOf, IsMsBefore, IsSingleFrame, IsWithinMs, Single, Source}
use Rattle.j39_load.proofs.BoundedFlows.{short_bounded}
use Rattle.j39_load.proofs.KeepingErrors.{frames_in_time, keeps_with_errors}
use Rattle.j39_load.proofs.KeepingAnyErrors.{keeps_any_with_errors}
use Rattle.j39_load.proofs.KeepingAnyOrder.{keeps_in_any_order}
use Rattle.j39_load.proofs.PlacedFrames.{at_place, load, of_one_frame, own}
use Rattle.j39_load.proofs.KeepingPlan.{keeps_in_order}
use Rattle.j39_load.proofs.Milliseconds.{before_bits, in_ms, least_inside}
use Rattle.j39_load.proofs.Sending.{in_order}
use Rattle.j39_load.proofs.StreamsBefore.{none_of_two}
use Rattle.j39_timing.proofs.Errors.{legal_in_any_order_with_errors, legal_with_errors}
use Rattle.j39_timing.specs.Errors.{damage_ordered, with_errors}
use Rattle.j39_timing.specs.Messages.{frame_end}
use Rattle.j39_timing.specs.TimedFrames.{Schedule}
use Rattle.j39_timing.specs.Traffic.{IsStreamInTime}

-- ---- the smaller one of two times

-- a limit is within the period, and within a deadline that is written
pub in_period : (timing : Timing) (period : ℕ) (deadline : Option ℕ) → limit_by timing period deadline ≤ bits_at_least timing period
in_period timing period None = omega arith
in_period timing period (Some deadline) = omega arith

in_deadline : (timing : Timing) (period : ℕ) (deadline : Option ℕ) (ms : ℕ) → deadline ≡ Some ms → limit_by timing period deadline ≤ bits_inside timing ms
in_deadline timing period None ms is = absurd (none-some ms is)
in_deadline timing period (Some deadline) ms is =
    let same : bits_inside timing deadline ≡ bits_inside timing ms = ap (bits_inside timing) (same_Some deadline ms is) in
    omega (arith, same)

module _ (plan : Plan) (timing : Timing) (stays : UnitPlan → Bool) (delays : List (Option Delay)) (asks : AsksOfBus plan timing stays delays)
    (none : load_findings timing (total_load timing (asked_of timing plan stays)) delays ≡ []) where
  -- ---- what is reported of a frame's flow

  -- its delay, which is within the limit of its pace
  pub record HasBound (f : ℕ) (pace : Pace) : Type 0 where
    pub bits : ℕ
    pub bound : IsBounded timing (asked_of timing plan stays) f bits
    pub limited : bits ≤ time_limit timing pace

  pub bound_of : (s : Schedule) (held : Held) (f release p : ℕ) (one : IsSingleFrame plan timing s held f release p) → HasBound f one.pace
  bound_of s held f release p one =
      let its_load : FlowLoad = load plan timing stays f one.flow one.pace one.group one.its one.paced one.of in
      let at = at_place plan timing stays f one.flow one.pace one.group one.its one.paced one.of in
      let (bits, stated, bound) = short_bounded plan timing stays delays asks none f its_load
      (own plan timing stays f one.flow one.pace one.group one.its one.paced one.of) at
      (of_one_frame plan timing stays f one.flow one.pace one.group one.its one.paced one.of one.short) in
      let same : bound.load ≡ its_load = same_Some _ _ (same_Some _ _ (sym bound.its ∙ at)) in
      record {
        bits = bits;
        bound = bound;
        limited = subst (λ (l : FlowLoad). bits ≤ l.limit) same bound.inside;
      }

  -- ---- frames

  module _ (s : Schedule) (planned : ℕ → Bool) (sent : FrameSources) (held : Held) (keeps : KeepsToPlan plan timing s planned sent held)
      (in_time : (i bits : ℕ) (single : IsSingleFlow plan i) (bound : IsBounded timing (asked_of timing plan stays) i bits)
      → IsStreamInTime s planned (origins_of plan sent) i bound.frames.stream bound.wait) where
    module _ (p f : ℕ) (in_p : p < s.count) (is : planned p ≡ true) (source : sent.source p ≡ Single f) where
      abbrev one : IsSingleFrame plan timing s held f (sent.release p) p
      one = subst (λ (x : Source). IsFrameOf plan timing s held sent.broadcasts x (sent.release p) p) source (keeps.frames p in_p is)

      single : IsSingleFlow plan f
      single = record { flow = one.flow; its = one.its; group = one.group; of = one.of; short = one.short }

      its_own : IsMsBefore timing one.pace.period (sent.release p) s.now
          → IsWithinMs timing one.pace.period (sent.release p) (frame_end s p)
          × ((deadline : ℕ) → one.pace.deadline ≡ Some deadline → IsWithinMs timing deadline (sent.release p) (frame_end s p))
      its_own seen =
          let stated = bound_of s held f (sent.release p) p one in
          let period = in_period timing one.pace.period one.pace.deadline in
          let inside = least_inside timing one.pace.period in
          let sum = stated.bound.sum in
          let limited = stated.limited in
          let shown = before_bits timing one.pace.period (sent.release p) s.now seen in
          let ended = (in_time f stated.bits single stated.bound p in_p is (ap (source_place plan) source)
          (omega (arith, shown, limited, period, inside, sum))).1 in (
            in_ms timing one.pace.period (sent.release p) (frame_end s p) (omega (arith, ended, sum, limited, period, inside)),
            λ deadline written.
                let first = in_deadline timing one.pace.period one.pace.deadline deadline written in
                in_ms timing deadline (sent.release p) (frame_end s p) (omega (arith, ended, sum, limited, first)),
          )

    pub sent_in_time : AreSentInTime plan timing s planned sent
    sent_in_time p f flow pace in_p is source its paced seen =
        let same_flow : (one p f in_p is source).flow ≡ flow = same_Some _ _ (sym (one p f in_p is source).its ∙ its) in
        let same : (one p f in_p is source).pace ≡ pace =
        same_Some _ _ (sym (one p f in_p is source).paced ∙ (ap (λ (f : FlowPlan). f.pace) same_flow ∙ paced)) in
        subst (λ (x : Pace). IsMsBefore timing x.period (sent.release p) s.now
        → IsWithinMs timing x.period (sent.release p) (frame_end s p)
        × ((deadline : ℕ) → x.deadline ≡ Some deadline → IsWithinMs timing deadline (sent.release p) (frame_end s p))) same (its_own p f in_p is source) seen

-- ---- plans

module _ (plan : Plan) (timing : Timing) (clean : Clean plan) (stays : UnitPlan → Bool) (delays : List (Option Delay))
    (asks : AsksOfBus plan timing stays delays)
    (none : load_findings timing (total_load timing (asked_of timing plan stays)) delays ≡ []) where
  in_time : AreFramesInTime plan timing
  in_time = record {
    in_order = λ ordered s planned sent held legal keeps. sent_in_time plan timing stays delays asks none s planned sent held keeps
        (λ i bits single bound. bound.bounds (in_order timing plan stays ordered) s planned (origins_of plan sent) legal
        (keeps_in_order plan timing stays clean asks.standing s planned sent held i single legal keeps));
    in_any_order = λ s controllers planned sent held legal keeps queues. sent_in_time plan timing stays delays asks none s planned sent held keeps
        (λ i bits single bound. bound.in_any_order s controllers planned (origins_of plan sent) legal
        (keeps_in_any_order plan timing stays clean asks.standing s controllers planned sent held i single legal keeps queues));
  }

  with_errors_in_time : AreInTimeWithErrors plan timing
  with_errors_in_time ordered s d planned sent held rate legal keeps errors = sent_in_time plan timing stays delays asks none s planned sent held keeps
      (λ i bits single bound. frames_in_time plan timing stays asks.standing clean s d legal.bus planned sent held keeps rate errors i bound.frames.stream
      bound.wait (λ flow. bound.bounds (in_order timing plan stays ordered) (with_errors s d) (planned_with s planned)
      (origins_with plan s d rate (length (frames_asked (asked_of timing plan stays))) sent) (legal_with_errors s d legal)
      (keeps_with_errors plan timing stays asks.standing clean s d legal.bus planned sent held keeps rate errors i flow single)))

  with_errors_in_any_order : AreInTimeWithErrorsInAnyOrder plan timing
  with_errors_in_any_order s controllers d planned sent held rate legal keeps queues errors more = sent_in_time plan timing stays delays asks none s planned sent held keeps
      (λ i bits single bound. frames_in_time plan timing stays asks.standing clean s d legal.bus planned sent held keeps rate errors i bound.frames.stream
      bound.wait (λ flow. bound.in_any_order (with_errors s d) (damage_ordered s controllers more.own) (planned_with s planned)
      (origins_with plan s d rate (length (frames_asked (asked_of timing plan stays))) sent) (legal_in_any_order_with_errors s d controllers more.own legal)
      (keeps_any_with_errors plan timing stays asks.standing clean s d legal.bus planned sent held keeps rate errors controllers queues more i single flow)))

pub kept_with_errors_in_any_order : (plan : Plan) (timing : Timing) → Clean plan → AreLoadFindings plan (Some timing) []
    → AreInTimeWithErrorsInAnyOrder plan timing
kept_with_errors_in_any_order plan timing clean (stays, delays, asks, none) = with_errors_in_any_order plan timing clean stays delays asks
    (none_of_two (load_findings timing (total_load timing (asked_of timing plan stays)) delays)
    (further_findings plan timing delays) (sym none)).0

pub kept_with_errors : (plan : Plan) (timing : Timing) → Clean plan → AreLoadFindings plan (Some timing) [] → AreInTimeWithErrors plan timing
kept_with_errors plan timing clean (stays, delays, asks, none) = with_errors_in_time plan timing clean stays delays asks
    (none_of_two (load_findings timing (total_load timing (asked_of timing plan stays)) delays)
    (further_findings plan timing delays) (sym none)).0

pub kept_in_time : (plan : Plan) (timing : Timing) → Clean plan → AreLoadFindings plan (Some timing) [] → AreFramesInTime plan timing
kept_in_time plan timing clean (stays, delays, asks, none) = in_time plan timing clean stays delays asks
    (none_of_two (load_findings timing (total_load timing (asked_of timing plan stays)) delays)
    (further_findings plan timing delays) (sym none)).0

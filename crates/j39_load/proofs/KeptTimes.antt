-- On a bus that keeps to a plan each frame that is a whole message is sent within the time that is reported of its flow.
use Rattle.std.proofs.Common.{◌≡◌, ℕ, ◌<◌, Bool, true, List, Option, ap, subst, arith, inl, inr}
use Rattle.j39_findings.specs.Findings.{Clean}
use Rattle.j39_network.specs.declared.plan.Plan.{Plan}
use Rattle.j39_network.specs.declared.plan.timing.Timing.{Timing}
use Rattle.j39_network.specs.declared.plan.unit_plan.UnitPlan.{UnitPlan}
use Rattle.j39_load.specs.declared.waits.delay.Delay.{Delay}
use Rattle.j39_load.specs.KeepsPlan.{IsSingleFlow, KeepsToPlan, origins_of, source_place}
use Rattle.j39_load.specs.KeptTimes.{AreSentAsReported, AreTimesKept}
use Rattle.j39_load.specs.LoadFindings.{AsksOfBus}
use Rattle.j39_load.specs.SentFrames.{FrameSources, Held, IsFrameOf, IsSingleFrame, Single, Source}
use Rattle.j39_load.proofs.BoundedFlows.{bounded, bounded_beyond}
use Rattle.j39_load.proofs.KeepingAnyOrder.{keeps_in_any_order}
use Rattle.j39_load.proofs.KeepingPlan.{keeps_in_order}
use Rattle.j39_load.proofs.Sending.{in_order}
use Rattle.j39_timing.specs.TimedFrames.{Schedule}
use Rattle.j39_timing.specs.Traffic.{IsStreamInTime, delay_of}
use Rattle.j39_timing.specs.declared.stream.Stream.{Stream}

module _ (plan : Plan) (timing : Timing) (s : Schedule) (planned : ℕ → Bool) (sent : FrameSources) (held : Held)
    (keeps : KeepsToPlan plan timing s planned sent held) where
  -- the flow of such a frame
  single : (p f : ℕ) → p < s.count → planned p ≡ true → sent.source p ≡ Single f → IsSingleFlow plan f
  single p f in_p is source =
      let one : IsSingleFrame plan timing s held f (sent.release p) p =
      subst (λ (x : Source). IsFrameOf plan timing s held sent.broadcasts x (sent.release p) p) source (keeps.frames p in_p is) in
      record { flow = one.flow; its = one.its; group = one.group; of = one.of; short = one.short }

  -- what begins in time is sent in time
  as_stated : (f bits wait : ℕ) (stream : Stream) → bits ≡ delay_of stream wait
      → (IsSingleFlow plan f → IsStreamInTime s planned (origins_of plan sent) f stream wait) → AreSentAsReported s planned sent f bits
  as_stated f bits wait stream sum in_time p in_p is source seen =
      let ended = (in_time (single p f in_p is source) p in_p is (ap (source_place plan) source) (omega (arith, sum, seen))).1 in
      omega (arith, ended, sum)

pub kept_times : (plan : Plan) (timing : Timing) (stays : UnitPlan → Bool) (delays : List (Option Delay)) → Clean plan
    → AsksOfBus plan timing stays delays → AreTimesKept plan timing delays
kept_times plan timing stays delays clean asks = record {
  in_order = λ ordered s planned sent held legal keeps f bits stated. elim stated [
    | inl within ↦
        let bound = bounded plan timing stays delays asks f bits within in
        as_stated plan timing s planned sent held keeps f bits bound.wait bound.frames.stream bound.sum
        (λ single. bound.bounds (in_order timing plan stays ordered) s planned (origins_of plan sent) legal
        (keeps_in_order plan timing stays clean asks.standing s planned sent held f single legal keeps))
    | inr beyond ↦
        let bound = bounded_beyond plan timing stays delays asks f bits beyond in
        as_stated plan timing s planned sent held keeps f bits bound.wait bound.frames.stream bound.sum
        (λ single. bound.bounds (in_order timing plan stays ordered) s planned (origins_of plan sent) legal
        (keeps_in_order plan timing stays clean asks.standing s planned sent held f single legal keeps))
  ];
  in_any_order = λ s controllers planned sent held legal keeps queues f bits stated. elim stated [
    | inl within ↦
        let bound = bounded plan timing stays delays asks f bits within in
        as_stated plan timing s planned sent held keeps f bits bound.wait bound.frames.stream bound.sum
        (λ single. bound.in_any_order s controllers planned (origins_of plan sent) legal
        (keeps_in_any_order plan timing stays clean asks.standing s controllers planned sent held f single legal keeps queues))
    | inr beyond ↦
        let bound = bounded_beyond plan timing stays delays asks f bits beyond in
        as_stated plan timing s planned sent held keeps f bits bound.wait bound.frames.stream bound.sum
        (λ single. bound.in_any_order s controllers planned (origins_of plan sent) legal
        (keeps_in_any_order plan timing stays clean asks.standing s controllers planned sent held f single legal keeps queues))
  ];
}

use Rattle.std.proofs.Common.{arith, get_or, map, None}
use Rattle.j39_timing.specs.LeastShares.{IsStretchBelow}
use Rattle.j39_timing.specs.Waits.{as_demand, lesser_share}
use Rattle.j39_timing.specs.declared.lines.Stretch.{Stretch}
use Rattle.j39_timing.specs.declared.stream.Stream.{Stream}
use Rattle.j39_timing.proofs.LeastShares.{one-more-stream}
use Rattle.j39_timing.proofs.lines.stretch_of_all.Goals as goal

pub loop-stream-preserved : goal.loop-stream-preserved
loop-stream-preserved c =
    let none : Stream = record { frames = 0; period = 0; bits = 0; jitter = 0; wanted = None } in
    let stretch : Stretch = record { line = c.loop-stream.line; until = c.loop-stream.until } in
    let next : IsStretchBelow c.stretch_of-next.result c.args.span (λ x. lesser_share (map as_demand c.args.all.now) x (get_or c.args.streams.now c.loop-stream.stream-index none)) =
    c.stretch_of-next.ensures.below in
    let (so_far, known, part) = c.loop-stream.invariant in
    let (few, little) = c.stretch_of-next.ensures.small in (
      rw c.min-until.ensures (one-more-stream (map as_demand c.args.all.now) stretch c.stretch_of-next.result c.args.span c.args.streams.now c.loop-stream.stream-index none
          c.loop-stream-test.true so_far next),
      omega (arith, known, few),
      omega (arith, part, little),
    )

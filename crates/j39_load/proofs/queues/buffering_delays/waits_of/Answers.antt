use Rattle.std.proofs.Common.{ℕ, get_or, None}
use Rattle.j39_load.specs.AnyQueues.{IsBufferedFor}
use Rattle.j39_load.specs.inside.BufferingDelays.{IsShortWait}
use Rattle.j39_load.proofs.StatedPlaces.{one_stated}
use Rattle.j39_load.proofs.queues.buffering_delays.waits_of.Goals as goal

pub loop-frames-preserved : goal.loop-frames-preserved
loop-frames-preserved c =
    rw (c.in_ok-push.ensures.items)
    (one_stated (λ (j : ℕ). IsBufferedFor c.args.timing c.args.ends c.args.all.now (get_or c.args.all.now j None)) IsShortWait c.loop-frames.frames-index
    c.loop-frames.waits.items c.in_ok-wait.wait c.loop-frames.invariant c.in_ok-wait.ensures.bounded c.in_ok-wait.ensures.short)

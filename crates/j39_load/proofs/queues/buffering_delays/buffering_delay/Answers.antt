use Rattle.std.proofs.Common.{rules}
use Rattle.j39_load.proofs.BufferingDelays.{held_by_queue_group}
use Rattle.j39_load.proofs.queues.buffering_delays.buffering_delay.Goals as goal

pub returns-in-Some-clause-bounded : goal.returns-in-Some-clause-bounded
returns-in-Some-clause-bounded c =
    held_by_queue_group c.args.timing c.args.ends c.args.all.now c.args.frames.now c.in-Some.frames c.args.leasts.now c.queue_group_wait.result c.in-Some.is c.requires.leasts
    (search rules) c.queue_group_wait.ensures.wait

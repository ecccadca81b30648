use Rattle.std.proofs.Common.{◌≡◌, map, take}
use Rattle.j39_audit.specs.QueueTimes.{queueing_of}
use Rattle.j39_audit.proofs.queue_times.queue_times_by.Given as goal

abbrev pub invariant-loop-flow : goal.invariant-loop-flow
invariant-loop-flow l = l.times.items ≡ map (queueing_of l.requests) (take l.flow-index l.flows)

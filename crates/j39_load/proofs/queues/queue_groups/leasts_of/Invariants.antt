use Rattle.std.proofs.Common.{◌≡◌, map}
use Rattle.std.specs.List.{range_with_len}
use Rattle.j39_load.specs.AnyQueues.{least_of}
use Rattle.j39_load.proofs.queues.queue_groups.leasts_of.Given as goal

abbrev pub invariant-loop-unit : goal.invariant-loop-unit
invariant-loop-unit l = l.leasts.items ≡ map (least_of l.all) (range_with_len 0 l.unit)

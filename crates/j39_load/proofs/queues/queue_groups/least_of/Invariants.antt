use Rattle.std.proofs.Common.{◌≡◌, take}
use Rattle.j39_load.specs.Ages.{least}
use Rattle.j39_load.specs.AnyQueues.{own_least}
use Rattle.j39_load.specs.LineLists.{lines_of_each}
use Rattle.j39_load.proofs.queues.queue_groups.least_of.Given as goal

abbrev pub invariant-loop-frames : goal.invariant-loop-frames
invariant-loop-frames l = l.least ≡ least (lines_of_each (own_least l.unit) 0 (take l.frames-index l.all))

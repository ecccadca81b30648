use Rattle.std.proofs.Common.{◌≡◌, take}
use Rattle.j39_load.specs.Ages.{least}
use Rattle.j39_load.specs.AnyQueues.{unbounded_at}
use Rattle.j39_load.specs.LineLists.{lines_of_each}
use Rattle.j39_load.proofs.queues.buffering_delays.least_unbounded.Given as goal

abbrev pub invariant-loop-place : goal.invariant-loop-place
invariant-loop-place l = l.least ≡ least (lines_of_each (unbounded_at l.waits) 0 (take l.place l.all))

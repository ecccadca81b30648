use Rattle.std.proofs.Common.{map, ◌+◌, ◌-◌, ◌≤◌}
use Rattle.j39_timing.specs.Waits.{NoShorterFits, as_demand}
use Rattle.j39_timing.proofs.waiting.least_wait.Given as goal

abbrev pub invariant-loop-wait : goal.invariant-loop-wait
invariant-loop-wait l = NoShorterFits (map as_demand l.wanted) l.blocking l.streams l.wait × (l.wait ≤ l.most + 1)

abbrev pub decreases-loop-wait : goal.decreases-loop-wait
decreases-loop-wait l = l.most + 1 - l.wait

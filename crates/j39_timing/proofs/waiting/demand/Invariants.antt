use Rattle.std.proofs.Common.{◌≡◌, map, take, sum_by}
use Rattle.j39_timing.specs.Waits.{as_demand, lesser_share}
use Rattle.j39_timing.proofs.waiting.demand.Given as goal

abbrev pub invariant-loop-stream : goal.invariant-loop-stream
invariant-loop-stream l = l.sum ≡ sum_by (lesser_share (map as_demand l.all) l.span) (take l.stream-index l.streams)

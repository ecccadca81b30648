use Rattle.std.proofs.Common.{◌*◌, ◌≤◌, ◌^◌, map, take, sum_by}
use Rattle.j39_timing.specs.LeastShares.{IsStretchBelow}
use Rattle.j39_timing.specs.Waits.{as_demand, lesser_share}
use Rattle.j39_timing.proofs.lines.stretch_of_all.Given as goal

abbrev pub invariant-loop-stream : goal.invariant-loop-stream
invariant-loop-stream l =
    IsStretchBelow (record { line = l.line; until = l.until }) l.span (λ x. sum_by (lesser_share (map as_demand l.all) x) (take l.stream-index l.streams))
    × (l.line.known ≤ l.stream-index * 2 ^ 51) × (l.line.part ≤ l.stream-index * 2 ^ 50)

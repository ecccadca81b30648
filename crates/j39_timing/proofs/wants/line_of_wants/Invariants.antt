use Rattle.std.proofs.Common.{◌*◌, ◌≤◌, ◌^◌, take, sum_by}
use Rattle.j39_timing.specs.LeastShares.{IsLineBelow}
use Rattle.j39_timing.specs.Waits.{frames_of_want}
use Rattle.j39_timing.proofs.wants.line_of_wants.Given as goal

abbrev pub invariant-loop-want : goal.invariant-loop-want
invariant-loop-want l = IsLineBelow l.line l.span (λ x. sum_by (frames_of_want x) (take l.want-index l.wants) * l.bits)
    × (l.line.known ≤ l.want-index * 2 ^ 51) × (l.line.part ≤ l.want-index * 2 ^ 49)

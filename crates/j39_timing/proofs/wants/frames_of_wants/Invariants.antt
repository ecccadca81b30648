use Rattle.std.proofs.Common.{◌≡◌, take, sum_by}
use Rattle.j39_timing.specs.Waits.{frames_of_want}
use Rattle.j39_timing.proofs.wants.frames_of_wants.Given as goal

abbrev pub invariant-loop-want : goal.invariant-loop-want
invariant-loop-want l = l.frames ≡ sum_by (frames_of_want l.span) (take l.want-index l.wants)

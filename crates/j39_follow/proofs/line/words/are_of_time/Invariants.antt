use Rattle.std.proofs.Common.{◌≤◌, ◌-◌, length}
use Rattle.std.specs.List.{AllWithin}
use Rattle.j39_follow.specs.LogLines.{IsOfTime}
use Rattle.j39_follow.proofs.line.words.are_of_time.Given as goal

abbrev pub invariant-loop-at : goal.invariant-loop-at
invariant-loop-at l = (l.at ≤ length l.bytes) × AllWithin IsOfTime l.bytes 0 l.at

abbrev pub decreases-loop-at : goal.decreases-loop-at
decreases-loop-at l = length l.bytes - l.at

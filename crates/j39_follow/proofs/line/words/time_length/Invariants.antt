use Rattle.std.proofs.Common.{◌≤◌, ◌-◌, length}
use Rattle.std.specs.List.{AllWithin}
use Rattle.j39_follow.specs.LogLines.{IsOfTime}
use Rattle.j39_follow.proofs.line.words.time_length.Given as goal

abbrev pub invariant-loop-stop : goal.invariant-loop-stop
invariant-loop-stop l = (l.stop ≤ length l.bytes) × AllWithin IsOfTime l.bytes 0 l.stop

abbrev pub decreases-loop-stop : goal.decreases-loop-stop
decreases-loop-stop l = length l.bytes - l.stop

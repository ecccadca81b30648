use Rattle.std.proofs.Common.{◌≡◌, true}
use Rattle.std.specs.List.{AllWithin}
use Rattle.j39_follow.specs.LogLines.{IsOfTime}
use Rattle.j39_follow.proofs.line.words.are_whole_time.Given as goal

abbrev pub invariant-loop-at : goal.invariant-loop-at
invariant-loop-at l = l.all ≡ true → AllWithin IsOfTime l.bytes 0 l.at

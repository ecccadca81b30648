use Rattle.std.proofs.Common.{◌≡◌, ◌≤◌, ◌-◌, length, false}
use Rattle.std.specs.List.{AllWithin}
use Rattle.j39_id.specs.FrameLine.{is_separator as separates}
use Rattle.j39_follow.proofs.line.words.word_length.Given as goal

abbrev pub invariant-loop-stop : goal.invariant-loop-stop
invariant-loop-stop l = (l.stop ≤ length l.line) × AllWithin (λ c. separates c ≡ false) l.line 0 l.stop

abbrev pub decreases-loop-stop : goal.decreases-loop-stop
decreases-loop-stop l = length l.line - l.stop

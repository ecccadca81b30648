use Rattle.std.proofs.Common.{◌≡◌, ◌≤◌, length, true}
use Rattle.std.specs.List.{AllWithin}
use Rattle.j39_id.specs.FrameLine.{is_separator as separates}
use Rattle.j39_id.proofs.last_word.words_end.Given as goal

abbrev pub invariant-loop-stop : goal.invariant-loop-stop
invariant-loop-stop l = (l.stop ≤ length l.line) × AllWithin (λ c. separates c ≡ true) l.line l.stop (length l.line)

abbrev pub decreases-loop-stop : goal.decreases-loop-stop
decreases-loop-stop l = l.stop

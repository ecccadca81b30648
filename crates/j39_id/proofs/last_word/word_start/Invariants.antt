use Rattle.std.proofs.Common.{◌≡◌, ◌<◌, length, false}
use Rattle.std.specs.List.{AllWithin}
use Rattle.j39_id.specs.FrameLine.{is_separator as separates}
use Rattle.j39_id.proofs.last_word.word_start.Given as goal

abbrev pub invariant-loop-start : goal.invariant-loop-start
invariant-loop-start l = (l.start < length l.line) × AllWithin (λ c. separates c ≡ false) l.line l.start (length l.line)

abbrev pub decreases-loop-start : goal.decreases-loop-start
decreases-loop-start l = l.start

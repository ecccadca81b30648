use Rattle.std.proofs.Common.{◌≡◌, ◌≤◌, ◌-◌, length, true}
use Rattle.std.specs.List.{AllWithin}
use Rattle.j39_id.specs.FrameLine.{is_separator as separates}
use Rattle.j39_follow.proofs.line.words.blank_start.Given as goal

abbrev pub invariant-loop-start : goal.invariant-loop-start
invariant-loop-start l = (l.start ≤ length l.line) × AllWithin (λ c. separates c ≡ true) l.line 0 l.start

abbrev pub decreases-loop-start : goal.decreases-loop-start
decreases-loop-start l = length l.line - l.start

use Rattle.std.proofs.Common.{ℕ, ◌<◌}
use Rattle.j39_follow.specs.inside.Splitting.{IsWordAt}
use Rattle.j39_follow.proofs.line.words.has_word.Given as goal

abbrev pub invariant-loop-place : goal.invariant-loop-place
invariant-loop-place l = (k : ℕ) → k < l.place → ¬ IsWordAt l.line k l.word

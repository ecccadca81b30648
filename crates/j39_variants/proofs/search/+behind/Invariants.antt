use Rattle.std.proofs.Common.{ℕ, ◌-◌, ◌<◌, [], ◌∷◌, ◌++◌, length}
use Rattle.j39_variants.specs.Variants.{NoneTakes}
use Rattle.j39_variants.proofs.search.+behind.Given as goal

abbrev pub decreases-behind : goal.decreases-behind
decreases-behind l = length l.line.now.choices.items - length l.taken.now

abbrev pub invariant-loop-place : goal.invariant-loop-place
invariant-loop-place l = (p : ℕ) → p < l.place → NoneTakes l.line l.wanted (l.taken ++ p ∷ [])

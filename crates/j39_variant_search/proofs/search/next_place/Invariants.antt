use Rattle.std.proofs.Common.{ℕ, ◌<◌, ◌++◌, ◌∷◌, []}
use Rattle.j39_variant_search.specs.inside.NearHoles.{NoneBegins}
use Rattle.j39_variant_search.proofs.search.next_place.Given as goal

abbrev pub invariant-loop-place : goal.invariant-loop-place
invariant-loop-place l = (p : ℕ) → p < l.place → NoneBegins l.within l.holes l.near (l.taken ++ p ∷ [])

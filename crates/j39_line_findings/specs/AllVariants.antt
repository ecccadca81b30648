-- Variants that go on as others begin.
use Rattle.std.specs.Prelude.{◌≡◌, ◌⊎◌, ℕ, List, [], ◌∷◌, ◌++◌, map}
use Rattle.std.specs.List.{range_with_len}

-- these places, and behind them each of so many
abbrev pub with_each : ℕ → List ℕ → List (List ℕ)
with_each count taken = map (λ p. taken ++ p ∷ []) (range_with_len 0 count)

abbrev pub longer : ℕ → List (List ℕ) → List (List ℕ)
longer count [] = []
longer count (taken ∷ others) = with_each count taken ++ longer count others

-- it is one of these
abbrev pub IsOneOf : {X : Type 0} → List X → X → Type 0
IsOneOf [] x = ⊥
IsOneOf (y ∷ ys) x = (y ≡ x) ⊎ IsOneOf ys x

-- The order of findings: by their numbers, and those of one number by the places that they name.
use Rattle.std.specs.Prelude.{◌≡◌, ◌⊎◌, ℕ, ◌<◌, List, [], ◌∷◌}

-- one list of places comes before the other: by the first place in which they differ
abbrev pub IsBelow : List ℕ → List ℕ → Type 0
IsBelow [] ys = ⊥
IsBelow (x ∷ xs) [] = ⊥
IsBelow (x ∷ xs) (y ∷ ys) = (x < y) ⊎ ((x ≡ y) × IsBelow xs ys)

-- by the number, then by the places
abbrev pub ComesBefore : {F : Type 0} → (F → ℕ) → (F → List ℕ) → F → F → Type 0
ComesBefore number places f g = (number f < number g) ⊎ ((number f ≡ number g) × IsBelow (places f) (places g))

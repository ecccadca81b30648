-- The values of a list that pass a test, by their places.
use Rattle.std.specs.Prelude.{ℕ, List, Bool}
use Rattle.j39_search.specs.ListPlaces.{each}

-- the places of those that pass, in rising order
abbrev pub passing : {A : Type 0} → (A → Bool) → List A → List ℕ
passing test xs = each test (λ i. i) 0 xs

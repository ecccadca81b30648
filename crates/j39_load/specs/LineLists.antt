-- What is reported at each place of a list.
use Rattle.std.specs.Prelude.{ℕ, ◌+◌, List, [], ◌∷◌, ◌++◌}

-- what is reported of each of these, which stand from a place on
unfoldable pub lines_of_each : {X Y : Type 0} → (ℕ → X → List Y) → ℕ → List X → List Y
lines_of_each report place [] = []
lines_of_each report place (x ∷ xs) = report place x ++ lines_of_each report (place + 1) xs

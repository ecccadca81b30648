-- What is listed of the values of a list, one after the other.
use Rattle.std.proofs.Common.{◌≡◌, ℕ, ◌+◌, ◌<◌, List, [], ◌∷◌, ◌++◌, length, map, take, get_or, append_assoc, arith, sym, ap, ◌∙◌}
use Rattle.j39_load.proofs.Before.{more}
use Rattle.j39_load.specs.LineLists.{lines_of_each}

-- one more, as the program holds what is listed
pub one_further : {V X Y : Type 0} (f : V → Y) (report : ℕ → X → List Y) (k : ℕ) (xs : List X) (d : X) (before : List Y) (old new : List V) → k < length xs
    → map f old ≡ before ++ lines_of_each report 0 (take k xs) → map f new ≡ map f old ++ report k (get_or xs k d)
    → map f new ≡ before ++ lines_of_each report 0 (take (k + 1) xs)
one_further {Y = Y} f report k xs d before old new inside so_far added =
    added ∙ ap (λ (ys : List Y). ys ++ report k (get_or xs k d)) so_far
    ∙ append_assoc before (lines_of_each report 0 (take k xs)) (report k (get_or xs k d))
    ∙ ap (λ (ys : List Y). before ++ ys) (sym (more report k xs d inside))

-- some value of a list
pub value_in : {X : Type 0} (k : ℕ) (xs : List X) → k < length xs → X
value_in k [] inside = absurd (omega (arith, inside))
value_in k (x ∷ xs) inside = x

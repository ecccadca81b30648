-- Some values of a list, in its order.
use Rattle.std.specs.Prelude.{◌⊎◌, List, [], ◌∷◌}

-- each value of the first has one of the second that stands for it, in order
abbrev pub IsSub : {A B : Type 0} → (A → B → Type 0) → List A → List B → Type 0
IsSub R [] ys = Unit {0}
IsSub R (x ∷ xs) [] = ⊥
IsSub R (x ∷ xs) (y ∷ ys) = (R x y × IsSub R xs ys) ⊎ IsSub R (x ∷ xs) ys

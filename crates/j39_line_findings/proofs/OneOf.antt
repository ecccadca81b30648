-- One of the values of two lists, one behind the other.
use Rattle.std.proofs.Common.{◌⊎◌, List, [], ◌∷◌, ◌++◌, inl, inr}
use Rattle.j39_line_findings.specs.AllVariants.{IsOneOf}

pub one_left : {X : Type 0} (xs ys : List X) (x : X) → IsOneOf xs x → IsOneOf (xs ++ ys) x
one_left [] ys x is = absurd is
one_left (y ∷ xs) ys x (inl is) = inl is
one_left (y ∷ xs) ys x (inr is) = inr (one_left xs ys x is)

pub one_right : {X : Type 0} (xs ys : List X) (x : X) → IsOneOf ys x → IsOneOf (xs ++ ys) x
one_right [] ys x is = is
one_right (y ∷ xs) ys x is = inr (one_right xs ys x is)

pub one_cases : {X : Type 0} (xs ys : List X) (x : X) → IsOneOf (xs ++ ys) x → IsOneOf xs x ⊎ IsOneOf ys x
one_cases [] ys x is = inr is
one_cases (y ∷ xs) ys x (inl is) = inl (inl is)
one_cases (y ∷ xs) ys x (inr is) = elim (one_cases xs ys x is) [
  | inl left ↦ inl (inr left)
  | inr right ↦ inr right
]

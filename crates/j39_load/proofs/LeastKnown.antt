-- The least of some numbers, and the first.
use Rattle.std.proofs.Common.{◌≡◌, ℕ, List, [], ◌∷◌, ◌++◌, Option, Some, None, refl, sym, ap, ◌∙◌, arith}
use Rattle.std.specs.Option.{option_or}
use Rattle.j39_load.specs.Ages.{first_of, least, smaller_known}

smaller_together : (a b c : Option ℕ) → smaller_known (smaller_known a b) c ≡ smaller_known a (smaller_known b c)
smaller_together None b c = refl
smaller_together (Some x) None c = refl
smaller_together (Some x) (Some y) None = refl
smaller_together (Some x) (Some y) (Some z) = ap Some (omega arith)

pub least_of_both : (xs ys : List ℕ) → least (xs ++ ys) ≡ smaller_known (least xs) (least ys)
least_of_both [] ys = refl
least_of_both (x ∷ xs) ys = ap (smaller_known (Some x)) (least_of_both xs ys) ∙ sym (smaller_together (Some x) (least xs) (least ys))

pub first_of_both : (xs ys : List ℕ) → first_of (xs ++ ys) ≡ option_or (first_of xs) (first_of ys)
first_of_both [] ys = refl
first_of_both (x ∷ xs) ys = refl

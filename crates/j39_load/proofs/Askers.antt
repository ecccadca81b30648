-- How many of a list's first items give something.
use Rattle.std.proofs.Common.{◌≡◌, ℕ, suc, ◌+◌, ◌<◌, cond, List, [], ◌∷◌, length, take, get_or, Option, Some, None, is_some, refl, ap, ◌∙◌, arith}
use Rattle.std.proofs.Math.Seq.{take-suc}
use Rattle.std.proofs.lemmas.List.{length-append}
use Rattle.std.proofs.lemmas.List.Elements.{filter_map-append}
use Rattle.std.specs.List.{cons_option, filter_map}

pub one_more : {A B : Type 0} (f : A → Option B) (xs : List A) (k : ℕ) (d : A) → k < length xs
    → length (filter_map f (take (k + 1) xs)) ≡ length (filter_map f (take k xs)) + cond (is_some (f (get_or xs k d))) 1 0
one_more f xs k d below =
    let next : k + 1 ≡ suc k = omega arith in
    let parts = ap (λ (n : ℕ). length (filter_map f (take n xs))) next
    ∙ ap (λ ys. length (filter_map f ys)) (take-suc xs k d below)
    ∙ ap length (filter_map-append f (take k xs) (get_or xs k d ∷ [])) in
    let sum = length-append (filter_map f (take k xs)) (filter_map f (get_or xs k d ∷ [])) in
    let last = one (f (get_or xs k d)) in
    omega (arith, parts, sum, last)
  where
    one : {B : Type 0} (o : Option B) → length (cons_option o []) ≡ cond (is_some o) 1 0
    one None = refl
    one (Some x) = refl

-- Products and sums of which at most so much is reported.
use Rattle.std.proofs.Common.{◌≡◌, ℕ, zero, suc, ◌+◌, ◌*◌, ◌<◌, List, [], ◌∷◌, ◌++◌, inl, inr, map, min, sum, refl, sym, ap, ◌∙◌, arith, mul_assoc, mul-suc}
use Rattle.std.specs.List.{range_with_len}
use Rattle.std.proofs.lemmas.Bool.{cases_lt}
use Rattle.std.proofs.lemmas.List.{map-append}
use Rattle.std.proofs.lemmas.List.Sums.{sum_by_push}
use Rattle.std.proofs.lemmas.List.FromFn.{map-range_with_len_more}
use Rattle.j39_line_check.specs.SetVariants.{product_of}

pub min_times : (a x m : ℕ) → min (min a m * x) m ≡ min (a * x) m
min_times a x m = elim (cases_lt m a) [
  | inl more ↦ over x more
  | inr less ↦ let same : min a m ≡ a = omega (arith, less) in rw same refl
]
  where
    over : (x : ℕ) → m < a → min (min a m * x) m ≡ min (a * x) m
    over zero more = omega arith
    over (suc x) more =
        let same : min a m ≡ m = omega (arith, more) in
        let left : m * suc x ≡ m * x + m = mul-suc m x in
        let right : a * suc x ≡ a * x + a = mul-suc a x in
        rw (same, left, right) (omega (arith, more))

pub min_plus : (a b m : ℕ) → min (min a m + min b m) m ≡ min (a + b) m
min_plus a b m = omega arith

product_last : (xs : List ℕ) (x : ℕ) → product_of (xs ++ x ∷ []) ≡ product_of xs * x
product_last [] x = omega arith
product_last (y ∷ xs) x = ap (λ n. y * n) (product_last xs x) ∙ sym (mul_assoc y (product_of xs) x)

pub product_more : (f : ℕ → ℕ) (i : ℕ) → product_of (map f (range_with_len 0 (i + 1))) ≡ product_of (map f (range_with_len 0 i)) * f i
product_more f i =
    ap product_of (map-range_with_len_more f 0 i i (omega arith)) ∙ product_last (map f (range_with_len 0 i)) (f i)

pub sum_more : {X : Type 0} (f : X → ℕ) (xs : List X) (x : X) → sum (map f (xs ++ x ∷ [])) ≡ sum (map f xs) + f x
sum_more f xs x = ap sum (map-append f xs (x ∷ [])) ∙ sum_by_push (λ n. n) (map f xs) (f x)

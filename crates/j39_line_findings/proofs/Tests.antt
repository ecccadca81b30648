-- Tests of all values of a list, and of any.
use Rattle.std.proofs.Common.{◌≡◌, ℕ, zero, suc, ◌<◌, Bool, true, false, List, [], ◌∷◌, Some, length, inl, inr, refl, sym, ◌∙◌, ap, arith}
use Rattle.std.specs.List.{list_all, list_any, slice_get}
use Rattle.std.proofs.lemmas.Bool.{and_from, and_parts, false≢true, or_cases, or_left, or_right}
use Rattle.std.proofs.lemmas.Option.{none-some, same_Some}

pub record IsAtSome {X : Type 0} (p : X → Bool) (xs : List X) : Type 0 where
  pub i : ℕ
  pub value : X
  pub value_is : slice_get xs i ≡ Some value
  pub passes : p value ≡ true

pub any_at : {X : Type 0} (p : X → Bool) (xs : List X) → list_any p xs ≡ true → IsAtSome p xs
any_at p [] some = absurd (false≢true some)
any_at p (x ∷ xs) some = elim (or_cases (p x) (list_any p xs) some) [
  | inl here ↦ record { i = 0; value = x; value_is = refl; passes = here }
  | inr later ↦
      let its = any_at p xs later in
      record { i = suc its.i; value = its.value; value_is = its.value_is; passes = its.passes }
]

pub at_any : {X : Type 0} (p : X → Bool) (xs : List X) (i : ℕ) (x : X) → slice_get xs i ≡ Some x → p x ≡ true → list_any p xs ≡ true
at_any p [] zero x at passes = absurd (none-some x at)
at_any p [] (suc i) x at passes = absurd (none-some x at)
at_any p (y ∷ ys) zero x at passes = or_left (p y) (list_any p ys) (ap p (same_Some y x at) ∙ passes)
at_any p (y ∷ ys) (suc i) x at passes = or_right (p y) (list_any p ys) (at_any p ys i x at passes)

pub all_at : {X : Type 0} (p : X → Bool) (xs : List X) → list_all p xs ≡ true → (i : ℕ) (x : X) → slice_get xs i ≡ Some x → p x ≡ true
all_at p [] all zero x at = absurd (none-some x at)
all_at p [] all (suc i) x at = absurd (none-some x at)
all_at p (y ∷ ys) all zero x at = ap p (sym (same_Some y x at)) ∙ (and_parts (p y) (list_all p ys) all).0
all_at p (y ∷ ys) all (suc i) x at = all_at p ys (and_parts (p y) (list_all p ys) all).1 i x at

pub at_all : {X : Type 0} (p : X → Bool) (xs : List X) → ((i : ℕ) (x : X) → slice_get xs i ≡ Some x → p x ≡ true) → list_all p xs ≡ true
at_all p [] each = refl
at_all p (x ∷ xs) each = and_from (p x) (list_all p xs) (each 0 x refl) (at_all p xs (λ i y at. each (suc i) y at))

-- ---- places

pub value_inside : {X : Type 0} (xs : List X) (i : ℕ) → i < length xs → (x : X) × (slice_get xs i ≡ Some x)
value_inside [] i less = absurd (omega (arith, less))
value_inside (y ∷ ys) zero less = (y, refl)
value_inside (y ∷ ys) (suc i) less = value_inside ys i (omega (arith, less))

-- ---- one answer

pub one_answer : (a b : Bool) → (a ≡ true → b ≡ true) → (b ≡ true → a ≡ true) → a ≡ b
one_answer true true to back = refl
one_answer true false to back = sym (to refl)
one_answer false true to back = back refl
one_answer false false to back = refl

-- Lists that grow by one element, and what of them passes a test.
use Rattle.std.proofs.Common.{◌≡◌, ℕ, ◌+◌, ◌<◌, List, [], ◌∷◌, ◌++◌, Bool, true, false, filter, get_or, inl, inr, map, length, refl, sym, ap, subst, take, ◌∙◌}
use Rattle.std.proofs.Common.{append_assoc}
use Rattle.std.proofs.lemmas.Bool.{cases_Bool, false≢true}
use Rattle.std.proofs.lemmas.List.{map-append, take_more}
use Rattle.j39_line_findings.specs.AllVariants.{IsOneOf}

-- of values that stand for those that are tested
pub kept_values : {V X : Type 0} (f : V → X) (p : X → Bool) (xs : List V) → map f (filter (λ x. p (f x)) xs) ≡ filter p (map f xs)
kept_values f p [] = refl
kept_values {V} {X} f p (x ∷ xs) = elim (cases_Bool (p (f x))) [
  | inl here ↦ rw here (ap (λ (ys : List X). f x ∷ ys) (kept_values f p xs))
  | inr none ↦ rw none (kept_values f p xs)
]

-- what passes is one of those that are left, and they are those that pass
pub kept_one : {X : Type 0} (p : X → Bool) (xs : List X) (x : X) → IsOneOf xs x → p x ≡ true → IsOneOf (filter p xs) x
kept_one p [] x at is = absurd at
kept_one p (y ∷ xs) x at is = elim (cases_Bool (p y)) [
  | inl here ↦ rw here (elim at [
    | inl same ↦ inl same
    | inr more ↦ inr (kept_one p xs x more is)
  ])
  | inr none ↦ rw none (elim at [
    | inl same ↦ absurd (false≢true (sym none ∙ ap p same ∙ is))
    | inr more ↦ kept_one p xs x more is
  ])
]

pub one_kept : {X : Type 0} (p : X → Bool) (xs : List X) (x : X) → IsOneOf (filter p xs) x → IsOneOf xs x × (p x ≡ true)
one_kept p [] x at = absurd at
one_kept {X} p (y ∷ xs) x at = elim (cases_Bool (p y)) [
  | inl here ↦ elim (let is : IsOneOf (y ∷ filter p xs) x = rw here at at in is) [
    | inl same ↦ (inl same, subst (λ (z : X). p z ≡ true) same here)
    | inr more ↦ let rest = one_kept p xs x more in (inr rest.0, rest.1)
  ]
  | inr none ↦ let rest = one_kept p xs x (rw none at at) in (inr rest.0, rest.1)
]

-- the last one doesn't pass, or does
pub last_left : {X : Type 0} (p : X → Bool) (xs : List X) (n : X) → p n ≡ false → filter p (xs ++ n ∷ []) ≡ filter p xs
last_left p [] n none = rw none refl
last_left {X} p (x ∷ xs) n none = elim (cases_Bool (p x)) [
  | inl here ↦ rw here (ap (λ (ys : List X). x ∷ ys) (last_left p xs n none))
  | inr not_so ↦ rw not_so (last_left p xs n none)
]

pub last_kept : {X : Type 0} (p : X → Bool) (xs : List X) (n : X) → p n ≡ true → filter p (xs ++ n ∷ []) ≡ filter p xs ++ n ∷ []
last_kept p [] n here = rw here refl
last_kept {X} p (x ∷ xs) n here = elim (cases_Bool (p x)) [
  | inl so ↦ rw so (ap (λ (ys : List X). x ∷ ys) (last_kept p xs n here))
  | inr not_so ↦ rw not_so (last_kept p xs n here)
]

-- one more value
pub one_more : {V X : Type 0} (f : V → X) (xs : List V) (i : ℕ) (d : V) (n : X) → i < length xs → d ≡ get_or xs i d → n ≡ f d
    → map f (take (i + 1) xs) ≡ map f (take i xs) ++ n ∷ []
one_more {V} {X} f xs i d n below is same =
    ap (map f) (take_more xs i d below)
    ∙ map-append f (take i xs) (get_or xs i d ∷ [])
    ∙ ap (λ (x : X). map f (take i xs) ++ x ∷ []) (sym (same ∙ ap f is))

pub one_more_behind : {V X : Type 0} (f : V → X) (before : List X) (xs : List V) (i : ℕ) (d : V) (n : X) → i < length xs → d ≡ get_or xs i d → n ≡ f d
    → (before ++ map f (take i xs)) ++ n ∷ [] ≡ before ++ map f (take (i + 1) xs)
one_more_behind {V} {X} f before xs i d n below is same =
    append_assoc before (map f (take i xs)) (n ∷ []) ∙ ap (λ (ys : List X). before ++ ys) (sym (one_more f xs i d n below is same))

-- The least number below another one of which a test holds, and a list of values that are each found for their places.
use Rattle.std.proofs.Common.{◌≡◌, ◌⊎◌, ℕ, zero, suc, ◌<◌, Bool, true, false, List, [], ◌∷◌, length, get_or, refl, sym, subst, inl, inr, arith}
use Rattle.std.proofs.lemmas.Bool.{cases_Bool, cases_eq}

-- the test holds of it, and of no smaller one
pub record IsLeast (test : ℕ → Bool) (n : ℕ) : Type 0 where
  pub holds : test n ≡ true
  pub first : (k : ℕ) → k < n → test k ≡ false

-- it holds of none of the first so many
abbrev pub HoldsOfNone : (ℕ → Bool) → ℕ → Type 0
HoldsOfNone test most = (k : ℕ) → k < most → test k ≡ false

pub least_or_none : (test : ℕ → Bool) (most : ℕ) → ((n : ℕ) × (n < most) × IsLeast test n) ⊎ HoldsOfNone test most
least_or_none test zero = inr (λ k below. absurd (omega (arith, below)))
least_or_none test (suc most) = elim (least_or_none test most) [
  | inl found ↦ let below = found.1 in inl (found.0, omega (arith, below), found.2)
  | inr none ↦ elim (cases_Bool (test most)) [
    | inl holds ↦ inl (most, omega arith, record { holds = holds; first = none })
    | inr fails ↦ inr (λ k below. elim (cases_eq k most) [
      | inl same ↦ subst (λ n. test n ≡ false) (sym same) fails
      | inr other ↦ none k (omega (arith, below, other))
    ])
  ]
]

-- one of which it holds isn't above the least one
pub least_of_one : (test : ℕ → Bool) (most : ℕ) → test most ≡ true → (n : ℕ) × IsLeast test n
least_of_one test most holds = elim (least_or_none test most) [
  | inl found ↦ (found.0, found.2)
  | inr none ↦ (most, record { holds = holds; first = none })
]

-- what is found for each of so many places stands there in one list
pub listed : {X : Type 0} (none : X) (count : ℕ) (Fits : ℕ → X → Type 0) → ((k : ℕ) → k < count → (x : X) × Fits k x)
    → (xs : List X) × (length xs ≡ count) × ((k : ℕ) → k < count → Fits k (get_or xs k none))
listed none zero Fits each = ([], refl, λ k below. absurd (omega (arith, below)))
listed none (suc count) Fits each =
    let head = each 0 (omega arith) in
    let rest = listed none count (λ k. Fits (suc k)) (λ k below. each (suc k) (omega (arith, below))) in
    let size = rest.1 in
    (head.0 ∷ rest.0, omega (arith, size), at head.0 rest.0 head.1 rest.2)
  where
    at : (x : _) (xs : List _) → Fits 0 x → ((k : ℕ) → k < count → Fits (suc k) (get_or xs k none)) → (k : ℕ) → k < suc count
        → Fits k (get_or (x ∷ xs) k none)
    at x xs first others zero below = first
    at x xs first others (suc k) below = others k (omega (arith, below))

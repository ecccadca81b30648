-- A step more, and the first place at which a test holds.
use Rattle.std.proofs.Common.{◌≡◌, ℕ, zero, suc, ◌+◌, ◌-◌, ◌*◌, ◌<◌, ◌≤◌, Bool, true, false, arith, inl, inr}
use Rattle.std.proofs.Math.Nat.{suc-mul}
use Rattle.std.proofs.lemmas.Bool.{cases_Bool, cases_eq}
use Rattle.std.proofs.Common.{◌⊎◌, subst, sym}

pub one_more : (i j step : ℕ) → i ≤ j → (suc j - i) * step ≡ (j - i) * step + step
one_more i j step before =
    let same : suc j - i ≡ suc (j - i) = omega arith in
    rw (same) (suc-mul (j - i) step)

pub none_yet : (i step : ℕ) → (i - i) * step ≡ 0
none_yet i step =
    let same : i - i ≡ 0 = omega arith in
    rw (same) (omega arith)

-- of a test at the places below n: there is a first one at which it holds, or it holds at none
pub first_or_none : (f : ℕ → Bool) (n : ℕ) → ((k : ℕ) × (k < n) × (f k ≡ true) × ((l : ℕ) → l < k → f l ≡ false)) ⊎ ((l : ℕ) → l < n → f l ≡ false)
first_or_none f zero = inr (λ l below. absurd (omega (arith, below)))
first_or_none f (suc n) = elim (first_or_none f n) [
  | inl found ↦ let (k, below, holds, first) = found in inl (k, omega (arith, below), holds, first)
  | inr none ↦ elim (cases_Bool (f n)) [
    | inl holds ↦ inl (n, omega arith, holds, none)
    | inr fails ↦ inr (λ l below. elim (cases_eq l n) [
      | inl same ↦ subst (λ (k : ℕ). f k ≡ false) (sym same) fails
      | inr other ↦ none l (omega (arith, below, other))
    ])
  ]
]

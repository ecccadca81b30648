-- Sums over the places below a number.
use Rattle.std.proofs.Common.{◌≡◌, ℕ, zero, suc, ◌+◌, ◌*◌, ◌<◌, ◌≤◌, Bool, true, false, cond, refl, subst, arith, inl, inr}
use Rattle.std.proofs.lemmas.Bool.{cases_Bool, cases_eq}
use Rattle.j39_timing.specs.Sums.{total}

pub total-le : (n : ℕ) (f g : ℕ → ℕ) → ((i : ℕ) → i < n → f i ≤ g i) → total n f ≤ total n g
unfolding total
total-le zero f g le = omega arith
total-le (suc n) f g le =
    let before : total n f ≤ total n g = total-le n f g (λ i inside. le i (omega arith)) in
    let last : f n ≤ g n = le n (omega arith) in
    omega arith

-- where no value rises and one falls by d at least
pub total-less : (n : ℕ) (f g : ℕ → ℕ) (u d : ℕ) → u < n → f u + d ≤ g u → ((i : ℕ) → i < n → f i ≤ g i) → total n f + d ≤ total n g
unfolding total
total-less zero f g u d in_u falls le = absurd (omega arith)
total-less (suc n) f g u d in_u falls le = elim (cases_eq u n) [
  | inl at_u ↦
      let last : f n + d ≤ g n = subst (λ k. f k + d ≤ g k) at_u falls in
      let before : total n f ≤ total n g = total-le n f g (λ i inside. le i (omega arith)) in
      omega arith
  | inr not_u ↦
      let last : f n ≤ g n = le n (omega arith) in
      let away : u < n = elim (cases_eq u n) [ inl same ↦ absurd (not_u same) | inr other ↦ omega arith ] in
      let before : total n f + d ≤ total n g = total-less n f g u d away falls (λ i inside. le i (omega arith)) in
      omega arith
]

-- where no value is above 0
pub total-none : (n : ℕ) (f : ℕ → ℕ) → ((i : ℕ) → i < n → f i ≡ 0) → total n f ≡ 0
unfolding total
total-none zero f none = refl
total-none (suc n) f none =
    let before : total n f ≡ 0 = total-none n f (λ i inside. none i (omega arith)) in
    let last : f n ≡ 0 = none n (omega arith) in
    omega arith

-- a sum that is at most the sum of two others, place by place
pub total-two : (n : ℕ) (f g h : ℕ → ℕ) → ((i : ℕ) → i < n → f i ≤ g i + h i) → total n f ≤ total n g + total n h
unfolding total
total-two zero f g h le = omega arith
total-two (suc n) f g h le =
    let before : total n f ≤ total n g + total n h = total-two n f g h (λ i inside. le i (omega arith)) in
    let last : f n ≤ g n + h n = le n (omega arith) in
    omega arith

-- what passes counts, and is so much at most
pub total-times : (n : ℕ) (passes counts : ℕ → Bool) (f : ℕ → ℕ) (most : ℕ) → ((i : ℕ) → i < n → passes i ≡ true → (counts i ≡ true) × (f i ≤ most))
    → total n (λ i. cond (passes i) (f i) 0) ≤ most * total n (λ i. cond (counts i) 1 0)
unfolding total
total-times zero passes counts f most each = omega arith
total-times (suc n) passes counts f most each =
    let before : total n (λ i. cond (passes i) (f i) 0) ≤ most * total n (λ i. cond (counts i) 1 0) =
    total-times n passes counts f most (λ i inside. each i (omega arith)) in
    elim (cases_Bool (passes n)) [
      | inr fails ↦ rw (fails) (elim (counts n)
          as (λ e. total n (λ i. cond (passes i) (f i) 0) + 0 ≤ most * (total n (λ i. cond (counts i) 1 0) + cond e 1 0)) [
            | true ↦ omega (arith, before)
            | false ↦ omega (arith, before)
          ])
      | inl is ↦
          let (counted, few) = each n (omega arith) is in
          rw (is, counted) (omega (arith, before, few))
    ]

-- Sums over the places below a number, and weights of ranks.
use Rattle.std.proofs.Common.{◌≡◌, ◌≢◌, ℕ, zero, suc, ◌+◌, ◌*◌, ◌<◌, ◌≤◌, ◌-◌, refl, sym, subst, arith, inl, inr}
use Rattle.std.proofs.lemmas.Bool.{cases_eq}
use Rattle.std.proofs.Math.Nat.{mul-le-mul_left}

-- the sum of a function's values below n
unfoldable pub total : ℕ → (ℕ → ℕ) → ℕ
total zero f = 0
total (suc n) f = total n f + f n

pub total-le : (n : ℕ) (f g : ℕ → ℕ) → ((i : ℕ) → i < n → f i ≤ g i) → total n f ≤ total n g
unfolding total
total-le zero f g le = omega arith
total-le (suc n) f g le =
    let before : total n f ≤ total n g = total-le n f g (λ i inside. le i (omega arith)) in
    let last : f n ≤ g n = le n (omega arith) in
    omega arith

-- where each value rises by e at most
pub total-rise : (n : ℕ) (f g : ℕ → ℕ) (e : ℕ) → ((i : ℕ) → i < n → f i ≤ g i + e) → total n f ≤ total n g + n * e
unfolding total
total-rise zero f g e le = omega arith
total-rise (suc n) f g e le =
    let before : total n f ≤ total n g + n * e = total-rise n f g e (λ i inside. le i (omega arith)) in
    let last : f n ≤ g n + e = le n (omega arith) in
    omega arith

pub part-le : (n : ℕ) (f : ℕ → ℕ) (i : ℕ) → i < n → f i ≤ total n f
unfolding total
part-le zero f i inside = absurd (omega arith)
part-le (suc n) f i inside =
    elim (cases_eq i n) [
      | inl same ↦ subst (λ k. f k ≤ total n f + f n) (sym same) (omega arith)
      | inr other ↦ let before : f i ≤ total n f = part-le n f i (omega arith) in omega arith
    ]

-- where one value rises by e at most, and no other rises
total-one : (n : ℕ) (f g : ℕ → ℕ) (v e : ℕ) → ((i : ℕ) → i < n → i ≢ v → f i ≤ g i) → f v ≤ g v + e → total n f ≤ total n g + e
unfolding total
total-one zero f g v e le rises = omega arith
total-one (suc n) f g v e le rises = elim (cases_eq v n) [
  | inl at_v ↦
      let last : f n ≤ g n + e = subst (λ k. f k ≤ g k + e) at_v rises in
      let before : total n f ≤ total n g = total-le n f g (λ i inside. le i (omega arith) (omega arith)) in
      omega arith
  | inr not_v ↦
      let last : f n ≤ g n = le n (omega arith) (λ s. not_v (sym s)) in
      let before : total n f ≤ total n g + e = total-one n f g v e (λ i inside. le i (omega arith)) rises in
      omega arith
]

-- where one value falls by d at least, and no other rises
pub total-less : (n : ℕ) (f g : ℕ → ℕ) (u d : ℕ) → u < n → f u + d ≤ g u → ((i : ℕ) → i < n → i ≢ u → f i ≤ g i) → total n f + d ≤ total n g
unfolding total
total-less zero f g u d in_u falls le = absurd (omega arith)
total-less (suc n) f g u d in_u falls le = elim (cases_eq u n) [
  | inl at_u ↦
      let last : f n + d ≤ g n = subst (λ k. f k + d ≤ g k) at_u falls in
      let before : total n f ≤ total n g = total-le n f g (λ i inside. le i (omega arith) (omega arith)) in
      omega arith
  | inr not_u ↦
      let last : f n ≤ g n = le n (omega arith) (λ s. not_u (sym s)) in
      let before : total n f + d ≤ total n g = total-less n f g u d (omega arith) falls (λ i inside. le i (omega arith)) in
      omega arith
]

-- where one value falls by d at least, one other rises by e at most, and no other rises
pub total-two : (n : ℕ) (f g : ℕ → ℕ) (u v d e : ℕ) → u < n → v < n → u ≢ v → f u + d ≤ g u → f v ≤ g v + e
    → ((i : ℕ) → i < n → i ≢ u → i ≢ v → f i ≤ g i) → total n f + d ≤ total n g + e
unfolding total
total-two zero f g u v d e in_u in_v apart falls rises le = absurd (omega arith)
total-two (suc n) f g u v d e in_u in_v apart falls rises le = elim (cases_eq u n) [
  | inl at_u ↦
      let last : f n + d ≤ g n = subst (λ k. f k + d ≤ g k) at_u falls in
      let before : total n f ≤ total n g + e = total-one n f g v e (λ i inside other. le i (omega arith) (omega arith) other) rises in
      omega arith
  | inr not_u ↦ elim (cases_eq v n) [
    | inl at_v ↦
        let last : f n ≤ g n + e = subst (λ k. f k ≤ g k + e) at_v rises in
        let before : total n f + d ≤ total n g = total-less n f g u d (omega arith) falls (λ i inside other. le i (omega arith) other (omega arith)) in
        omega arith
    | inr not_v ↦
        let last : f n ≤ g n = le n (omega arith) (λ s. not_u (sym s)) (λ s. not_v (sym s)) in
        let before : total n f + d ≤ total n g + e = total-two n f g u v d e (omega arith) (omega arith) apart falls rises (λ i inside. le i (omega arith)) in
        omega arith
  ]
]

-- ---- weights of ranks

-- a rank weighs more than n of any lower rank
unfoldable pub weight : ℕ → ℕ → ℕ
weight n zero = 1
weight n (suc r) = 1 + n * weight n r

-- what each lower rank weighs at most
unfoldable pub below : ℕ → ℕ → ℕ
below n zero = 0
below n (suc r) = weight n r

pub weight-is : (n r : ℕ) → weight n r ≡ 1 + n * below n r
unfolding weight below
weight-is n zero = omega arith
weight-is n (suc r) = refl

weight-suc : (n r : ℕ) → weight n r ≤ weight n (suc r)
unfolding weight
weight-suc n zero = omega arith
weight-suc n (suc r) =
    let less : n * weight n r ≤ n * (1 + n * weight n r) = mul-le-mul_left n (weight-suc n r) in
    omega arith

weight-add : (n r d : ℕ) → weight n r ≤ weight n (r + d)
weight-add n r zero = let same : r ≡ r + 0 = omega arith in subst (λ k. weight n r ≤ weight n k) same (omega arith)
weight-add n r (suc d) =
    let one : weight n (r + d) ≤ weight n (suc (r + d)) = weight-suc n (r + d) in
    let more : weight n r ≤ weight n (r + d) = weight-add n r d in
    let same : suc (r + d) ≡ r + suc d = omega arith in
    subst (λ k. weight n r ≤ weight n k) same (omega arith)

pub weight-le : (n r s : ℕ) → r ≤ s → weight n r ≤ weight n s
weight-le n r s le = let same : r + (s - r) ≡ s = omega arith in subst (λ k. weight n r ≤ weight n k) same (weight-add n r (s - r))

pub weight-below : (n r s : ℕ) → r < s → weight n r ≤ below n s
unfolding below
weight-below n r zero less = absurd (omega arith)
weight-below n r (suc s) less = weight-le n r s (omega arith)

-- Products of integers with naturals.
use Rattle.std.proofs.Common.{◌≡◌, ℕ, zero, suc, ◌*◌, ◌/◌, ◌<◌, sym, refl, ap, ◌∙◌, arith}
use Rattle.std.specs.Prelude.{ℤ, pos, negsuc, neg_ℤ, ◌+ℤ◌, ◌*ℤ◌}
use Rattle.std.proofs.lemmas.Int.{ints}
use Rattle.std.proofs.Math.IntN.{suc_ℤ, suc_ℤ-*ℤ, +ℤ-suc_ℤ}
use Rattle.std.proofs.Math.Nat.{mul-div_cancel, mul_assoc}

one_more : (a : ℤ) (k : ℕ) → a +ℤ pos (suc k) ≡ suc_ℤ (a +ℤ pos k)
one_more a k = +ℤ-suc_ℤ a (pos k)

sums : (x : ℤ) (k n : ℕ) → (x +ℤ pos (k * n)) +ℤ pos n ≡ x +ℤ pos (suc k * n)
sums x k n = omega (arith, ints)

-- (a + k) * n is a * n + k * n
pub plus_times : (a : ℤ) (k n : ℕ) → (a +ℤ pos k) *ℤ pos n ≡ a *ℤ pos n +ℤ pos (k * n)
plus_times a zero n =
    let none : a +ℤ pos 0 ≡ a = omega (arith, ints) in
    let same : a *ℤ pos n ≡ a *ℤ pos n +ℤ pos (0 * n) = omega (arith, ints) in
    ap (λ z. z *ℤ pos n) none ∙ same
plus_times a (suc k) n =
    ap (λ z. z *ℤ pos n) (one_more a k) ∙ suc_ℤ-*ℤ (a +ℤ pos k) (pos n) ∙ ap (λ z. z +ℤ pos n) (plus_times a k n) ∙ sums (a *ℤ pos n) k n

-- a number below 0, negated
neg_times : (k n : ℕ) → neg_ℤ (pos k) *ℤ pos n ≡ neg_ℤ (pos (k * n))
neg_times zero n = let none : 0 * n ≡ 0 = omega arith in ap pos none ∙ sym (ap (λ m. neg_ℤ (pos m)) none)
neg_times (suc k) n = refl

-- a * m * n is a * (m * n)
pub times_times : (a : ℤ) (m n : ℕ) → (a *ℤ pos m) *ℤ pos n ≡ a *ℤ pos (m * n)
times_times (pos a) m n = ap pos (mul_assoc a m n)
times_times (negsuc a) m n = neg_times (suc a * m) n ∙ ap (λ k. neg_ℤ (pos k)) (mul_assoc (suc a) m n)

pub one_product : (a b n : ℕ) → 0 < n → a * n ≡ b * n → a ≡ b
one_product a b n some same = sym (mul-div_cancel a some) ∙ ap (λ m. m / n) same ∙ mul-div_cancel b some

-- a product by a number above 0 has one factor
pub one_factor : (a b : ℤ) (n : ℕ) → 0 < n → a *ℤ pos n ≡ b *ℤ pos n → a ≡ b
one_factor (pos a) (pos b) n some same =
    let products : a * n ≡ b * n = omega (arith, ints, same) in
    ap pos (one_product a b n some products)
one_factor (pos a) (negsuc b) n some same =
    let below : pos (a * n) ≡ neg_ℤ (pos (suc b * n)) = same in
    absurd (omega (arith, ints, below))
one_factor (negsuc a) (pos b) n some same =
    let below : neg_ℤ (pos (suc a * n)) ≡ pos (b * n) = same in
    absurd (omega (arith, ints, below))
one_factor (negsuc a) (negsuc b) n some same =
    let below : neg_ℤ (pos (suc a * n)) ≡ neg_ℤ (pos (suc b * n)) = same in
    let products : suc a * n ≡ suc b * n = omega (arith, ints, below) in
    let one = one_product (suc a) (suc b) n some products in
    omega (arith, ints, one)

-- A number with some of its bits replaced.
use Rattle.std.proofs.Common.{◌≡◌, ℕ, ◌+◌, ◌-◌, ◌*◌, ◌%◌, ◌^◌, ◌<◌, ◌≤◌, min, max, ap, ◌∙◌, lit<, arith}
use Rattle.std.specs.Int.{bit_at, bit_not, w64}
use Rattle.std.specs.Int.RustNames.{bit_and, bit_or}
use Rattle.std.proofs.lemmas.Nat.{shl_whole, pow_pos, mod_below}
use Rattle.std.proofs.lemmas.Nat.Bits.{bit_at_cat_low, bit_at_cat_high, bit_at-zero, bit_at_and, bit_at_or, bit_at_not, bit_at_ones, bit_at_above, bit_at-lt}

-- the bits of a number that was shifted up
shl_low : (a k i : ℕ) → i < k → bit_at (a * 2 ^ k) i ≡ 0
shl_low a k i h =
    ap (λ n. bit_at n i) (omega arith) ∙ bit_at_cat_low a k 0 i h ∙ bit_at-zero i

shl_high : (a k j : ℕ) → bit_at (a * 2 ^ k) (k + j) ≡ bit_at a j
shl_high a k j =
    ap (λ n. bit_at n (k + j)) (omega arith) ∙ bit_at_cat_high a k 0 (k + j) (pow_pos k) (omega arith) ∙ ap (bit_at a) (omega arith)

-- the number with the bits of a mask cleared, and other bits set
abbrev pub replaced : ℕ → ℕ → ℕ → ℕ
replaced n mask bits = bit_or (bit_and n (bit_not w64 mask)) bits

replaced_bit : (n mask bits i : ℕ) → mask < 2 ^ 64 → i < 64
    → bit_at (replaced n mask bits) i ≡ max (min (bit_at n i) (1 - bit_at mask i)) (bit_at bits i)
replaced_bit n mask bits i range h =
    bit_at_or (bit_and n (bit_not w64 mask)) bits i
    ∙ ap (λ b. max b (bit_at bits i)) (bit_at_and n (bit_not w64 mask) i ∙ ap (min (bit_at n i)) (bit_at_not w64 mask i range h))

set_bit : (n mask bits i b : ℕ) → mask < 2 ^ 64 → i < 64 → bit_at mask i ≡ 1 → bit_at bits i ≡ b → bit_at (replaced n mask bits) i ≡ b
set_bit n mask bits i b range h one is = omega (arith, replaced_bit n mask bits i range h, one, is)

kept_bit : (n mask bits i : ℕ) → mask < 2 ^ 64 → i < 64 → bit_at mask i ≡ 0 → bit_at bits i ≡ 0 → bit_at (replaced n mask bits) i ≡ bit_at n i
kept_bit n mask bits i range h none clear = omega (arith, replaced_bit n mask bits i range h, none, clear, bit_at-lt n i)

ones_range : (w : ℕ) → 2 ^ w - 1 < 2 ^ w
ones_range w = omega (arith, pow_pos w)

-- a mask of w ones from bit k on
abbrev pub mask_at : ℕ → ℕ → ℕ
mask_at ones k = ones * 2 ^ k % 2 ^ 64

whole_mask : (ones k w : ℕ) → k < 8 → w ≤ 32 → ones ≡ 2 ^ w - 1 → mask_at ones k ≡ ones * 2 ^ k
whole_mask ones k w few narrow is = shl_whole ones w k 64 (rw is (ones_range w)) (omega arith)

whole_bits : (bits k w : ℕ) → k < 8 → w ≤ 32 → bits < 2 ^ w → bits * 2 ^ k % 2 ^ 64 ≡ bits * 2 ^ k
whole_bits bits k w few narrow range = shl_whole bits w k 64 range (omega arith)

mask_range : (ones k : ℕ) → mask_at ones k < 2 ^ 64
mask_range ones k = mod_below (ones * 2 ^ k) (2 ^ 64) (lit< tt)

pub merged_inside : (n bits k w ones : ℕ) → k < 8 → w ≤ 32 → bits < 2 ^ w → ones ≡ 2 ^ w - 1
    → (j : ℕ) → j < w → bit_at (replaced n (mask_at ones k) (bits * 2 ^ k % 2 ^ 64)) (k + j) ≡ bit_at bits j
merged_inside n bits k w ones few narrow range is j h =
    set_bit n (mask_at ones k) (bits * 2 ^ k % 2 ^ 64) (k + j) (bit_at bits j) (mask_range ones k) (omega arith)
    (ap (λ x. bit_at x (k + j)) (whole_mask ones k w few narrow is) ∙ shl_high ones k j ∙ ap (λ x. bit_at x j) is ∙ bit_at_ones w j h)
    (ap (λ x. bit_at x (k + j)) (whole_bits bits k w few narrow range) ∙ shl_high bits k j)

pub merged_below : (n bits k w ones : ℕ) → k < 8 → w ≤ 32 → bits < 2 ^ w → ones ≡ 2 ^ w - 1
    → (i : ℕ) → i < k → bit_at (replaced n (mask_at ones k) (bits * 2 ^ k % 2 ^ 64)) i ≡ bit_at n i
merged_below n bits k w ones few narrow range is i h =
    kept_bit n (mask_at ones k) (bits * 2 ^ k % 2 ^ 64) i (mask_range ones k) (omega arith)
    (ap (λ x. bit_at x i) (whole_mask ones k w few narrow is) ∙ shl_low ones k i h)
    (ap (λ x. bit_at x i) (whole_bits bits k w few narrow range) ∙ shl_low bits k i h)

shl_above : (a k w i : ℕ) → a < 2 ^ w → k + w ≤ i → bit_at (a * 2 ^ k) i ≡ 0
shl_above a k w i range h =
    ap (bit_at (a * 2 ^ k)) (omega arith) ∙ shl_high a k (i - k) ∙ bit_at_above a w (i - k) range (omega arith)

pub merged_above : (n bits k w ones : ℕ) → k < 8 → w ≤ 32 → bits < 2 ^ w → ones ≡ 2 ^ w - 1
    → (i : ℕ) → k + w ≤ i → i < 64 → bit_at (replaced n (mask_at ones k) (bits * 2 ^ k % 2 ^ 64)) i ≡ bit_at n i
merged_above n bits k w ones few narrow range is i h below =
    kept_bit n (mask_at ones k) (bits * 2 ^ k % 2 ^ 64) i (mask_range ones k) below
    (ap (λ x. bit_at x i) (whole_mask ones k w few narrow is) ∙ shl_above ones k w i (rw is (ones_range w)) h)
    (ap (λ x. bit_at x i) (whole_bits bits k w few narrow range) ∙ shl_above bits k w i range h)

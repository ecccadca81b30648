-- Words whose bits say which addresses of the pool pass.
use Rattle.std.proofs.Common.{◌≡◌, ◌≢◌, ℕ, zero, suc, ◌+◌, ◌-◌, ◌*◌, ◌/◌, ◌%◌, ◌^◌}
use Rattle.std.proofs.Common.{◌<◌, ◌≤◌, bit_and, Bool, true, false, cond, ◌&&◌, ltb, List, [], ◌∷◌}
use Rattle.std.proofs.Common.{◌++◌, min, refl, sym, ap, ◌∙◌, pow_mono, arith, inl, inr, Option, Some, None}
use Rattle.std.proofs.lemmas.Bool.{cases_lt, lt-ltb, le-ltb}
use Rattle.std.proofs.lemmas.List.Sums.{sum_by-cons, sum_by-append}
use Rattle.std.proofs.lemmas.Nat.{and_le_l, ones_le_self}
use Rattle.std.proofs.lemmas.Nat.Bits.{bit_at_lowest, bit_at-suc, bit_at-zero, bit_at_and, bit_at_ones, bit_at_above}
use Rattle.std.proofs.lemmas.Nat.Bits.{bit_at-trailing_zeros, bit_at_mask_inside, bit_at_mask_below, ones_shl}
use Rattle.std.specs.Int.RustNames.{count_ones}
use Rattle.std.proofs.Math.Nat.{pow-suc}
use Rattle.std.specs.List.{find, count_by, range_with_len}
use Rattle.std.specs.Int.{bit_at, trailing_zeros, from_bool, w64}
use Rattle.std.specs.Int.Count.{ones_step}
use Rattle.std.specs.Ordering.{nat_cmp}
use Rattle.std.specs.FinSet.{FinSet}
use Rattle.j39_id.specs.Addresses.{pool}
use Rattle.j39_claim.specs.AddressSets.{is_free, free_count, lowest_free, free_above}
use Rattle.j39_claim.specs.inside.AddressWords.{HasBits, ArePassing, is_above, count_in_pool, least_in_pool}

-- a digit has its test
digit-true : (b : Bool) → from_bool b ≡ 1 → b ≡ true
digit-true true e = refl
digit-true false e = absurd (omega arith)

digit-false : (b : Bool) → from_bool b ≡ 0 → b ≡ false
digit-false true e = absurd (omega arith)
digit-false false e = refl

digit-and : (a b : Bool) → min (from_bool b) (from_bool a) ≡ from_bool (a && b)
digit-and true true = refl
digit-and true false = refl
digit-and false true = refl
digit-and false false = refl

digit_cond : (b : Bool) → from_bool b ≡ cond b 1 0
digit_cond true = refl
digit_cond false = refl

range-append : (k m n : ℕ) → range_with_len k (m + n) ≡ range_with_len k m ++ range_with_len (k + m) n
range-append k zero n = rw (let e : zero + n ≡ n = omega arith in e, let f : k + zero ≡ k = omega arith in f) refl
range-append k (suc m) n =
    let e : suc m + n ≡ suc (m + n) = omega arith in
    let f : k + suc m ≡ k + 1 + m = omega arith in
    rw (e, f) (ap (λ l. k ∷ l) (range-append (k + 1) m n))

-- the word without its lowest bit
half : (p : ℕ → Bool) (k n w : ℕ) → HasBits p k (suc n) w → HasBits p (k + 1) n (w / 2)
half p k n w h = record {
  below = omega (arith, h.below, pow-suc 2 n);
  bits = λ i inside.
      let e : k + suc i ≡ k + 1 + i = omega arith in
      sym (bit_at-suc w i) ∙ h.bits (suc i) (omega arith) ∙ ap (λ a. from_bool (p a)) e;
}

-- how many bits are set
pub ones_count : (p : ℕ → Bool) (k n w : ℕ) → HasBits p k n w → count_ones w ≡ count_by p (range_with_len k n)
ones_count p k zero w h = omega (arith, h.below, ones_le_self w)
ones_count p k (suc n) w h =
    let here : w % 2 ≡ cond (p k) 1 0 =
    sym (bit_at_lowest w) ∙ h.bits 0 (omega arith) ∙ ap (λ a. from_bool (p a)) (let e : k + 0 ≡ k = omega arith in e) ∙ digit_cond (p k) in
    ones_step w ∙ (λ i. here i + ones_count p (k + 1) n (w / 2) (half p k n w h) i) ∙ sym (sum_by-cons (λ a. cond (p a) 1 0) k (range_with_len (k + 1) n))

-- where the first that passes is
find_first : (p : ℕ → Bool) (k n t : ℕ) → t < n → p (k + t) ≡ true → ((i : ℕ) → i < t → p (k + i) ≡ false)
    → find p (range_with_len k n) ≡ Some (k + t)
find_first p k zero t inside here before = absurd (omega arith)
find_first p k (suc n) zero inside here before =
    let e : k + 0 ≡ k = omega arith in
    ap (λ b. cond b (Some k) (find p (range_with_len (k + 1) n))) (ap p (sym e) ∙ here) ∙ ap Some (sym e)
find_first p k (suc n) (suc t) inside here before =
    let e : k + 0 ≡ k = omega arith in
    let f : k + suc t ≡ k + 1 + t = omega arith in
    ap (λ b. cond b (Some k) (find p (range_with_len (k + 1) n))) (ap p (sym e) ∙ before 0 (omega arith))
    ∙ find_first p (k + 1) n t (omega arith) (ap p (sym f) ∙ here)
    (λ i below. let g : k + suc i ≡ k + 1 + i = omega arith in ap p (sym g) ∙ before (suc i) (omega arith))
    ∙ ap Some (sym f)

find_none : (p : ℕ → Bool) (k n : ℕ) → ((i : ℕ) → i < n → p (k + i) ≡ false) → find p (range_with_len k n) ≡ None
find_none p k zero none = refl
find_none p k (suc n) none =
    let e : k + 0 ≡ k = omega arith in
    ap (λ b. cond b (Some k) (find p (range_with_len (k + 1) n))) (ap p (sym e) ∙ none 0 (omega arith))
    ∙ find_none p (k + 1) n (λ i below. let g : k + suc i ≡ k + 1 + i = omega arith in ap p (sym g) ∙ none (suc i) (omega arith))

lowest_found : (p : ℕ → Bool) (k n w : ℕ) → n ≤ 64 → HasBits p k n w → 0 < w → find p (range_with_len k n) ≡ Some (k + trailing_zeros w64 w)
lowest_found p k n w fits h some =
    let t = trailing_zeros w64 w in
    let (_, set, clear) = bit_at-trailing_zeros w64 w some (omega (arith, h.below, wide)) in
    let inside : t < n = elim (cases_lt t n) [
      | inl below ↦ below
      | inr above ↦ absurd (omega (arith, bit_at_above w n t h.below above))
    ] in
    find_first p k n t inside (digit-true (p (k + t)) (sym (h.bits t inside) ∙ set))
    (λ i below. digit-false (p (k + i)) (sym (h.bits i (omega arith)) ∙ clear i below))
  where
    wide : 2 ^ n ≤ 2 ^ 64
    wide = pow_mono fits

none_set : (p : ℕ → Bool) (k n w : ℕ) → HasBits p k n w → w ≡ 0 → find p (range_with_len k n) ≡ None
none_set p k n w h zero_word =
    find_none p k n (λ i inside. digit-false (p (k + i)) (sym (h.bits i inside) ∙ ap (λ v. bit_at v i) zero_word ∙ bit_at-zero i))

-- the pool is the places of two words
pool_is : pool ≡ range_with_len 128 64 ++ range_with_len 192 56
pool_is = range-append 128 64 56

abbrev or_else : Option ℕ → Option ℕ → Option ℕ
or_else (Some b) o = Some b
or_else None o = o

find-append : (p : ℕ → Bool) (xs ys : List ℕ) → find p (xs ++ ys) ≡ or_else (find p xs) (find p ys)
find-append p [] ys = refl
find-append p (x ∷ xs) ys = elim (p x) as (λ b. cond b (Some x) (find p (xs ++ ys)) ≡ or_else (cond b (Some x) (find p xs)) (find p ys)) [
  | true ↦ refl
  | false ↦ find-append p xs ys
]

pub count_is : (p : ℕ → Bool) (low high : ℕ) → ArePassing p low high → count_ones low + count_ones high ≡ count_in_pool p
unfolding count_in_pool
count_is p low high h =
    (λ i. ones_count p 128 64 low h.low i + ones_count p 192 56 high h.high i)
    ∙ sym (sum_by-append (λ a. cond (p a) 1 0) (range_with_len 128 64) (range_with_len 192 56))
    ∙ ap (count_by p) (sym pool_is)

pub least_low : (p : ℕ → Bool) (low high : ℕ) → ArePassing p low high → low ≢ 0 → least_in_pool p ≡ Some (128 + trailing_zeros w64 low)
unfolding least_in_pool
least_low p low high h some =
    ap (find p) pool_is ∙ find-append p (range_with_len 128 64) (range_with_len 192 56)
    ∙ ap (λ o. or_else o (find p (range_with_len 192 56))) (lowest_found p 128 64 low (omega arith) h.low (omega arith))

pub least_high : (p : ℕ → Bool) (low high : ℕ) → ArePassing p low high → low ≡ 0 → high ≢ 0
    → least_in_pool p ≡ Some (192 + trailing_zeros w64 high)
unfolding least_in_pool
least_high p low high h none some =
    ap (find p) pool_is ∙ find-append p (range_with_len 128 64) (range_with_len 192 56)
    ∙ (λ i. or_else (none_set p 128 64 low h.low none i) (lowest_found p 192 56 high (omega arith) h.high (omega arith) i))

pub least_none : (p : ℕ → Bool) (low high : ℕ) → ArePassing p low high → low ≡ 0 → high ≡ 0 → least_in_pool p ≡ None
unfolding least_in_pool
least_none p low high h none none' =
    ap (find p) pool_is ∙ find-append p (range_with_len 128 64) (range_with_len 192 56)
    ∙ (λ i. or_else (none_set p 128 64 low h.low none i) (none_set p 192 56 high h.high none' i))

-- the same of the free addresses
pub free_count_is : (taken : FinSet nat_cmp) → free_count taken ≡ count_in_pool (is_free taken)
unfolding free_count count_in_pool
free_count_is taken = refl

pub lowest_free_is : (taken : FinSet nat_cmp) → lowest_free taken ≡ least_in_pool (is_free taken)
unfolding lowest_free least_in_pool
lowest_free_is taken = refl

pub free_above_is : (before : ℕ) (taken : FinSet nat_cmp) → free_above before taken ≡ least_in_pool (is_above before (is_free taken))
unfolding free_above least_in_pool
free_above_is before taken = refl

-- the addresses above one alone
masked : (p : ℕ → Bool) (address k n w mask : ℕ) → n ≤ 64 → HasBits p k n w
    → ((i : ℕ) → i < 64 → bit_at mask i ≡ from_bool (ltb address (k + i))) → HasBits (is_above address p) k n (bit_and w mask)
masked p address k n w mask fits h above = record {
  below = omega (arith, and_le_l w mask, h.below);
  bits = λ i inside. bit_at_and w mask i ∙ (λ j. min (h.bits i inside j) (above i (omega arith) j)) ∙ digit-and (ltb address (k + i)) (p (k + i));
}

pub passing_above : (p : ℕ → Bool) (address low high mask_low mask_high : ℕ) → ArePassing p low high
    → ((i : ℕ) → i < 64 → bit_at mask_low i ≡ from_bool (ltb address (128 + i)))
    → ((i : ℕ) → i < 64 → bit_at mask_high i ≡ from_bool (ltb address (192 + i)))
    → ArePassing (is_above address p) (bit_and low mask_low) (bit_and high mask_high)
passing_above p address low high mask_low mask_high h above_low above_high = record {
  low = masked p address 128 64 low mask_low (omega arith) h.low above_low;
  high = masked p address 192 56 high mask_high (omega arith) h.high above_high;
}

-- the masks
pub all_above : (address first i : ℕ) → address < first → i < 64 → bit_at (2 ^ 64 - 1) i ≡ from_bool (ltb address (first + i))
all_above address first i below inside = bit_at_ones 64 i inside ∙ ap from_bool (sym (lt-ltb address (first + i) (omega arith)))

pub none_above : (address first i : ℕ) → first + 63 ≤ address → i < 64 → bit_at 0 i ≡ from_bool (ltb address (first + i))
none_above address first i past inside = bit_at-zero i ∙ ap from_bool (sym (le-ltb address (first + i) (omega arith)))

pub some_above : (address first k i : ℕ) → address + 1 ≡ first + k → k < 64 → i < 64
    → bit_at ((2 ^ 64 - 1) * 2 ^ k % 2 ^ 64) i ≡ from_bool (ltb address (first + i))
some_above address first k i is fits inside = ap (λ m. bit_at m i) (ones_shl 64 k (omega arith)) ∙ elim (cases_lt i k) [
  | inl below ↦ bit_at_mask_below k 64 i below ∙ ap from_bool (sym (le-ltb address (first + i) (omega arith)))
  | inr above ↦ bit_at_mask_inside k 64 i above inside ∙ ap from_bool (sym (lt-ltb address (first + i) (omega arith)))
]

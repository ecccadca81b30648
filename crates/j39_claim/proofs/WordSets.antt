-- Sets of addresses as words of 64 bits.
use Rattle.std.proofs.Common.{◌≡◌, ◌≢◌, ℕ, bit_and, bit_or, zero, suc, ◌+◌, ◌-◌, ◌*◌, ◌/◌, ◌%◌, ◌^◌, ◌<◌}
use Rattle.std.proofs.Common.{◌≤◌, Bool, true, false, cond, not, ◌&&◌, ◌||◌, eqb, List, [], ◌∷◌, length, get_or, set, replicate}
use Rattle.std.proofs.Common.{min, max, refl, sym, ap, ◌∙◌, arith, get_or-set_other, get_or-set_same, inl, inr, ◌⊎◌}
use Rattle.std.proofs.lemmas.Bool.{cases_eq, cases_lt, eq-eqb, ne_eqb}
use Rattle.std.proofs.lemmas.List.{get_or_past}
use Rattle.std.proofs.Math.ListN.{length-set}
use Rattle.std.proofs.lemmas.Nat.{and_le_r}
use Rattle.std.proofs.lemmas.Nat.Bits.{bit_at-lt, bit_at-zero, bit_at_and, bit_at_or, bit_at_not, bit_at_ones}
use Rattle.std.proofs.lemmas.Nat.Bits.{bit_at_set_same, bit_at_set_other, bit_at_clear_same, bit_at_clear_other, shr_and_one}
use Rattle.std.specs.List.{filter, list_any, range_with_len}
use Rattle.std.specs.Int.{bit_at, bit_not, from_bool, w64}
use Rattle.std.specs.Ordering.{nat_cmp}
use Rattle.std.specs.Cmp.{nat_cmp_total, unsigned_tied}
use Rattle.std.specs.FinSet.{empty, contains, insert, remove, same_set, contains-empty, contains-from_list_nat}
use Rattle.std.specs.FinSet.{contains-insert, contains-remove, contains-union, union, nat_cmp-IsAntisymmetric}
use Rattle.j39_claim.specs.AddressSets.{is_free}
use Rattle.j39_claim.specs.inside.AddressWords.{has_bit, set_of, ArePassing}

-- whether q is among those that pass of the numbers from k on, where k passes or not
abbrev is_among : (ℕ → Bool) → ℕ → ℕ → ℕ → Bool → Bool
is_among p k n q passes = list_any (λ y. eqb y q) (cond passes (k ∷ filter p (range_with_len (k + 1) n)) (filter p (range_with_len (k + 1) n)))

-- which of the n numbers from k on pass
any_outside : (p : ℕ → Bool) (k n q : ℕ) → (q < k) ⊎ (k + n ≤ q) → list_any (λ y. eqb y q) (filter p (range_with_len k n)) ≡ false
any_outside p k zero q out = refl
any_outside p k (suc n) q out = elim (p k) as (λ b. is_among p k n q b ≡ false) [
  | true ↦ rw (ne_eqb k q (λ e. absurd (omega arith))) (any_outside p (k + 1) n q (further out))
  | false ↦ any_outside p (k + 1) n q (further out)
]
  where
    further : (q < k) ⊎ (k + suc n ≤ q) → (q < k + 1) ⊎ (k + 1 + n ≤ q)
    further (inl low) = inl (omega arith)
    further (inr high) = inr (omega arith)

any_inside : (p : ℕ → Bool) (k n q : ℕ) → k ≤ q → q < k + n → list_any (λ y. eqb y q) (filter p (range_with_len k n)) ≡ p q
any_inside p k zero q low high = absurd (omega arith)
any_inside p k (suc n) q low high = elim (cases_eq k q) [
  | inl same ↦ here same (p k) refl
  | inr other ↦ elim (p k) as (λ b. is_among p k n q b ≡ p q) [
    | true ↦ rw (ne_eqb k q other) (any_inside p (k + 1) n q (omega arith) (omega arith))
    | false ↦ any_inside p (k + 1) n q (omega arith) (omega arith)
  ]
]
  where
    here : k ≡ q → (b : Bool) → p k ≡ b → is_among p k n q b ≡ p q
    here same true passes = rw (eq-eqb k q same) (sym passes ∙ ap p same)
    here same false fails = any_outside p (k + 1) n q (inl (omega arith)) ∙ sym fails ∙ ap p same

-- an address is in where its bit is set
pub contains_bit : (words : List ℕ) (q : ℕ) → length words ≡ 4 → contains (set_of words) q ≡ has_bit words q
unfolding set_of
contains_bit words q four = elim (cases_lt q 256) [
  | inl below ↦ contains-from_list_nat (filter (has_bit words) (range_with_len 0 256)) q ∙ any_inside (has_bit words) 0 256 q (omega arith) (omega arith)
  | inr above ↦ contains-from_list_nat (filter (has_bit words) (range_with_len 0 256)) q ∙ any_outside (has_bit words) 0 256 q (inr (omega arith))
      ∙ sym (ap (λ w. eqb (bit_at w (q % 64)) 1) (get_or_past words (q / 64) 0 (omega arith)) ∙ ap (λ d. eqb d 1) (bit_at-zero (q % 64)))
]

-- as it is read
pub bit_read : (words : List ℕ) (q : ℕ) → length words ≡ 4 → eqb (bit_and (get_or words (q / 64) 0 / 2 ^ (q % 64)) 1) 1 ≡ contains (set_of words) q
bit_read words q four = ap (λ d. eqb d 1) (shr_and_one (get_or words (q / 64) 0) (q % 64)) ∙ sym (contains_bit words q four)

has_other : (words : List ℕ) (p w q : ℕ) → q / 64 ≢ p / 64 → has_bit (set words (p / 64) w) q ≡ has_bit words q
has_other words p w q apart = ap (λ v. eqb (bit_at v (q % 64)) 1) (rw get_or-set_other refl)

has_same : (words : List ℕ) (p w q : ℕ) → p / 64 < length words → q / 64 ≡ p / 64 → has_bit (set words (p / 64) w) q ≡ eqb (bit_at w (q % 64)) 1
has_same words p w q inside same =
    ap (λ k. eqb (bit_at (get_or (set words (p / 64) w) k 0) (q % 64)) 1) same
    ∙ ap (λ v. eqb (bit_at v (q % 64)) 1) (rw get_or-set_same refl)

abbrev with_bit : List ℕ → ℕ → ℕ
with_bit words p = bit_or (get_or words (p / 64) 0) (1 * 2 ^ (p % 64) % 2 ^ 64)

-- a bit that is set
pub bit_set : (words : List ℕ) (p : ℕ) → length words ≡ 4 → p < 256 → set_of (set words (p / 64) (with_bit words p)) ≡ insert (set_of words) p
bit_set words p four below = same_set nat_cmp_total nat_cmp-IsAntisymmetric _ _ (λ q.
    contains_bit (set words (p / 64) (with_bit words p)) q (length-set words (p / 64) (with_bit words p) ∙ four) ∙ each q
    ∙ sym (contains-insert nat_cmp_total (set_of words) p q ∙ (λ i. unsigned_tied q p i || contains_bit words q four i)))
  where
    each : (q : ℕ) → has_bit (set words (p / 64) (with_bit words p)) q ≡ (eqb q p || has_bit words q)
    each q = elim (cases_eq (q / 64) (p / 64)) [
      | inl same ↦ has_same words p (with_bit words p) q (omega arith) same ∙ elim (cases_eq (q % 64) (p % 64)) [
        | inl here ↦ rw (here, bit_at_set_same w64 (get_or words (p / 64) 0) (p % 64) (omega arith), eq-eqb q p (omega arith)) refl
        | inr other ↦
            let stays = bit_at_set_other w64 (get_or words (p / 64) 0) (p % 64) (omega arith) (q % 64) other in
            rw (stays, ne_eqb q p (λ e. other (ap (λ n. n % 64) e)), same) refl
      ]
      | inr apart ↦ has_other words p (with_bit words p) q apart ∙ rw (ne_eqb q p (λ e. apart (ap (λ n. n / 64) e))) refl
    ]

abbrev without_bit : List ℕ → ℕ → ℕ
without_bit words p = bit_and (get_or words (p / 64) 0) (bit_not w64 (1 * 2 ^ (p % 64) % 2 ^ 64))

-- a bit that is cleared
pub bit_cleared : (words : List ℕ) (p : ℕ) → length words ≡ 4 → p < 256
    → set_of (set words (p / 64) (without_bit words p)) ≡ remove (set_of words) p
bit_cleared words p four below = same_set nat_cmp_total nat_cmp-IsAntisymmetric _ _ (λ q.
    contains_bit (set words (p / 64) (without_bit words p)) q (length-set words (p / 64) (without_bit words p) ∙ four) ∙ each q
    ∙ sym (contains-remove nat_cmp_total (set_of words) p q ∙ (λ i. not (unsigned_tied q p i) && contains_bit words q four i)))
  where
    each : (q : ℕ) → has_bit (set words (p / 64) (without_bit words p)) q ≡ (not (eqb q p) && has_bit words q)
    each q = elim (cases_eq (q / 64) (p / 64)) [
      | inl same ↦ has_same words p (without_bit words p) q (omega arith) same ∙ elim (cases_eq (q % 64) (p % 64)) [
        | inl here ↦ rw (here, bit_at_clear_same w64 (get_or words (p / 64) 0) (p % 64) (omega arith), eq-eqb q p (omega arith)) refl
        | inr other ↦
            let stays = bit_at_clear_other w64 (get_or words (p / 64) 0) (p % 64) (omega arith) (q % 64) (omega arith) other in
            rw (stays, ne_eqb q p (λ e. other (ap (λ n. n % 64) e)), same) refl
      ]
      | inr apart ↦ has_other words p (without_bit words p) q apart ∙ rw (ne_eqb q p (λ e. apart (ap (λ n. n / 64) e))) refl
    ]

-- four words without a bit
abbrev no_words : List ℕ
no_words = replicate 4 0

pub no_bit : set_of (replicate 4 0) ≡ empty
no_bit = same_set nat_cmp_total nat_cmp-IsAntisymmetric _ _ (λ q. contains_bit no_words q refl ∙ clear q ∙ sym (contains-empty nat_cmp q))
  where
    word : (k : ℕ) → get_or no_words k 0 ≡ 0
    word zero = refl
    word (suc zero) = refl
    word (suc (suc zero)) = refl
    word (suc (suc (suc zero))) = refl
    word (suc (suc (suc (suc k)))) = refl

    clear : (q : ℕ) → has_bit no_words q ≡ false
    clear q = ap (λ w. eqb (bit_at w (q % 64)) 1) (word (q / 64)) ∙ ap (λ d. eqb d 1) (bit_at-zero (q % 64))

-- the bits of the pool that are clear
digit-not : (d : ℕ) → d < 2 → 1 - d ≡ from_bool (not (eqb d 1))
digit-not zero small = refl
digit-not (suc zero) small = refl
digit-not (suc (suc d)) small = absurd (omega arith)

free_bit : (words : List ℕ) (k i : ℕ) → length words ≡ 4 → get_or words k 0 < 2 ^ 64 → i < 64
    → bit_at (bit_not w64 (get_or words k 0)) i ≡ from_bool (is_free (set_of words) (64 * k + i))
free_bit words k i four fits inside =
    let word : (64 * k + i) / 64 ≡ k = omega arith in
    let place : (64 * k + i) % 64 ≡ i = omega arith in
    bit_at_not w64 (get_or words k 0) i fits inside ∙ digit-not (bit_at (get_or words k 0) i) (bit_at-lt (get_or words k 0) i)
    ∙ ap (λ b. from_bool (not b)) (sym (contains_bit words (64 * k + i) four ∙ (λ j. eqb (bit_at (get_or words (word j) 0) (place j)) 1)))

pub free_bits : (words : List ℕ) → length words ≡ 4 → get_or words 2 0 < 2 ^ 64 → get_or words 3 0 < 2 ^ 64
    → ArePassing (is_free (set_of words)) (bit_not w64 (get_or words 2 0)) (bit_and (bit_not w64 (get_or words 3 0)) ((2 ^ 64 - 1) / 2 ^ 8))
free_bits words four fits fits' = record {
  low = record { below = omega arith; bits = λ i inside. free_bit words 2 i four fits inside };
  high = record {
    below = omega (arith, and_le_r (bit_not w64 (get_or words 3 0)) ((2 ^ 64 - 1) / 2 ^ 8));
    bits = λ i inside. bit_at_and (bit_not w64 (get_or words 3 0)) ((2 ^ 64 - 1) / 2 ^ 8) i
        ∙ ap (min (bit_at (bit_not w64 (get_or words 3 0)) i)) (bit_at_ones 56 i inside)
        ∙ lesser (bit_at (bit_not w64 (get_or words 3 0)) i) (bit_at-lt (bit_not w64 (get_or words 3 0)) i)
        ∙ free_bit words 3 i four fits' (omega arith);
  };
}
  where
    lesser : (d : ℕ) → d < 2 → min d 1 ≡ d
    lesser d small = omega arith

-- the bits of two sets
abbrev words_or : List ℕ → List ℕ → List ℕ
words_or ws vs =
    bit_or (get_or ws 0 0) (get_or vs 0 0) ∷ bit_or (get_or ws 1 0) (get_or vs 1 0)
    ∷ bit_or (get_or ws 2 0) (get_or vs 2 0) ∷ bit_or (get_or ws 3 0) (get_or vs 3 0) ∷ []

word_or : (ws vs : List ℕ) (k : ℕ) → length ws ≡ 4 → length vs ≡ 4 → get_or (words_or ws vs) k 0 ≡ bit_or (get_or ws k 0) (get_or vs k 0)
word_or ws vs zero four four' = refl
word_or ws vs (suc zero) four four' = refl
word_or ws vs (suc (suc zero)) four four' = refl
word_or ws vs (suc (suc (suc zero))) four four' = refl
word_or ws vs (suc (suc (suc (suc k)))) four four' =
    let past : get_or ws (suc (suc (suc (suc k)))) 0 ≡ 0 = get_or_past ws (suc (suc (suc (suc k)))) 0 (omega arith) in
    let past' : get_or vs (suc (suc (suc (suc k)))) 0 ≡ 0 = get_or_past vs (suc (suc (suc (suc k)))) 0 (omega arith) in
    sym (λ i. bit_or (past i) (past' i))

either_is : (d e : ℕ) → d < 2 → e < 2 → eqb (max d e) 1 ≡ (eqb d 1 || eqb e 1)
either_is zero zero small small' = refl
either_is zero (suc zero) small small' = refl
either_is (suc zero) zero small small' = refl
either_is (suc zero) (suc zero) small small' = refl
either_is (suc (suc d)) e small small' = absurd (omega arith)
either_is d (suc (suc e)) small small' = absurd (omega arith)

pub either_bit : (ws vs : List ℕ) → length ws ≡ 4 → length vs ≡ 4 → set_of (words_or ws vs) ≡ union (set_of ws) (set_of vs)
either_bit ws vs four four' = same_set nat_cmp_total nat_cmp-IsAntisymmetric _ _ (λ q.
    contains_bit (words_or ws vs) q refl ∙ each q
    ∙ sym (contains-union nat_cmp_total (set_of ws) (set_of vs) q ∙ (λ i. contains_bit ws q four i || contains_bit vs q four' i)))
  where
    each : (q : ℕ) → has_bit (words_or ws vs) q ≡ (has_bit ws q || has_bit vs q)
    each q =
        let w = get_or ws (q / 64) 0 in
        let v = get_or vs (q / 64) 0 in
        ap (λ w. eqb (bit_at w (q % 64)) 1) (word_or ws vs (q / 64) four four')
        ∙ ap (λ d. eqb d 1) (bit_at_or w v (q % 64))
        ∙ either_is (bit_at w (q % 64)) (bit_at v (q % 64)) (bit_at-lt w (q % 64)) (bit_at-lt v (q % 64))

-- What a search of the pool finds.
use Rattle.std.proofs.Common.{◌≡◌, ℕ, zero, suc, ◌+◌, ◌<◌, ◌≤◌, ◌⊎◌, Bool, true, false, cond, not}
use Rattle.std.proofs.Common.{◌&&◌, leb, ltb, refl, sym, ap, ◌∙◌, arith, inl, inr, Option, Some, None}
use Rattle.std.proofs.lemmas.Bool.{true≢false, cases_eq, and_from, and_parts, le-leb, leb-true, not-true, lt-ltb, ltb-true}
use Rattle.std.proofs.lemmas.List.Sums.{sum_by-cons}
use Rattle.std.specs.Option.{unwrap_or, MatchOption}
use Rattle.std.specs.List.{find, count_by, range_with_len}
use Rattle.std.specs.Ordering.{nat_cmp}
use Rattle.std.specs.FinSet.{FinSet, contains}
use Rattle.j39_claim.specs.AddressSets.{IsFirstFreeAbove, IsFreeIn, IsLeastFree, IsTakenAbove, LowestFreeIsLeast, NextFreeIsNext, is_free, free_count}
use Rattle.j39_claim.specs.AddressSets.{lowest_free, free_above, next_free, first_of_two}
use Rattle.j39_id.specs.Addresses.{in_pool}

-- b is one of the n numbers from k on, and passes
abbrev Passes : (ℕ → Bool) → ℕ → ℕ → ℕ → Type 0
Passes p k n b = (k ≤ b) × (b < k + n) × (p b ≡ true)

found : (p : ℕ → Bool) (k n b : ℕ) → find p (range_with_len k n) ≡ Some b → Passes p k n b
found p k zero b is = absurd (cc)
found p k (suc n) b is =
    elim (p k) as (λ e. p k ≡ e → cond e (Some k) (find p (range_with_len (k + 1) n)) ≡ Some b → Passes p k (suc n) b) [
      | true ↦ λ passes e. let same : k ≡ b = cc in (omega arith, omega arith, ap p (sym same) ∙ passes)
      | false ↦ λ _ e. let later = found p (k + 1) n b e in (omega arith, omega arith, later.2)
    ] refl is

count_more : (p : ℕ → Bool) (k n : ℕ) → count_by p (range_with_len k (suc n)) ≡ cond (p k) 1 0 + count_by p (range_with_len (k + 1) n)
count_more p k n = sum_by-cons (λ x. cond (p x) 1 0) k (range_with_len (k + 1) n)

one_found : (p : ℕ → Bool) (k n : ℕ) → 0 < count_by p (range_with_len k n) → (b : ℕ) × (find p (range_with_len k n) ≡ Some b)
one_found p k zero some = absurd (omega arith)
one_found p k (suc n) some =
    let rest = range_with_len (k + 1) n in
    elim (p k) as (λ e. count_by p (range_with_len k (suc n)) ≡ cond e 1 0 + count_by p rest → (b : ℕ) × (cond e (Some k) (find p rest) ≡ Some b)) [
      | true ↦ λ _. (k, refl)
      | false ↦ λ more. one_found p (k + 1) n (omega arith)
    ] (count_more p k n)

pooled : (b : ℕ) → 128 ≤ b → b < 128 + 120 → in_pool b ≡ true
pooled b low high = and_from (leb 128 b) (leb b 247) (le-leb 128 b low) (le-leb b 247 (omega arith))

pub lowest_free_in : (taken : FinSet nat_cmp) → 0 < free_count taken → IsFreeIn taken (unwrap_or (lowest_free taken) 128)
unfolding free_count lowest_free
lowest_free_in taken some =
    let (b, is) = one_found (is_free taken) 128 120 some in
    let (low, high, free) = found (is_free taken) 128 120 b is in
    rw is (record { pool = pooled b low high; free = not-true (contains taken b) free })

pub next_free_in : (before : ℕ) (taken : FinSet nat_cmp) → 0 < free_count taken → IsFreeIn taken (unwrap_or (next_free before taken) 128)
unfolding free_above
next_free_in before taken some = by (free_above before taken) refl
  where
    by : (o : Option ℕ) → free_above before taken ≡ o → IsFreeIn taken (unwrap_or (first_of_two o (lowest_free taken)) 128)
    by None is = lowest_free_in taken some
    by (Some b) is =
        let (low, high, passes) = found (λ q. ltb before q && is_free taken q) 128 120 b is in
        let free = (and_parts (ltb before b) (is_free taken b) passes).1 in
        record { pool = pooled b low high; free = not-true (contains taken b) free }

-- the same of equal answers
pub lowest_is_free : (taken : FinSet nat_cmp) (o : Option ℕ) (b : ℕ) → 0 < free_count taken → o ≡ lowest_free taken → b ≡ unwrap_or o 128
    → IsFreeIn taken b
lowest_is_free taken o b some is same = rw (same, is) (lowest_free_in taken some)

pub next_is_free : (before : ℕ) (taken : FinSet nat_cmp) (o : Option ℕ) (b : ℕ) → 0 < free_count taken → o ≡ next_free before taken
    → b ≡ unwrap_or o 128 → IsFreeIn taken b
next_is_free before taken o b some is same = rw (same, is) (next_free_in before taken some)

taken_if : (x : Bool) → not x ≡ false → x ≡ true
taken_if true e = refl
taken_if false e = absurd (true≢false e)

-- where none is free, each address of the pool is taken
pub none_free : (taken : FinSet nat_cmp) → free_count taken ≡ 0 → (b : ℕ) → in_pool b ≡ true → contains taken b ≡ true
unfolding free_count
none_free taken none b pooled_b =
    let parts = and_parts (leb 128 b) (leb b 247) pooled_b in
    taken_if (contains taken b) (go 128 120 none (leb-true 128 b parts.0) (omega (arith, leb-true b 247 parts.1)))
  where
    go : (k n : ℕ) → count_by (is_free taken) (range_with_len k n) ≡ 0 → k ≤ b → b < k + n → is_free taken b ≡ false
    go k zero e low high = absurd (omega arith)
    go k (suc n) e low high =
        let p = is_free taken in
        elim (p k) as (λ t. p k ≡ t → count_by p (range_with_len k (suc n)) ≡ cond t 1 0 + count_by p (range_with_len (k + 1) n) → p b ≡ false) [
          | true ↦ λ _ h. absurd (omega arith)
          | false ↦ λ here h. elim (cases_eq k b) [
            | inl same ↦ ap (is_free taken) (sym same) ∙ here
            | inr other ↦ go (k + 1) n (omega arith) (omega arith) (omega arith)
          ]
        ] refl (count_more (is_free taken) k n)

-- no number that passes lies before the one that is found, and none at all where none is found
fails_before : (p : ℕ → Bool) (k n b : ℕ) → find p (range_with_len k n) ≡ Some b → (a : ℕ) → k ≤ a → a < b → p a ≡ false
fails_before p k zero b is a low high = absurd (cc)
fails_before p k (suc n) b is a low high =
    elim (p k) as (λ e. p k ≡ e → cond e (Some k) (find p (range_with_len (k + 1) n)) ≡ Some b → p a ≡ false) [
      | true ↦ λ _ e. let same : k ≡ b = cc in absurd (omega arith)
      | false ↦ λ here e. elim (cases_eq k a) [
        | inl same ↦ ap p (sym same) ∙ here
        | inr other ↦ fails_before p (k + 1) n b e a (omega arith) high
      ]
    ] refl is

fails_all : (p : ℕ → Bool) (k n : ℕ) → find p (range_with_len k n) ≡ None → (a : ℕ) → k ≤ a → a < k + n → p a ≡ false
fails_all p k zero is a low high = absurd (omega arith)
fails_all p k (suc n) is a low high =
    elim (p k) as (λ e. p k ≡ e → cond e (Some k) (find p (range_with_len (k + 1) n)) ≡ None → p a ≡ false) [
      | true ↦ λ _ e. absurd (cc)
      | false ↦ λ here e. elim (cases_eq k a) [
        | inl same ↦ ap p (sym same) ∙ here
        | inr other ↦ fails_all p (k + 1) n e a (omega arith) (omega arith)
      ]
    ] refl is

low_of : (a : ℕ) → in_pool a ≡ true → 128 ≤ a
low_of a is = leb-true 128 a (and_parts (leb 128 a) (leb a 247) is).0

pub lowest_is_least : LowestFreeIsLeast
unfolding lowest_free
lowest_is_least taken = by (lowest_free taken) refl
  where
    by : (o : Option ℕ) → lowest_free taken ≡ o → MatchOption o ((a : ℕ) → in_pool a ≡ true → contains taken a ≡ true) (IsLeastFree taken)
    by None is = λ a pooled_a.
        let high = leb-true a 247 (and_parts (leb 128 a) (leb a 247) pooled_a).1 in
        taken_if (contains taken a) (fails_all (is_free taken) 128 120 is a (low_of a pooled_a) (omega (arith, high)))
    by (Some b) is =
        let (low, high, free) = found (is_free taken) 128 120 b is in
        record {
          free = record { pool = pooled b low high; free = not-true (contains taken b) free };
          lower = λ a pooled_a below. taken_if (contains taken a) (fails_before (is_free taken) 128 120 b is a (low_of a pooled_a) below);
        }

-- the test of what is free above an address
above_free : ℕ → FinSet nat_cmp → ℕ → Bool
above_free before taken a = ltb before a && is_free taken a

-- what lies above and fails this test is taken
taken_above : (before : ℕ) (taken : FinSet nat_cmp) (a : ℕ) → before < a → above_free before taken a ≡ false → contains taken a ≡ true
unfolding above_free
taken_above before taken a above fails =
    taken_if (contains taken a) (sym (ap (λ t. t && is_free taken a) (lt-ltb before a above)) ∙ fails)

pub next_is_next : NextFreeIsNext
unfolding free_above above_free
next_is_next before taken = by (free_above before taken) (lowest_free taken) refl (lowest_is_least taken)
  where
    by : (o next : Option ℕ) → free_above before taken ≡ o → MatchOption next ((a : ℕ) → in_pool a ≡ true → contains taken a ≡ true) (IsLeastFree taken)
        → MatchOption (first_of_two o next) ((a : ℕ) → in_pool a ≡ true → contains taken a ≡ true)
        (λ b. IsFirstFreeAbove before taken b ⊎ (IsTakenAbove before taken × IsLeastFree taken b))
    by (Some b) next is least =
        let (low, high, passes) = found (above_free before taken) 128 120 b is in
        let parts = and_parts (ltb before b) (is_free taken b) passes in
        inl (record {
          free = record { pool = pooled b low high; free = not-true (contains taken b) parts.1 };
          above = ltb-true before b parts.0;
          between = λ a pooled_a above below.
              taken_above before taken a above (fails_before (above_free before taken) 128 120 b is a (low_of a pooled_a) below);
        })
    by None None is least = least
    by None (Some b) is least = inr (
      λ a pooled_a above.
          let high = leb-true a 247 (and_parts (leb 128 a) (leb a 247) pooled_a).1 in
          taken_above before taken a above (fails_all (above_free before taken) 128 120 is a (low_of a pooled_a) (omega (arith, high))),
      least,
    )

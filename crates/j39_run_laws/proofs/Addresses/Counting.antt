-- Values whose numbers differ are at most as many as the numbers that they may have.
use Rattle.std.proofs.Common.{◌≡◌, ◌≢◌, ℕ, zero, suc, ◌+◌, ◌<◌, ◌≤◌, Bool, true, false, cond, not, ◌&&◌, List, [], ◌∷◌, length, get_or, refl, sym, ◌∙◌, subst}
use Rattle.std.proofs.Common.{inl, inr}
use Rattle.std.proofs.Common.{arith, eqb, leb}
use Rattle.std.proofs.lemmas.Bool.{and_from, and_parts, cases_Bool, eqb-false, eqb-true, leb-true, le-leb, true≢false}
use Rattle.std.proofs.lemmas.List.Sums.{sum_by-cons}
use Rattle.std.specs.List.{count_by, range_with_len}

module _ {A : Type 0} where
  -- none passes
  pub count_none : (test : A → Bool) → ((x : A) → test x ≢ true) → (xs : List A) → count_by test xs ≡ 0
  count_none test none [] = refl
  count_none test none (x ∷ xs) = rw (sum_by-cons (λ y. cond (test y) 1 0) x xs)
      (elim (test x) as (λ e. test x ≡ e → cond e 1 0 + count_by test xs ≡ 0) [
        | true ↦ λ passes. absurd (none x passes)
        | false ↦ λ _. omega (arith, count_none test none xs)
      ] refl)

  -- none of these passes
  pub count_none_in : (test : A → Bool) (d : A) (xs : List A) → ((i : ℕ) → i < length xs → test (get_or xs i d) ≢ true) → count_by test xs ≡ 0
  count_none_in test d [] none = refl
  count_none_in test d (x ∷ xs) none = rw (sum_by-cons (λ y. cond (test y) 1 0) x xs)
      (elim (test x) as (λ e. test x ≡ e → cond e 1 0 + count_by test xs ≡ 0) [
        | true ↦ λ passes. absurd (none 0 (omega arith) passes)
        | false ↦ λ _. omega (arith, count_none_in test d xs (λ i inside. none (suc i) (omega arith)))
      ] refl)

  -- no two of these pass
  pub count_one : (test : A → Bool) (d : A) (xs : List A)
      → ((i j : ℕ) → i < j → j < length xs → test (get_or xs i d) ≡ true → test (get_or xs j d) ≢ true) → count_by test xs ≤ 1
  count_one test d [] apart = omega arith
  count_one test d (x ∷ xs) apart = rw (sum_by-cons (λ y. cond (test y) 1 0) x xs)
      (elim (test x) as (λ e. test x ≡ e → cond e 1 0 + count_by test xs ≤ 1) [
        | true ↦ λ passes. omega (arith, count_none_in test d xs (λ j inside. apart 0 (suc j) (omega arith) (omega arith) passes))
        | false ↦ λ _. omega (arith, count_one test d xs (λ i j below inside. apart (suc i) (suc j) (omega arith) (omega arith)))
      ] refl)

  -- what passes the first test passes one of the others
  pub count_either : (p q r : A → Bool) → ((x : A) → p x ≡ true → q x ≡ false → r x ≡ true) → (xs : List A)
      → count_by p xs ≤ count_by q xs + count_by r xs
  count_either p q r either [] = omega arith
  count_either p q r either (x ∷ xs) =
      rw (sum_by-cons (λ y. cond (p y) 1 0) x xs, sum_by-cons (λ y. cond (q y) 1 0) x xs, sum_by-cons (λ y. cond (r y) 1 0) x xs)
      (elim (p x)
      as (λ a. p x ≡ a → cond a 1 0 + count_by p xs ≤ (cond (q x) 1 0 + count_by q xs) + (cond (r x) 1 0 + count_by r xs)) [
        | true ↦ λ first. elim (q x)
            as (λ b. q x ≡ b → 1 + count_by p xs ≤ (cond b 1 0 + count_by q xs) + (cond (r x) 1 0 + count_by r xs)) [
              | true ↦ λ _. omega (arith, count_either p q r either xs)
              | false ↦ λ second. rw (either x first second) (omega (arith, count_either p q r either xs))
            ] refl
        | false ↦ λ _. omega (arith, count_either p q r either xs)
      ] refl)

  -- each of these passes, or none of it
  pub count_all : (p : A → Bool) (xs : List A) → count_by p xs + count_by (λ x. not (p x)) xs ≡ length xs
  count_all p [] = refl
  count_all p (x ∷ xs) = rw (sum_by-cons (λ y. cond (p y) 1 0) x xs, sum_by-cons (λ y. cond (not (p y)) 1 0) x xs)
      (elim (p x) as (λ e. (cond e 1 0 + count_by p xs) + (cond (not e) 1 0 + count_by (λ y. not (p y)) xs) ≡ suc (length xs)) [
        | true ↦ omega (arith, count_all p xs)
        | false ↦ omega (arith, count_all p xs)
      ])

  -- no two of the values that pass have one number, and the number of each passes
  module _ (test : A → Bool) (number : A → ℕ) (allowed : ℕ → Bool) (d : A) (xs : List A)
      (apart : (i j : ℕ) → i < j → j < length xs → test (get_or xs i d) ≡ true → test (get_or xs j d) ≡ true
      → number (get_or xs i d) ≢ number (get_or xs j d))
      (allows : (x : A) → test x ≡ true → allowed (number x) ≡ true) where
    abbrev at : ℕ → A → Bool
    at k x = test x && eqb k (number x)

    abbrev from : ℕ → A → Bool
    from k x = test x && leb k (number x)

    at_most_one : (k : ℕ) → count_by (at k) xs ≤ 1
    at_most_one k = count_one (at k) d xs (λ i j below inside one other.
        let first = and_parts (test (get_or xs i d)) (eqb k (number (get_or xs i d))) one in
        let second = and_parts (test (get_or xs j d)) (eqb k (number (get_or xs j d))) other in
        apart i j below inside first.0 second.0 (sym (eqb-true k _ first.1) ∙ eqb-true k _ second.1))

    one_where_allowed : (k : ℕ) → count_by (at k) xs ≤ cond (allowed k) 1 0
    one_where_allowed k = elim (allowed k) as (λ e. allowed k ≡ e → count_by (at k) xs ≤ cond e 1 0) [
      | true ↦ λ _. at_most_one k
      | false ↦ λ refused. omega (
        arith,
        count_none (at k) (λ x here.
            let parts = and_parts (test x) (eqb k (number x)) here in
            true≢false (sym (subst (λ n. allowed n ≡ true) (sym (eqb-true k (number x) parts.1)) (allows x parts.0)) ∙ refused)) xs,
      )
    ] refl

    later : (k : ℕ) (x : A) → from k x ≡ true → at k x ≡ false → from (k + 1) x ≡ true
    later k x in_range elsewhere =
        let parts = and_parts (test x) (leb k (number x)) in_range in
        let least : k ≤ number x = leb-true k (number x) parts.1 in
        elim (cases_Bool (eqb k (number x))) [
          | inl same ↦ absurd (true≢false (sym (and_from (test x) (eqb k (number x)) parts.0 same) ∙ elsewhere))
          | inr other ↦
              let apart_from : k ≢ number x = eqb-false k (number x) other in
              and_from (test x) (leb (k + 1) (number x)) parts.0 (le-leb (k + 1) (number x) (omega arith))
        ]

    pub count_range : (k n : ℕ) → ((x : A) → test x ≡ true → number x < k + n) → count_by (from k) xs ≤ count_by allowed (range_with_len k n)
    count_range k zero below = omega (
      arith,
      count_none (from k) (λ x here.
          let parts = and_parts (test x) (leb k (number x)) here in
          let least : k ≤ number x = leb-true k (number x) parts.1 in
          let most = below x parts.0 in
          absurd (omega arith)) xs,
    )
    count_range k (suc n) below =
        rw (sum_by-cons (λ b. cond (allowed b) 1 0) k (range_with_len (k + 1) n))
        (omega (
          arith,
          count_either (from k) (at k) (from (k + 1)) (later k) xs,
          one_where_allowed k,
          count_range (k + 1) n (λ x passes. let most = below x passes in omega arith),
        ))

-- An address of the pool that isn't kept free is left where fewer are noted than there are.
use Rattle.std.proofs.Common.{◌≡◌, ◌≢◌, ℕ, zero, suc, ◌+◌, ◌<◌, ◌≤◌, Bool, true, false, cond, ◌&&◌, ◌||◌, eqb, List, [], ◌∷◌, length, refl, sym, ◌∙◌}
use Rattle.std.proofs.Common.{arith, Option, Some, None}
use Rattle.std.proofs.lemmas.Bool.{eqb-true, eq-eqb, ne_eqb, or_from, or_parts, or_left, or_right, and_from, and_parts, le-leb, true≢false, not-true}
use Rattle.std.proofs.lemmas.List.Sums.{sum_by-cons}
use Rattle.std.specs.List.{list_any, filter_map, cons_option, count_by, range_with_len}
use Rattle.std.specs.Ordering.{nat_cmp}
use Rattle.std.specs.FinMap.{FinMap, get}
use Rattle.std.specs.FinSet.{FinSet, contains}
use Rattle.j39_id.specs.Addresses.{in_pool}
use Rattle.j39_claim.specs.AddressSets.{is_free, free_count}
use Rattle.j39_claim.specs.ClaimRule.{PlannedUnit}
use Rattle.j39_network.specs.PlannedUnits.{unit_at}
use Rattle.j39_run_laws.proofs.Addresses.CleanUnits.{needs_pool}

-- b is in the list
abbrev pub has : ℕ → List ℕ → Bool
has b xs = list_any (λ x. eqb b x) xs

-- without its first k
abbrev without : ℕ → List ℕ → List ℕ
without k [] = []
without k (x ∷ xs) = cond (eqb k x) xs (x ∷ without k xs)

length-without : (k : ℕ) (xs : List ℕ) → has k xs ≡ true → length (without k xs) + 1 ≡ length xs
length-without k [] h = absurd (true≢false (sym h))
length-without k (x ∷ xs) h =
    elim (eqb k x) as (λ e. (e || has k xs) ≡ true → length (cond e xs (x ∷ without k xs)) + 1 ≡ length (x ∷ xs)) [
      | true ↦ λ _. omega arith
      | false ↦ λ in_rest. omega (arith, length-without k xs in_rest)
    ] h

has-without : (k b : ℕ) (xs : List ℕ) → b ≢ k → has b (without k xs) ≡ false → has b xs ≡ false
has-without k b [] ne h = refl
has-without k b (x ∷ xs) ne h =
    elim (eqb k x) as (λ e. eqb k x ≡ e → has b (cond e xs (x ∷ without k xs)) ≡ false → has b (x ∷ xs) ≡ false) [
      | true ↦ λ is none. or_from (eqb b x) (has b xs) (ne_eqb b x (λ same. ne (same ∙ sym (eqb-true k x is)))) none
      | false ↦ λ _ none. let parts = or_parts (eqb b x) (has b (without k xs)) none in or_from (eqb b x) (has b xs) parts.0 (has-without k b xs ne parts.1)
    ] refl h

-- how many of the n numbers from k on pass
abbrev pub passing : (ℕ → Bool) → ℕ → ℕ → ℕ
passing p k zero = 0
passing p k (suc n) = cond (p k) 1 0 + passing p (k + 1) n

-- where more numbers pass than the list has, one that passes is not in the list
pub spare : (p : ℕ → Bool) (k n : ℕ) (xs : List ℕ) → length xs < passing p k n → (b : ℕ) × (k ≤ b) × (p b ≡ true) × (has b xs ≡ false)
spare p k zero xs few = absurd (omega arith)
spare p k (suc n) xs few =
    elim (p k) as (λ e. p k ≡ e → length xs < cond e 1 0 + passing p (k + 1) n → (b : ℕ) × (k ≤ b) × (p b ≡ true) × (has b xs ≡ false)) [
      | true ↦ λ passes more. elim (has k xs) as (λ e. has k xs ≡ e → (b : ℕ) × (k ≤ b) × (p b ≡ true) × (has b xs ≡ false)) [
        | true ↦ λ taken.
            let (b, above, ok, none) = spare p (k + 1) n (without k xs) (omega (arith, length-without k xs taken)) in
            (b, omega arith, ok, has-without k b xs (λ same. absurd (omega arith)) none)
        | false ↦ λ none. (k, omega arith, passes, none)
      ] refl
      | false ↦ λ _ more.
          let (b, above, ok, none) = spare p (k + 1) n xs (omega arith) in
          (b, omega arith, ok, none)
    ] refl few

-- what a map has at the NAMEs of the units that may need an address of the pool
abbrev pub noted : FinMap nat_cmp ℕ → List PlannedUnit → List ℕ
noted notes units = filter_map (λ p. cond (needs_pool p) (get notes p.name) None) units

one_more : (o : Option ℕ) (xs : List ℕ) → length (cons_option o xs) ≤ 1 + length xs
one_more None xs = omega arith
one_more (Some x) xs = omega arith

length-noted : (notes : FinMap nat_cmp ℕ) (units : List PlannedUnit) → length (noted notes units) ≤ count_by needs_pool units
length-noted notes [] = omega arith
length-noted notes (p ∷ units) =
    rw (sum_by-cons (λ x. cond (needs_pool x) 1 0) p units)
    (elim (needs_pool p) as (λ e. length (cons_option (cond e (get notes p.name) None) (noted notes units)) ≤ cond e 1 0 + count_by needs_pool units) [
      | true ↦ omega (arith, one_more (get notes p.name) (noted notes units), length-noted notes units)
      | false ↦ omega (arith, length-noted notes units)
    ])

-- a unit that is not noted itself leaves one address more
pub length-noted_but : (notes : FinMap nat_cmp ℕ) (units : List PlannedUnit) (v : ℕ) → v < length units → needs_pool (unit_at units v) ≡ true
    → get notes (unit_at units v).name ≡ None → length (noted notes units) + 1 ≤ count_by needs_pool units
length-noted_but notes [] v in_units needs none = absurd (omega arith)
length-noted_but notes (p ∷ units) zero in_units needs none =
    rw (sum_by-cons (λ x. cond (needs_pool x) 1 0) p units, needs, none) (omega (arith, length-noted notes units))
length-noted_but notes (p ∷ units) (suc v) in_units needs none =
    rw (sum_by-cons (λ x. cond (needs_pool x) 1 0) p units)
    (elim (needs_pool p) as (λ e. length (cons_option (cond e (get notes p.name) None) (noted notes units)) + 1 ≤ cond e 1 0 + count_by needs_pool units) [
      | true ↦ omega (arith, one_more (get notes p.name) (noted notes units), length-noted_but notes units v (omega arith) needs none)
      | false ↦ omega (arith, length-noted_but notes units v (omega arith) needs none)
    ])

has-cons_option : (b : ℕ) (o : Option ℕ) (xs : List ℕ) → has b xs ≡ true → has b (cons_option o xs) ≡ true
has-cons_option b None xs h = h
has-cons_option b (Some x) xs h = or_right (eqb b x) (has b xs) h

-- what is noted of a unit that may need the pool is in the list
pub has-noted : (notes : FinMap nat_cmp ℕ) (units : List PlannedUnit) (u b : ℕ) → u < length units → needs_pool (unit_at units u) ≡ true
    → get notes (unit_at units u).name ≡ Some b → has b (noted notes units) ≡ true
has-noted notes [] u b in_units needs is = absurd (omega arith)
has-noted notes (p ∷ units) zero b in_units needs is = rw (needs, is) (or_left (eqb b b) (has b (noted notes units)) (eq-eqb b b refl))
has-noted notes (p ∷ units) (suc u) b in_units needs is =
    has-cons_option b (cond (needs_pool p) (get notes p.name) None) (noted notes units) (has-noted notes units u b (omega arith) needs is)

-- an address of the pool that isn't kept free
abbrev is_open : FinSet nat_cmp → ℕ → Bool
is_open kept b = in_pool b && is_free kept b

in_pool_between : (b : ℕ) → 128 ≤ b → b < 248 → in_pool b ≡ true
in_pool_between b low high = and_from _ _ (le-leb 128 b low) (le-leb b 247 (omega arith))

open_in : (kept : FinSet nat_cmp) (k n : ℕ) → 128 ≤ k → k + n ≤ 248 → passing (is_open kept) k n ≡ count_by (is_free kept) (range_with_len k n)
open_in kept k zero low high = refl
open_in kept k (suc n) low high =
    rw (sum_by-cons (λ b. cond (is_free kept b) 1 0) k (range_with_len (k + 1) n), in_pool_between k low (omega arith))
    (omega (arith, open_in kept (k + 1) n (omega arith) (omega arith)))

how_many_open : (kept : FinSet nat_cmp) → passing (is_open kept) 128 120 ≡ free_count kept
unfolding free_count
how_many_open kept = open_in kept 128 120 (omega arith) (omega arith)

-- where the plan has room and a unit may need the pool, an address of the pool is left that isn't kept free and that it has noted
-- of no unit
pub one_left : (kept : FinSet nat_cmp) (notes : FinMap nat_cmp ℕ) (units : List PlannedUnit) (v : ℕ)
    → count_by needs_pool units ≤ free_count kept → v < length units
    → needs_pool (unit_at units v) ≡ true → get notes (unit_at units v).name ≡ None
    → (b : ℕ) × (in_pool b ≡ true) × (contains kept b ≡ false)
    × ((u : ℕ) → u < length units → needs_pool (unit_at units u) ≡ true → get notes (unit_at units u).name ≢ Some b)
one_left kept notes units v room in_units needs none =
    let fewer = length-noted_but notes units v in_units needs none in
    let (b, above, ok, left) = spare (is_open kept) 128 120 (noted notes units) (omega (arith, how_many_open kept, fewer)) in
    let both = and_parts (in_pool b) (is_free kept b) ok in
    (b, both.0, not-true (contains kept b) both.1, λ u inside may is. true≢false (sym (has-noted notes units u b inside may is) ∙ left))

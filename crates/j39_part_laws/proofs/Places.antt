-- What stands at a place of a part stands in the whole.
use Rattle.std.proofs.Common.{◌≡◌, ◌≢◌, ℕ, zero, suc, ◌<◌, ◌≤◌, ◌⊎◌, List, [], ◌∷◌, length, Some, refl, sym, ◌∙◌, ap, inl, inr, arith}
use Rattle.std.specs.List.{slice_get}
use Rattle.std.proofs.lemmas.Bool.{cases_lt}
use Rattle.j39_search.specs.ListPlaces.{ValueAt, PairAt}
use Rattle.j39_part_laws.specs.PlanParts.{AreSome, IsSame}

-- what stands below the end of a list, and that nothing stands in an empty one
pub value_at : {A : Type 0} (xs : List A) (k : ℕ) → k < length xs → (x : A) × (slice_get xs k ≡ Some x)
value_at [] k below = absurd (omega (arith, below))
value_at (x ∷ xs) zero below = (x, refl)
value_at (x ∷ xs) (suc k) below = value_at xs k (omega (arith, below))

pub no_value : {A : Type 0} (i : ℕ) (x : A) → slice_get [] i ≡ Some x → ⊥
no_value zero x at = cc
no_value (suc i) x at = cc

-- which of two numbers is the smaller one
pub ordered : (i j : ℕ) → i ≢ j → (i < j) ⊎ (j < i)
ordered i j differ = elim (cases_lt i j) [
  | inl below ↦ inl below
  | inr above ↦ elim (cases_lt j i) [
    | inl less ↦ inr less
    | inr equal ↦ absurd (differ (omega (arith, above, equal)))
  ]
]

module _ {A : Type 0} (place : ℕ → ℕ) (Stands : A → A → Type 0) (some all : List A) (are : AreSome place Stands some all) where
  -- no two go to one place
  pub apart : (i j : ℕ) → i ≢ j → place i ≢ place j
  apart i j differ same = elim (ordered i j differ) [
    | inl below ↦ let rise = are.rises i j below in absurd (omega (arith, rise, same))
    | inr above ↦ let rise = are.rises j i above in absurd (omega (arith, rise, same))
  ]

  -- none goes before its own place
  pub reaches : (i : ℕ) → i ≤ place i
  reaches zero = omega arith
  reaches (suc i) =
      let before = reaches i in
      let rise = are.rises i (suc i) (omega arith) in
      omega (arith, before, rise)

  -- what is so of each value is so of the one that stands for it
  pub value_there : (P Q : A → Type 0) → ((x y : A) → Stands x y → P x → Q y) → (i : ℕ) → ValueAt P some i → ValueAt Q all (place i)
  value_there P Q over i at =
      let there = are.each i at.value at.value_is in
      record { value = there.value; value_is = there.value_is; meets = over at.value there.value there.meets at.meets }

  pub pair_there : (R S : A → A → Type 0) → ((x y z w : A) → Stands x z → Stands y w → R x y → S z w) → (i j : ℕ) → PairAt R some i j
      → PairAt S all (place i) (place j)
  pair_there R S over i j at =
      let one = are.each i at.first at.first_is in
      let other = are.each j at.second at.second_is in
      record {
        first = one.value;
        second = other.value;
        below = are.rises i j at.below;
        first_is = one.value_is;
        second_is = other.value_is;
        related = over at.first at.second one.value other.value one.meets other.meets at.related;
      }

-- the very value stands there
pub same_there : {A : Type 0} (place : ℕ → ℕ) (some all : List A) → AreSome place IsSame some all → (i : ℕ) (x : A) → slice_get some i ≡ Some x
    → slice_get all (place i) ≡ Some x
same_there place some all are i x at =
    let there = are.each i x at in
    there.value_is ∙ ap Some (sym there.meets)

-- what is so of a value is so of it in the whole
pub value_same : {A : Type 0} (place : ℕ → ℕ) (some all : List A) → AreSome place IsSame some all → (P : A → Type 0) (i : ℕ) → ValueAt P some i
    → ValueAt P all (place i)
value_same place some all are P i at =
    record { value = at.value; value_is = same_there place some all are i at.value at.value_is; meets = at.meets }

pub pair_same : {A : Type 0} (place : ℕ → ℕ) (some all : List A) → AreSome place IsSame some all → (R : A → A → Type 0) (i j : ℕ) → PairAt R some i j
    → PairAt R all (place i) (place j)
pair_same place some all are R i j at =
    record {
      first = at.first;
      second = at.second;
      below = are.rises i j at.below;
      first_is = same_there place some all are i at.first at.first_is;
      second_is = same_there place some all are j at.second at.second_is;
      related = at.related;
    }

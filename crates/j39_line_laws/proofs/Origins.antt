-- What stands in the plan of a variant comes of what stands at a place of the file.
use Rattle.std.proofs.Common.{◌≡◌, ℕ, zero, suc, ◌+◌, ◌≤◌, Bool, true, false, List, [], ◌∷◌, length, Option, Some, None, is_some, refl, sym, ◌∙◌, ap, arith}
use Rattle.std.specs.List.{cons_option, filter_map, range_with_len, slice_get}
use Rattle.std.proofs.lemmas.Bool.{false≢true}
use Rattle.std.proofs.lemmas.Option.{none-some, same_Some}
use Rattle.j39_variants.specs.VariantPlans.{flag_at, picked}
use Rattle.j39_part_laws.proofs.Places.{no_value}
use Rattle.j39_line_laws.proofs.Picking.{kept}

-- ---- of what is picked by flags, and what comes of it

-- what stands at a place comes of the value at a place of the file; by other flags this place stands at the same place
pub record ComesFrom {X Y : Type 0} (f : X → Option Y) (bs : List Bool) (xs : List X) (flags : List Bool) (a j : ℕ) (y : Y) : Type 0 where
  pub k : ℕ
  pub value : X
  pub value_is : slice_get xs k ≡ Some value
  pub flagged : flag_at bs k ≡ true
  pub made : f value ≡ Some y
  pub place : slice_get (picked flags (range_with_len a (length xs))) j ≡ Some (a + k)

later : {X Y : Type 0} (f : X → Option Y) (b c : Bool) (bs flags : List Bool) (x : X) (xs : List X) (a i j : ℕ) (y : Y)
    → (slice_get (picked flags (range_with_len (a + 1) (length xs))) i ≡ slice_get (picked (c ∷ flags) (range_with_len a (suc (length xs)))) j)
    → ComesFrom f bs xs flags (a + 1) i y → ComesFrom f (b ∷ bs) (x ∷ xs) (c ∷ flags) a j y
later f b c bs flags x xs a i j y same its = record {
  k = suc its.k;
  value = its.value;
  value_is = its.value_is;
  flagged = its.flagged;
  made = its.made;
  place = sym same ∙ its.place ∙ ap Some (let e : a + 1 + its.k ≡ a + suc its.k = omega arith in e);
}

pub comes_from : {X Y : Type 0} (f : X → Option Y) (bs : List Bool) (xs : List X) (a j : ℕ) (y : Y) → slice_get (filter_map f (picked bs xs)) j ≡ Some y
    → ComesFrom f bs xs (kept f bs xs) a j y
comes_from f [] xs a j y at = absurd (no_value j y at)
comes_from f (b ∷ bs) [] a j y at = absurd (no_value j y at)
comes_from f (false ∷ bs) (x ∷ xs) a j y at = later f false false bs (kept f bs xs) x xs a j j y refl (comes_from f bs xs (a + 1) j y at)
comes_from {X = X} {Y = Y} f (true ∷ bs) (x ∷ xs) a j y at = by (f x) refl j (λ i found. comes_from f bs xs (a + 1) i y found) at
  where
    by : (o : Option Y) → f x ≡ o → (i : ℕ)
        → ((n : ℕ) → slice_get (filter_map f (picked bs xs)) n ≡ Some y → ComesFrom f bs xs (kept f bs xs) (a + 1) n y)
        → slice_get (cons_option o (filter_map f (picked bs xs))) i ≡ Some y
        → ComesFrom f (true ∷ bs) (x ∷ xs) (is_some o ∷ kept f bs xs) a i y
    by None is_o i rest found = later f true false bs (kept f bs xs) x xs a i i y refl (rest i found)
    by (Some z) is_o zero rest found = record {
      k = 0;
      value = x;
      value_is = refl;
      flagged = refl;
      made = is_o ∙ found;
      place = ap Some (let e : a ≡ a + 0 = omega arith in e);
    }
    by (Some z) is_o (suc i) rest found = later f true true bs (kept f bs xs) x xs a i (suc i) y refl (rest i found)

-- and what comes of a value that is picked stands at a place
pub record StandsAt {X Y : Type 0} (f : X → Option Y) (bs : List Bool) (xs : List X) (flags : List Bool) (a k : ℕ) (y : Y) : Type 0 where
  pub j : ℕ
  pub at : slice_get (filter_map f (picked bs xs)) j ≡ Some y
  pub place : slice_get (picked flags (range_with_len a (length xs))) j ≡ Some (a + k)

record IsBehind {X Y : Type 0} (f : X → Option Y) (bs : List Bool) (xs : List X) (o : Option Y) (a k : ℕ) (y : Y) : Type 0 where
  i : ℕ
  stands : slice_get (cons_option o (filter_map f (picked bs xs))) i ≡ Some y
  place : slice_get (picked (is_some o ∷ kept f bs xs) (range_with_len a (suc (length xs)))) i ≡ Some (a + k)

pub stands_at : {X Y : Type 0} (f : X → Option Y) (bs : List Bool) (xs : List X) (a k : ℕ) (x : X) (y : Y) → slice_get xs k ≡ Some x → flag_at bs k ≡ true
    → f x ≡ Some y → StandsAt f bs xs (kept f bs xs) a k y
stands_at f bs [] a k x y at flagged made = absurd (no_value k x at)
stands_at f [] (z ∷ xs) a zero x y at flagged made = absurd (false≢true flagged)
stands_at f [] (z ∷ xs) a (suc k) x y at flagged made = absurd (false≢true flagged)
stands_at f (false ∷ bs) (z ∷ xs) a zero x y at flagged made = absurd (false≢true flagged)
stands_at {Y = Y} f (true ∷ bs) (z ∷ xs) a zero x y at flagged made =
    let its = by (f z) (ap f (same_Some z x at) ∙ made) in record { j = its.i; at = its.stands; place = its.place }
  where
    by : (o : Option Y) → o ≡ Some y → IsBehind f bs xs o a 0 y
    by None none = absurd (none-some y none)
    by (Some w) is = record { i = 0; stands = is; place = ap Some (let e : a ≡ a + 0 = omega arith in e) }
stands_at f (false ∷ bs) (z ∷ xs) a (suc k) x y at flagged made =
    let its = stands_at f bs xs (a + 1) k x y at flagged made in
    record { j = its.j; at = its.at; place = its.place ∙ ap Some (let e : a + 1 + k ≡ a + suc k = omega arith in e) }
stands_at {Y = Y} f (true ∷ bs) (z ∷ xs) a (suc k) x y at flagged made =
    let its = by (f z) (stands_at f bs xs (a + 1) k x y at flagged made) in record { j = its.i; at = its.stands; place = its.place }
  where
    by : (o : Option Y) → StandsAt f bs xs (kept f bs xs) (a + 1) k y → IsBehind f bs xs o a (suc k) y
    by None its = record { i = its.j; stands = its.at; place = its.place ∙ ap Some (let e : a + 1 + k ≡ a + suc k = omega arith in e) }
    by (Some w) its = record { i = suc its.j; stands = its.at; place = its.place ∙ ap Some (let e : a + 1 + k ≡ a + suc k = omega arith in e) }

-- no place of the file stands twice
from_first : (ks : List Bool) (a n i k : ℕ) → slice_get (picked ks (range_with_len a n)) i ≡ Some k → a ≤ k
from_first [] a n i k at = absurd (no_value i k at)
from_first (b ∷ ks) a zero i k at = absurd (no_value i k at)
from_first (false ∷ ks) a (suc n) i k at = let rest = from_first ks (a + 1) n i k at in omega (arith, rest)
from_first (true ∷ ks) a (suc n) zero k at = let same = same_Some a k at in omega (arith, same)
from_first (true ∷ ks) a (suc n) (suc i) k at = let rest = from_first ks (a + 1) n i k at in omega (arith, rest)

pub one_place_each : (ks : List Bool) (a n i j k : ℕ) → slice_get (picked ks (range_with_len a n)) i ≡ Some k
    → slice_get (picked ks (range_with_len a n)) j ≡ Some k → i ≡ j
one_place_each [] a n i j k at also = absurd (no_value i k at)
one_place_each (b ∷ ks) a zero i j k at also = absurd (no_value i k at)
one_place_each (false ∷ ks) a (suc n) i j k at also = one_place_each ks (a + 1) n i j k at also
one_place_each (true ∷ ks) a (suc n) zero zero k at also = refl
one_place_each (true ∷ ks) a (suc n) zero (suc j) k at also =
    let same = same_Some a k at in let from = from_first ks (a + 1) n j k also in absurd (omega (arith, same, from))
one_place_each (true ∷ ks) a (suc n) (suc i) zero k at also =
    let same = same_Some a k also in let from = from_first ks (a + 1) n i k at in absurd (omega (arith, same, from))
one_place_each (true ∷ ks) a (suc n) (suc i) (suc j) k at also = ap suc (one_place_each ks (a + 1) n i j k at also)

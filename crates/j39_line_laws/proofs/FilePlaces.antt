-- Where what is picked by flags stands in the whole list.
use Rattle.std.proofs.Common.{◌≡◌, ℕ, zero, suc, ◌+◌, Bool, true, false, List, [], ◌∷◌, length, map, Option, Some, None, is_some, refl, ap, arith}
use Rattle.std.specs.List.{cons_option, filter_map, range_with_len, slice_get}
use Rattle.std.proofs.lemmas.Bool.{false≢true}
use Rattle.std.proofs.lemmas.Option.{none-some, same_Some}
use Rattle.j39_variants.specs.VariantPlans.{flag_at, picked, place_at, places}
use Rattle.j39_part_laws.proofs.Places.{no_value}
use Rattle.j39_line_laws.proofs.VariantBoxes.{AreFewer}
use Rattle.j39_line_laws.proofs.Picking.{kept, place_there, thin}

-- as many flags, all of which are set
abbrev pub all_set : List Bool → List Bool
all_set bs = map (λ _. true) bs

-- the place in the whole list of what these flags pick
abbrev pub whole_place : List Bool → ℕ → ℕ
whole_place bs = thin bs (all_set bs)

pub all_more : (bs : List Bool) → AreFewer bs (all_set bs)
all_more [] = tt
all_more (b ∷ bs) = ((λ _. refl), all_more bs)

pub all_picked : {X : Type 0} (bs : List Bool) (xs : List X) → length bs ≡ length xs → picked (all_set bs) xs ≡ xs
all_picked [] [] same = refl
all_picked [] (x ∷ xs) same = absurd (omega (arith, same))
all_picked (b ∷ bs) [] same = refl
all_picked (b ∷ bs) (x ∷ xs) same = ap (λ l. x ∷ l) (all_picked bs xs (omega (arith, same)))

pub all_kept : {X : Type 0} (bs : List Bool) (xs : List X) → length bs ≡ length xs → filter_map Some (picked (all_set bs) xs) ≡ xs
all_kept [] [] same = refl
all_kept [] (x ∷ xs) same = absurd (omega (arith, same))
all_kept (b ∷ bs) [] same = refl
all_kept (b ∷ bs) (x ∷ xs) same = ap (λ l. x ∷ l) (all_kept bs xs (omega (arith, same)))

-- of as many flags as values all values are kept
pub set_kept : {X Y : Type 0} (f : X → Option Y) (bs : List Bool) (xs : List X) → length bs ≡ length xs → kept Some (all_set bs) xs ≡ all_set (kept f bs xs)
set_kept f [] [] same = refl
set_kept f [] (x ∷ xs) same = absurd (omega (arith, same))
set_kept f (b ∷ bs) [] same = absurd (omega (arith, same))
set_kept f (b ∷ bs) (x ∷ xs) same = ap (λ l. true ∷ l) (set_kept f bs xs (omega (arith, same)))

-- ---- what has a place in the part

-- at a place of the part stands what has this place in the whole
pub record HasPlace {Y : Type 0} (place : ℕ → ℕ) (ys : List Y) (k : ℕ) : Type 0 where
  pub i : ℕ
  pub value : Y
  pub value_is : slice_get ys i ≡ Some value
  pub place_is : place i ≡ k

pub picked_place : {X : Type 0} (bs : List Bool) (xs : List X) (k : ℕ) (x : X) → slice_get xs k ≡ Some x → flag_at bs k ≡ true
    → HasPlace (whole_place bs) (picked bs xs) k
picked_place [] xs zero x at set = absurd (false≢true set)
picked_place [] xs (suc k) x at set = absurd (false≢true set)
picked_place (b ∷ bs) [] k x at set = absurd (no_value k x at)
picked_place (true ∷ bs) (y ∷ ys) zero x at set = record { i = 0; value = y; value_is = refl; place_is = refl }
picked_place (false ∷ bs) (y ∷ ys) zero x at set = absurd (false≢true set)
picked_place (true ∷ bs) (y ∷ ys) (suc k) x at set =
    let its = picked_place bs ys k x at set in
    record { i = suc its.i; value = its.value; value_is = its.value_is; place_is = ap suc its.place_is }
picked_place (false ∷ bs) (y ∷ ys) (suc k) x at set =
    let its = picked_place bs ys k x at set in
    record { i = its.i; value = its.value; value_is = its.value_is; place_is = ap suc its.place_is }

pub picked_set : {X : Type 0} (bs : List Bool) (xs : List X) (i : ℕ) (x : X) → slice_get (picked bs xs) i ≡ Some x → flag_at bs (whole_place bs i) ≡ true
picked_set [] xs i x at = absurd (no_value i x at)
picked_set (b ∷ bs) [] i x at = absurd (no_value i x at)
picked_set (true ∷ bs) (y ∷ ys) zero x at = refl
picked_set (true ∷ bs) (y ∷ ys) (suc i) x at = picked_set bs ys i x at
picked_set (false ∷ bs) (y ∷ ys) i x at = picked_set bs ys i x at

pub kept_place : {X Y : Type 0} (f : X → Option Y) (bs : List Bool) (xs : List X) (k : ℕ) (x : X) → slice_get xs k ≡ Some x → flag_at (kept f bs xs) k ≡ true
    → HasPlace (whole_place (kept f bs xs)) (filter_map f (picked bs xs)) k
kept_place f [] xs zero x at set = absurd (false≢true set)
kept_place f [] xs (suc k) x at set = absurd (false≢true set)
kept_place f (b ∷ bs) [] k x at set = absurd (no_value k x at)
kept_place f (false ∷ bs) (y ∷ ys) zero x at set = absurd (false≢true set)
kept_place f (false ∷ bs) (y ∷ ys) (suc k) x at set =
    let its = kept_place f bs ys k x at set in
    record { i = its.i; value = its.value; value_is = its.value_is; place_is = ap suc its.place_is }
kept_place {Y = Y} f (true ∷ bs) (y ∷ ys) zero x at set = by (f y) set
  where
    by : (o : Option Y) → is_some o ≡ true → HasPlace (whole_place (is_some o ∷ kept f bs ys)) (cons_option o (filter_map f (picked bs ys))) 0
    by None none = absurd (false≢true none)
    by (Some z) some = record { i = 0; value = z; value_is = refl; place_is = refl }
kept_place {Y = Y} f (true ∷ bs) (y ∷ ys) (suc k) x at set = by (f y) (kept_place f bs ys k x at set)
  where
    by : (o : Option Y) → HasPlace (whole_place (kept f bs ys)) (filter_map f (picked bs ys)) k
        → HasPlace (whole_place (is_some o ∷ kept f bs ys)) (cons_option o (filter_map f (picked bs ys))) (suc k)
    by None its = record { i = its.i; value = its.value; value_is = its.value_is; place_is = ap suc its.place_is }
    by (Some z) its = record { i = suc its.i; value = its.value; value_is = its.value_is; place_is = ap suc its.place_is }

pub kept_set : {X Y : Type 0} (f : X → Option Y) (bs : List Bool) (xs : List X) (i : ℕ) (y : Y) → slice_get (filter_map f (picked bs xs)) i ≡ Some y
    → flag_at (kept f bs xs) (whole_place (kept f bs xs) i) ≡ true
kept_set f [] xs i y at = absurd (no_value i y at)
kept_set f (b ∷ bs) [] i y at = absurd (no_value i y at)
kept_set f (false ∷ bs) (x ∷ xs) i y at = kept_set f bs xs i y at
kept_set {Y = Y} f (true ∷ bs) (x ∷ xs) i y at = by (f x) i at (λ k found. kept_set f bs xs k y found)
  where
    by : (o : Option Y) (k : ℕ) → slice_get (cons_option o (filter_map f (picked bs xs))) k ≡ Some y
        → ((l : ℕ) → slice_get (filter_map f (picked bs xs)) l ≡ Some y → flag_at (kept f bs xs) (whole_place (kept f bs xs) l) ≡ true)
        → flag_at (is_some o ∷ kept f bs xs) (whole_place (is_some o ∷ kept f bs xs) k) ≡ true
    by None k found rest = rest k found
    by (Some z) zero found rest = refl
    by (Some z) (suc k) found rest = rest k found

-- ---- places

-- of the places of all values those are picked
pub place_of : (bs : List Bool) (a i k : ℕ) → slice_get (picked bs (range_with_len a (length bs))) i ≡ Some k → k ≡ a + whole_place bs i
place_of [] a i k at = absurd (no_value i k at)
place_of (true ∷ bs) a zero k at = let e : a ≡ k = same_Some a k at in omega (arith, e)
place_of (true ∷ bs) a (suc i) k at = let e = place_of bs (a + 1) i k at in omega (arith, e)
place_of (false ∷ bs) a i k at = let e = place_of bs (a + 1) i k at in omega (arith, e)

own_place : (bs : List Bool) (n i k : ℕ) → place_at (places n (all_set bs)) i ≡ Some k → k ≡ n + i
own_place [] n zero k at = absurd (none-some k at)
own_place [] n (suc i) k at = absurd (none-some k at)
own_place (b ∷ bs) n zero k at = let e : n ≡ k = same_Some n k at in omega (arith, e)
own_place (b ∷ bs) n (suc i) k at = let e = own_place bs (n + 1) i k at in omega (arith, e)

-- what has a place among those picked has its own in the whole
pub named_place : (bs : List Bool) (i k : ℕ) → place_at (places 0 bs) i ≡ Some k → whole_place bs k ≡ i
named_place bs i k at =
    let e : whole_place bs k ≡ 0 + i = own_place bs 0 i (whole_place bs k) (place_there bs (all_set bs) (all_more bs) i k at) in
    omega (arith, e)

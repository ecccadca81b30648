-- What is picked of a list comes of a value of the file at a place that is reported, and each value that is there goes to one.
use Rattle.std.proofs.Common.{◌≡◌, ℕ, zero, suc, ◌+◌, Bool, true, false, ◌&&◌, cond, List, [], ◌∷◌, length, filter, Option, Some, None, is_some, unwrap_or}
use Rattle.std.proofs.Common.{refl, sym, ◌∙◌, ap, arith}
use Rattle.std.specs.List.{cons_option, filter_map, range_with_len, slice_get}
use Rattle.std.proofs.lemmas.Bool.{false≢true}
use Rattle.std.proofs.lemmas.Option.{same_Some}
use Rattle.j39_variants.specs.VariantPlans.{flag_at, picked}
use Rattle.j39_line_findings.specs.There.{place_in_file, places_of_those}
use Rattle.j39_part_laws.proofs.Places.{no_value}

-- two tests that follow from one another are one
pub one_test : (a b : Bool) → (a ≡ true → b ≡ true) → (b ≡ true → a ≡ true) → a ≡ b
one_test true b from into = sym (from refl)
one_test false true from into = into refl
one_test false false from into = refl

-- ---- what comes of those that are picked

abbrev Tests : {X Y : Type 0} → (X → Option Y) → (ℕ → Bool) → ℕ → List Bool → List X → Type 0
Tests {X} f test a bs xs = (k : ℕ) (x : X) → slice_get xs k ≡ Some x → test (a + k) ≡ (flag_at bs k && is_some (f x))

behind_one : {X Y : Type 0} (f : X → Option Y) (test : ℕ → Bool) (a : ℕ) (b : Bool) (bs : List Bool) (x : X) (xs : List X) → Tests f test a (b ∷ bs) (x ∷ xs)
    → Tests f test (a + 1) bs xs
behind_one f test a b bs x xs tests k z at = ap test (let e : a + 1 + k ≡ a + suc k = omega arith in e) ∙ tests (suc k) z at

first_test : {X Y : Type 0} (f : X → Option Y) (test : ℕ → Bool) (a : ℕ) (b : Bool) (bs : List Bool) (x : X) (xs : List X) → Tests f test a (b ∷ bs) (x ∷ xs)
    → test a ≡ (b && is_some (f x))
first_test f test a b bs x xs tests = ap test (let e : a ≡ a + 0 = omega arith in e) ∙ tests 0 x refl

abbrev those : (ℕ → Bool) → ℕ → ℕ → List ℕ
those test a n = filter test (range_with_len a n)

-- the places of those behind the first one, where this one is there, and where it isn't
passed : (test : ℕ → Bool) (a n i k : ℕ) → test a ≡ false → slice_get (those test (a + 1) n) i ≡ Some (a + 1 + k) → slice_get (those test a (suc n)) i ≡ Some
    (a + suc k)
passed test a n i k is at = ap (λ t. slice_get (cond t (a ∷ those test (a + 1) n) (those test (a + 1) n)) i) is ∙ at
    ∙ ap Some (let e : a + 1 + k ≡ a + suc k = omega arith in e)

kept_first : (test : ℕ → Bool) (a n i k : ℕ) → test a ≡ true → slice_get (those test (a + 1) n) i ≡ Some (a + 1 + k)
    → slice_get (those test a (suc n)) (suc i) ≡ Some (a + suc k)
kept_first test a n i k is at = ap (λ t. slice_get (cond t (a ∷ those test (a + 1) n) (those test (a + 1) n)) (suc i)) is ∙ at
    ∙ ap Some (let e : a + 1 + k ≡ a + suc k = omega arith in e)

at_first : (test : ℕ → Bool) (a n : ℕ) → test a ≡ true → slice_get (those test a (suc n)) 0 ≡ Some (a + 0)
at_first test a n is = ap (λ t. slice_get (cond t (a ∷ those test (a + 1) n) (those test (a + 1) n)) 0) is ∙ ap Some (let e : a ≡ a + 0 = omega arith in e)

record CameAt {X Y : Type 0} (f : X → Option Y) (test : ℕ → Bool) (a : ℕ) (xs : List X) (i : ℕ) (y : Y) : Type 0 where
  pub k : ℕ
  pub value : X
  pub value_is : slice_get xs k ≡ Some value
  pub place_is : slice_get (those test a (length xs)) i ≡ Some (a + k)
  pub is_there : test (a + k) ≡ true
  pub comes : f value ≡ Some y

further_there : (test : ℕ → Bool) (a k : ℕ) → test (a + 1 + k) ≡ true → test (a + suc k) ≡ true
further_there test a k is = ap test (let e : a + suc k ≡ a + 1 + k = omega arith in e) ∙ is

-- one behind a first value that isn't there
came_behind : {X Y : Type 0} (f : X → Option Y) (test : ℕ → Bool) (a : ℕ) (x : X) (xs : List X) (i : ℕ) (y : Y) → test a ≡ false
    → CameAt f test (a + 1) xs i y → CameAt f test a (x ∷ xs) i y
came_behind f test a x xs i y is its = record {
  k = suc its.k;
  value = its.value;
  value_is = its.value_is;
  place_is = passed test a (length xs) i its.k is its.place_is;
  is_there = further_there test a its.k its.is_there;
  comes = its.comes;
}

came_at : {X Y : Type 0} (f : X → Option Y) (test : ℕ → Bool) (a : ℕ) (bs : List Bool) (xs : List X) → Tests f test a bs xs → (i : ℕ) (y : Y)
    → slice_get (filter_map f (picked bs xs)) i ≡ Some y → CameAt f test a xs i y
came_at f test a [] xs tests i y at = absurd (no_value i y at)
came_at f test a (b ∷ bs) [] tests i y at = absurd (no_value i y at)
came_at f test a (false ∷ bs) (x ∷ xs) tests i y at =
    came_behind f test a x xs i y (first_test f test a false bs x xs tests) (came_at f test (a + 1) bs xs (behind_one f test a false bs x xs tests) i y at)
came_at {X = X} {Y = Y} f test a (true ∷ bs) (x ∷ xs) tests i y at =
    by (f x) refl (first_test f test a true bs x xs tests) (came_at f test (a + 1) bs xs (behind_one f test a true bs x xs tests)) i at
  where
    by : (o : Option Y) → f x ≡ o → test a ≡ is_some (f x)
        → ((i : ℕ) (y : Y) → slice_get (filter_map f (picked bs xs)) i ≡ Some y → CameAt f test (a + 1) xs i y)
        → (i : ℕ) → slice_get (cons_option o (filter_map f (picked bs xs))) i ≡ Some y → CameAt f test a (x ∷ xs) i y
    by None is_o is rest i at = came_behind f test a x xs i y (is ∙ ap is_some is_o) (rest i y at)
    by (Some z) is_o is rest zero at = record {
      k = 0;
      value = x;
      value_is = refl;
      place_is = at_first test a (length xs) (is ∙ ap is_some is_o);
      is_there = ap test (let e : a + 0 ≡ a = omega arith in e) ∙ is ∙ ap is_some is_o;
      comes = is_o ∙ at;
    }
    by (Some z) is_o is rest (suc i) at =
        let its = rest i y at in
        record {
          k = suc its.k;
          value = its.value;
          value_is = its.value_is;
          place_is = kept_first test a (length xs) i its.k (is ∙ ap is_some is_o) its.place_is;
          is_there = further_there test a its.k its.is_there;
          comes = its.comes;
        }

record GoesAt {X Y : Type 0} (f : X → Option Y) (test : ℕ → Bool) (a : ℕ) (bs : List Bool) (xs : List X) (k : ℕ) (x : X) : Type 0 where
  pub i : ℕ
  pub value : Y
  pub value_is : slice_get (filter_map f (picked bs xs)) i ≡ Some value
  pub place_is : slice_get (those test a (length xs)) i ≡ Some (a + k)
  pub comes : f x ≡ Some value

goes_at : {X Y : Type 0} (f : X → Option Y) (test : ℕ → Bool) (a : ℕ) (bs : List Bool) (xs : List X) → Tests f test a bs xs → (k : ℕ) (x : X)
    → slice_get xs k ≡ Some x → test (a + k) ≡ true → GoesAt f test a bs xs k x
goes_at f test a [] xs tests zero x at there = absurd (false≢true (sym (tests zero x at) ∙ there))
goes_at f test a [] xs tests (suc k) x at there = absurd (false≢true (sym (tests (suc k) x at) ∙ there))
goes_at f test a (b ∷ bs) [] tests k x at there = absurd (no_value k x at)
goes_at f test a (false ∷ bs) (z ∷ xs) tests zero x at there = absurd (false≢true (sym (tests zero x at) ∙ there))
goes_at {X = X} {Y = Y} f test a (true ∷ bs) (z ∷ xs) tests zero x at there = by (f z) refl (sym (tests zero z refl) ∙ there)
  where
    by : (o : Option Y) → f z ≡ o → is_some (f z) ≡ true → GoesAt f test a (true ∷ bs) (z ∷ xs) zero x
    by None is_o some = absurd (false≢true (sym (ap is_some is_o) ∙ some))
    by (Some y) is_o some = record {
      i = 0;
      value = y;
      value_is = ap (λ o. slice_get (cons_option o (filter_map f (picked bs xs))) 0) is_o;
      place_is = at_first test a (length xs) (first_test f test a true bs z xs tests ∙ some);
      comes = sym (ap f (same_Some z x at)) ∙ is_o;
    }
goes_at f test a (false ∷ bs) (z ∷ xs) tests (suc k) x at there =
    let its = goes_at f test (a + 1) bs xs (behind_one f test a false bs z xs tests) k x at
    (ap test (let e : a + 1 + k ≡ a + suc k = omega arith in e) ∙ there) in
    record {
      i = its.i;
      value = its.value;
      value_is = its.value_is;
      place_is = passed test a (length xs) its.i k (first_test f test a false bs z xs tests) its.place_is;
      comes = its.comes;
    }
goes_at {X = X} {Y = Y} f test a (true ∷ bs) (z ∷ xs) tests (suc k) x at there =
    by (f z) refl (first_test f test a true bs z xs tests)
    (goes_at f test (a + 1) bs xs (behind_one f test a true bs z xs tests) k x at (ap test (let e : a + 1 + k ≡ a + suc k = omega arith in e) ∙ there))
  where
    by : (o : Option Y) → f z ≡ o → test a ≡ is_some (f z) → GoesAt f test (a + 1) bs xs k x → GoesAt f test a (true ∷ bs) (z ∷ xs) (suc k) x
    by None is_o is its = record {
      i = its.i;
      value = its.value;
      value_is = ap (λ o. slice_get (cons_option o (filter_map f (picked bs xs))) its.i) is_o ∙ its.value_is;
      place_is = passed test a (length xs) its.i k (is ∙ ap is_some is_o) its.place_is;
      comes = its.comes;
    }
    by (Some y) is_o is its = record {
      i = suc its.i;
      value = its.value;
      value_is = ap (λ o. slice_get (cons_option o (filter_map f (picked bs xs))) (suc its.i)) is_o ∙ its.value_is;
      place_is = kept_first test a (length xs) its.i k (is ∙ ap is_some is_o) its.place_is;
      comes = its.comes;
    }

-- ---- in a variant

-- R reports which value of the variant comes of a value of the file
pub record IsFrom {X Y : Type 0} (R : X → Y → Type 0) (test : ℕ → Bool) (xs : List X) (at : List ℕ) (i : ℕ) (y : Y) : Type 0 where
  pub k : ℕ
  pub value : X
  pub value_is : slice_get xs k ≡ Some value
  pub place_is : place_in_file at i ≡ k
  pub is_there : test k ≡ true
  pub comes : R value y

pub record GoesTo {X Y : Type 0} (R : X → Y → Type 0) (ys : List Y) (at : List ℕ) (k : ℕ) (x : X) : Type 0 where
  pub i : ℕ
  pub value : Y
  pub value_is : slice_get ys i ≡ Some value
  pub place_is : place_in_file at i ≡ k
  pub comes : R x value

abbrev pub Comes : {X Y : Type 0} → (X → Option Y) → X → Y → Type 0
Comes f x y = f x ≡ Some y

-- the values of the variant are those that come of the values of the file that are there, at their places
pub record AreThose {X Y : Type 0} (R : X → Y → Type 0) (test : ℕ → Bool) (xs : List X) (ys : List Y) (at : List ℕ) : Type 0 where
  pub from : (i : ℕ) (y : Y) → slice_get ys i ≡ Some y → IsFrom R test xs at i y
  pub into : (k : ℕ) (x : X) → slice_get xs k ≡ Some x → test k ≡ true → GoesTo R ys at k x

module _ {X Y : Type 0} (f : X → Option Y) (test : ℕ → Bool) (bs : List Bool) (xs : List X) (ys : List Y) (at : List ℕ)
    (are : ys ≡ filter_map f (picked bs xs)) (placed : at ≡ places_of_those test (length xs))
    (tests : (k : ℕ) (x : X) → slice_get xs k ≡ Some x → test k ≡ (flag_at bs k && is_some (f x))) where
  from_start : Tests f test 0 bs xs
  from_start k x at_k = ap test (let e : 0 + k ≡ k = omega arith in e) ∙ tests k x at_k

  in_file : (i k : ℕ) → slice_get (those test 0 (length xs)) i ≡ Some (0 + k) → place_in_file at i ≡ k
  in_file i k is = ap (λ l. place_in_file l i) placed ∙ ap (λ o. unwrap_or o 0) is ∙ (let e : 0 + k ≡ k = omega arith in e)

  pub are_those : AreThose (Comes f) test xs ys at
  are_those = record {
    from = λ i y at_i.
        let its = came_at f test 0 bs xs from_start i y (ap (λ l. slice_get l i) (sym are) ∙ at_i) in
        record {
          k = its.k;
          value = its.value;
          value_is = its.value_is;
          place_is = in_file i its.k its.place_is;
          is_there = ap test (let e : its.k ≡ 0 + its.k = omega arith in e) ∙ its.is_there;
          comes = its.comes;
        };
    into = λ k x at_k there.
        let its = goes_at f test 0 bs xs from_start k x at_k (ap test (let e : 0 + k ≡ k = omega arith in e) ∙ there) in
        record {
          i = its.i;
          value = its.value;
          value_is = ap
              (λ l. slice_get l its.i) are ∙ its.value_is;
          place_is = in_file its.i k its.place_is;
          comes = its.comes;
        };
  }

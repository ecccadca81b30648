-- What is found of a list, in terms of its values and their places.
use Rattle.std.proofs.Common.{◌≡◌, ℕ, zero, suc, ◌+◌, ◌-◌, List, [], ◌∷◌, Bool, true, false}
use Rattle.std.proofs.Common.{drop, All, Some, Contains, Decides, refl, sym, ◌∙◌, subst, ap, arith, inl, inr}
use Rattle.std.specs.List.{slice_get}
use Rattle.std.proofs.lemmas.Bool.{false≢true}
use Rattle.std.proofs.lemmas.Option.{none-some, same_Some, slice_get_within, get_or_from_slice_get}
use Rattle.std.proofs.lemmas.List.Elements.{Contains-append_cases, Contains-append_left, Contains-append_right}
use Rattle.j39_search.specs.ListPlaces.{found_if, in_each, each, pairs, ValueAt, PairAt}
use Rattle.j39_search.proofs.PlaceLemmas.{after}

-- f is found of the value at index k, whose place is i + k
pub record FoundOf {A B : Type 0} (find : ℕ → A → List B) (i : ℕ) (xs : List A) (f : B) : Type 0 where
  pub k : ℕ
  pub place : ℕ
  pub place_is : place ≡ i + k
  pub value : A
  pub value_is : slice_get xs k ≡ Some value
  pub among : Contains (find place value) f

pub of_in_each : {A B : Type 0} (find : ℕ → A → List B) (i : ℕ) (xs : List A) (f : B) → Contains (in_each find i xs) f → FoundOf find i xs f
unfolding in_each
of_in_each find i [] f h = absurd (omega arith)
of_in_each find i (x ∷ xs) f h =
    elim (Contains-append_cases (find i x) (in_each find (i + 1) xs) f h) [
      | inl here ↦ record { k = 0; place = i; place_is = omega arith; value = x; value_is = refl; among = here }
      | inr later ↦
          let r = of_in_each find (i + 1) xs f later in
          record { k = suc r.k; place = r.place; place_is = omega arith; value = r.value; value_is = r.value_is; among = r.among }
    ]

pub in_each_of : {A B : Type 0} (find : ℕ → A → List B) (i : ℕ) (xs : List A) (f : B) (k place : ℕ) (x : A)
    → place ≡ i + k → slice_get xs k ≡ Some x → Contains (find place x) f → Contains (in_each find i xs) f
unfolding in_each
in_each_of find i [] f k place x at is among = absurd (none-some _ is)
in_each_of find i (y ∷ ys) f zero place x at is among =
    let same : place ≡ i = omega arith in
    let P : ℕ → Type 0 = λ n. Contains (find n y) f in
    let Q : _ → Type 0 = λ v. Contains (find place v) f in
    Contains-append_left (find i y) (in_each find (i + 1) ys) f (subst P same (subst Q (sym (same_Some _ _ is)) among))
in_each_of find i (y ∷ ys) f (suc k) place x at is among =
    Contains-append_right (find i y) (in_each find (i + 1) ys) f (in_each_of find (i + 1) ys f k place x (omega arith) is among)

pub of_found_if : {B : Type 0} (b : Bool) (made f : B) → Contains (found_if b made) f → (b ≡ true) × (f ≡ made)
of_found_if true made f (zero, less, is) = (refl, sym is)
of_found_if true made f (suc k, less, is) = absurd (omega arith)
of_found_if false made f h = absurd (omega arith)

pub found_if_of : {B : Type 0} (b : Bool) (made : B) → b ≡ true → Contains (found_if b made) made
found_if_of true made h = (0, omega arith, refl)
found_if_of false made h = absurd (false≢true h)

-- ---- each value

-- what all meet, the value at a place meets
pub all_at : {A : Type 0} (P : A → Type 0) (xs : List A) → All P xs → (i : ℕ) (x : A) → slice_get xs i ≡ Some x → P x
all_at P xs all i x is = subst P (get_or_from_slice_get xs i x x is) (all i x (slice_get_within xs i x is))

pub of_each : {A B : Type 0} {test : A → Bool} (P : A → Type 0) → ((x : A) → Decides (test x) (P x)) → (make : ℕ → B) (xs : List A) (f : B)
    → Contains (each test make 0 xs) f → (i : ℕ) × (f ≡ make i) × ValueAt P xs i
unfolding each
of_each {test = test} P decides make xs f h =
    let r = of_in_each (λ k x. found_if (test x) (make k)) 0 xs f h in
    let e = of_found_if (test r.value) (make r.place) f r.among in
    let at : r.place ≡ r.k = omega arith in
    (r.k, e.1 ∙ ap make at, record { value = r.value; value_is = r.value_is; meets = (decides r.value).0 e.0 })

pub each_of : {A B : Type 0} {test : A → Bool} (P : A → Type 0) → ((x : A) → Decides (test x) (P x)) → (make : ℕ → B) (xs : List A) (i : ℕ)
    → ValueAt P xs i → Contains (each test make 0 xs) (make i)
unfolding each
each_of {test = test} P decides make xs i v =
    in_each_of (λ k x. found_if (test x) (make k)) 0 xs (make i) i i v.value (omega arith) v.value_is (found_if_of _ _ ((decides v.value).1 v.meets))

-- ---- pairs

slice_get-drop : {A : Type 0} (n : ℕ) (xs : List A) (k : ℕ) → slice_get (drop n xs) k ≡ slice_get xs (n + k)
slice_get-drop zero xs k = let e : k ≡ 0 + k = omega arith in ap (slice_get xs) e
slice_get-drop (suc n) [] k = refl
slice_get-drop (suc n) (x ∷ xs) k = let e : suc (n + k) ≡ suc n + k = omega arith in slice_get-drop n xs k ∙ ap (slice_get (x ∷ xs)) e

-- what stands at index k behind place i stands at place i + 1 + k
pub behind : {A : Type 0} (i k j : ℕ) (xs : List A) → j ≡ i + 1 + k → slice_get (drop (i + 1) xs) k ≡ slice_get xs j
behind i k j xs at = slice_get-drop (i + 1) xs k ∙ ap (slice_get xs) (sym at)

pub of_pairs : {A B : Type 0} {test : A → A → Bool} (R : A → A → Type 0) → ((x y : A) → Decides (test x y) (R x y))
    → (make : ℕ → ℕ → B) (xs : List A) (f : B)
    → Contains (pairs test make xs) f → (i : ℕ) × (j : ℕ) × (f ≡ make i j) × PairAt R xs i j
unfolding pairs each
of_pairs {test = test} R decides make xs f h =
    let r = of_in_each (after test make xs) 0 xs f h in
    let s = of_in_each (λ k y. found_if (test r.value y) (make r.place k)) (r.place + 1) (drop (r.place + 1) xs) f r.among in
    let e = of_found_if (test r.value s.value) (make r.place s.place) f s.among in
    let at : r.k ≡ r.place = omega arith in (
      r.place,
      s.place,
      e.1,
      record {
        first = r.value;
        second = s.value;
        below = omega arith;
        first_is = ap (slice_get xs) (sym at) ∙ r.value_is;
        second_is = sym (behind r.place s.k s.place xs s.place_is) ∙ s.value_is;
        related = (decides r.value s.value).0 e.0;
      },
    )

pub pairs_of : {A B : Type 0} {test : A → A → Bool} (R : A → A → Type 0) → ((x y : A) → Decides (test x y) (R x y))
    → (make : ℕ → ℕ → B) (xs : List A) (i j : ℕ)
    → PairAt R xs i j → Contains (pairs test make xs) (make i j)
unfolding pairs each
pairs_of {test = test} R decides make xs i j p =
    let at : j ≡ i + 1 + (j - (i + 1)) = omega arith in
    let second_is = behind i (j - (i + 1)) j xs at ∙ p.second_is in
    let made = found_if_of _ (make i j) ((decides p.first p.second).1 p.related) in
    let inner = in_each_of (λ k y. found_if (test p.first y) (make i k)) (i + 1) (drop (i + 1) xs) (make i j) (j - (i + 1)) j p.second at
    second_is made in
    in_each_of (after test make xs) 0 xs (make i j) i i p.first (omega arith) p.first_is inner

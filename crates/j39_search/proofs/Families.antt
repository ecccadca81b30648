-- What each part of a list of findings has: what holds, in order.
use Rattle.std.proofs.Common.{◌≡◌, ℕ, ◌+◌, ◌<◌, ◌≤◌, List, [], ◌∷◌, ◌++◌, Bool}
use Rattle.std.proofs.Common.{Some, Contains, Decides, refl, sym, ◌∙◌, ap, subst, inl, inr, arith}
use Rattle.std.specs.List.{slice_get}
use Rattle.std.proofs.lemmas.List.Elements.{Contains-append_cases}
use Rattle.j39_search.specs.ListPlaces.{found_if, in_each, each, pairs, ValueAt, PairAt}
use Rattle.j39_search.specs.Order.{ComesBefore, IsBelow}
use Rattle.j39_search.proofs.Members.{found_if_of, in_each_of, of_each, of_found_if, of_in_each, of_pairs}
use Rattle.j39_search.proofs.Rising.{Rises, Rises-append, Rises-found_if, Rises-in_each, Rises-each, Rises-pairs}

-- of findings, the number under which each is known, and the places that it names
pub record Order (F : Type 0) : Type 0 where
  pub number : F → ℕ
  pub places : F → List ℕ

abbrev pub IsBefore : {F : Type 0} → Order F → F → F → Type 0
IsBefore order = ComesBefore order.number order.places

-- findings of numbers from low to high that hold, in order
pub record Covers {F : Type 0} (order : Order F) (Holds : F → Type 0) (low high : ℕ) (findings : List F) : Type 0 where
  pub sound : (f : F) → Contains findings f → Holds f
  pub least : (f : F) → Contains findings f → low ≤ order.number f
  pub most : (f : F) → Contains findings f → order.number f ≤ high
  pub rises : Rises (IsBefore order) findings

pub Covers-append : {F : Type 0} (order : Order F) (Holds : F → Type 0) (a b c d : ℕ) (xs ys : List F) → b < c → a ≤ c → b ≤ d → Covers order Holds a b xs
    → Covers order Holds c d ys
    → Covers order Holds a d (xs ++ ys)
Covers-append order Holds a b c d xs ys less low high left right = record {
  sound = λ f h. elim (Contains-append_cases xs ys f h) [ inl here ↦ left.sound f here | inr there ↦ right.sound f there ];
  least = λ f h. elim (Contains-append_cases xs ys f h) [
    | inl here ↦ left.least f here
    | inr there ↦ let e = right.least f there in omega arith
  ];
  most = λ f h. elim (Contains-append_cases xs ys f h) [
    | inl here ↦ let e = left.most f here in omega arith
    | inr there ↦ right.most f there
  ];
  rises = Rises-append (IsBefore order) xs ys left.rises right.rises (λ f g here there.
      let e = left.most f here in
      let l = right.least g there in
      let below : order.number f < order.number g = omega arith in
      inl below);
}

-- a family of one number, from what each of its findings is
pub family : {F : Type 0} (order : Order F) (Holds : F → Type 0) (n : ℕ) (findings : List F)
    → ((f : F) → Contains findings f → Holds f × (order.number f ≡ n)) → Rises (IsBefore order) findings → Covers order Holds n n findings
family order Holds n findings each_is rises = record {
  sound = λ f h. (each_is f h).0;
  least = λ f h. let e = (each_is f h).1 in omega arith;
  most = λ f h. let e = (each_is f h).1 in omega arith;
  rises = rises;
}

-- what holds of the finding that was made, holds of one equal to it
pub made : {F : Type 0} (order : Order F) (Holds : F → Type 0) (n : ℕ) (f g : F) → f ≡ g → Holds g → order.number g ≡ n → Holds f × (order.number f ≡ n)
made {F} order Holds n f g e h is = let P : F → Type 0 = λ x. Holds x × (order.number x ≡ n) in subst P (sym e) (h, is)

-- a finding of this number names these places
pub record Names {F : Type 0} (order : Order F) (n : ℕ) (named : List ℕ) (f : F) : Type 0 where
  pub number : order.number f ≡ n
  pub places : order.places f ≡ named

-- of two findings of one number, by the places that they name
pub before : {F : Type 0} (order : Order F) (n : ℕ) (xs ys : List ℕ) (f g : F) → Names order n xs f → Names order n ys g → IsBelow xs ys → IsBefore order f g
before order n xs ys f g a b below =
    let P : List ℕ → Type 0 = λ us. IsBelow us (order.places g) in
    let Q : List ℕ → Type 0 = λ vs. IsBelow xs vs in
    inr (a.number ∙ sym b.number, subst P (sym a.places) (subst Q (sym b.places) below))

pub pairs_family : {F A : Type 0} (order : Order F) (Holds : F → Type 0) (n : ℕ) {test : A → A → Bool} (R : A → A → Type 0)
    → ((x y : A) → Decides (test x y) (R x y))
    → (make : ℕ → ℕ → F) (xs : List A)
    → ((i j : ℕ) → PairAt R xs i j → Holds (make i j)) → ((i j : ℕ) → Names order n (i ∷ j ∷ []) (make i j))
    → Covers order Holds n n (pairs test make xs)
pairs_family order Holds n {test = test} R decides make xs holds named =
    family order Holds n (pairs test make xs)
    (λ f h. let r = of_pairs R decides make xs f h in made order Holds n f (make r.0 r.1) r.2 (holds r.0 r.1 r.3) (named r.0 r.1).number)
    (Rises-pairs (IsBefore order) test make
    (λ i k l less. before order n _ _ (make i k) (make i l) (named i k) (named i l) (inr (refl, inl less)))
    (λ i j k l less. before order n _ _ (make i k) (make j l) (named i k) (named j l) (inl less)) xs)

pub each_family : {F A : Type 0} (order : Order F) (Holds : F → Type 0) (n : ℕ) {test : A → Bool} (P : A → Type 0) → ((x : A) → Decides (test x) (P x))
    → (make : ℕ → F) (xs : List A)
    → ((i : ℕ) → ValueAt P xs i → Holds (make i)) → ((i : ℕ) → Names order n (i ∷ []) (make i))
    → Covers order Holds n n (each test make 0 xs)
each_family order Holds n {test = test} P decides make xs holds named =
    family order Holds n (each test make 0 xs)
    (λ f h. let r = of_each P decides make xs f h in made order Holds n f (make r.0) r.1 (holds r.0 r.2) (named r.0).number)
    (Rises-each (IsBefore order) test make (λ k l less. before order n _ _ (make k) (make l) (named k) (named l) (inl less)) 0 xs)

-- ---- findings that name a second place inside the first

-- a finding of this number that names place i first
pub record IsOfFirst {F : Type 0} (order : Order F) (n i : ℕ) (f : F) : Type 0 where
  pub rest : List ℕ
  pub names : Names order n (i ∷ rest) f

pub of_first : {F : Type 0} (order : Order F) (n i : ℕ) (f made : F) → f ≡ made → IsOfFirst order n i made → IsOfFirst order n i f
of_first {F} order n i f made e h = let P : F → Type 0 = λ x. IsOfFirst order n i x in subst P (sym e) h

below_by_first : {F : Type 0} (order : Order F) (n k l : ℕ) (f g : F) → k < l → IsOfFirst order n k f → IsOfFirst order n l g → IsBefore order f g
below_by_first order n k l f g less a b = before order n (k ∷ a.rest) (l ∷ b.rest) f g a.names b.names (inl less)

pub inside_family : {F A : Type 0} (order : Order F) (Holds : F → Type 0) (n : ℕ) (find : ℕ → A → List F) (xs : List A)
    → ((i : ℕ) (x : A) (f : F) → slice_get xs i ≡ Some x → Contains (find i x) f → Holds f)
    → ((i : ℕ) (x : A) (f : F) → Contains (find i x) f → IsOfFirst order n i f)
    → ((i : ℕ) (x : A) → Rises (IsBefore order) (find i x))
    → Covers order Holds n n (in_each find 0 xs)
inside_family order Holds n find xs holds named within =
    family order Holds n (in_each find 0 xs)
    (λ f h.
    let r = of_in_each find 0 xs f h in
    let at : r.k ≡ r.place = omega arith in
    (holds r.place r.value f (ap (slice_get xs) (sym at) ∙ r.value_is) r.among, (named r.place r.value f r.among).names.number))
    (Rises-in_each (IsBefore order) find within
    (λ k l x y f g less in_k in_l. below_by_first order n k l f g less (named k x f in_k) (named l y g in_l)) 0 xs)

-- one finding for each value of a list inside each value that meets P of both
pub each_inside : {F A B : Type 0} (order : Order F) (Holds : F → Type 0) (n : ℕ) (xs : List A) (inside : A → List B) (test : A → B → Bool) (P : A → B → Type 0)
    → ((x : A) (y : B) → Decides (test x y) (P x y))
    → (make : ℕ → ℕ → F)
    → ((i j : ℕ) → ValueAt (λ x. ValueAt (P x) (inside x) j) xs i → Holds (make i j))
    → ((i j : ℕ) → Names order n (i ∷ j ∷ []) (make i j))
    → Covers order Holds n n (in_each (λ i x. each (test x) (make i) 0 (inside x)) 0 xs)
each_inside order Holds n xs inside test P decides make holds named =
    inside_family order Holds n (λ i x. each (test x) (make i) 0 (inside x)) xs
    (λ i x f is h.
    let r = of_each (P x) (decides x) (make i) (inside x) f h in
    subst Holds (sym r.1) (holds i r.0 (record { value = x; value_is = is; meets = r.2 })))
    (λ i x f h.
    let r = of_each (P x) (decides x) (make i) (inside x) f h in
    of_first order n i f (make i r.0) r.1 (record { rest = r.0 ∷ []; names = named i r.0 }))
    (λ i x. Rises-each (IsBefore order) (test x) (make i)
    (λ k l less. before order n _ _ (make i k) (make i l) (named i k) (named i l) (inr (refl, inl less))) 0 (inside x))

-- a finding for each value at whose place a test passes
unfoldable pub placed : {F A : Type 0} → (ℕ → A → Bool) → (ℕ → F) → List A → List F
placed test make xs = in_each (λ j y. found_if (test j y) (make j)) 0 xs

pub record OfPlaced {F A : Type 0} (P : ℕ → A → Type 0) (make : ℕ → F) (xs : List A) (f : F) : Type 0 where
  pub place : ℕ
  pub is : f ≡ make place
  pub at : ValueAt (P place) xs place

pub of_placed : {F A : Type 0} {test : ℕ → A → Bool} (P : ℕ → A → Type 0) → ((j : ℕ) (y : A) → Decides (test j y) (P j y)) → (make : ℕ → F)
    (xs : List A) (f : F) → Contains (placed test make xs) f → OfPlaced P make xs f
unfolding placed
of_placed {test = test} P by make xs f h =
    let r = of_in_each (λ j y. found_if (test j y) (make j)) 0 xs f h in
    let e = of_found_if (test r.place r.value) (make r.place) f r.among in
    let at : r.k ≡ r.place = omega arith in
    record {
      place = r.place;
      is = e.1;
      at = record { value = r.value; value_is = ap (slice_get xs) (sym at) ∙ r.value_is; meets = (by r.place r.value).0 e.0 };
    }

pub placed_of : {F A : Type 0} {test : ℕ → A → Bool} (P : ℕ → A → Type 0) → ((j : ℕ) (y : A) → Decides (test j y) (P j y)) → (make : ℕ → F)
    (xs : List A) (j : ℕ) → ValueAt (P j) xs j → Contains (placed test make xs) (make j)
unfolding placed
placed_of {test = test} P by make xs j v =
    in_each_of (λ k y. found_if (test k y) (make k)) 0 xs (make j) j j v.value (omega arith) v.value_is
    (found_if_of (test j v.value) (make j) ((by j v.value).1 v.meets))

pub placed_rise : {F A : Type 0} (order : Order F) (test : ℕ → A → Bool) (make : ℕ → F) (n i : ℕ) → ((j : ℕ) → Names order n (i ∷ j ∷ []) (make j))
    → (xs : List A)
    → Rises (IsBefore order) (placed test make xs)
unfolding placed
placed_rise {F} order test make n i named xs =
    Rises-in_each (IsBefore order) (λ j y. found_if (test j y) (make j)) (λ j y. Rises-found_if (IsBefore order) _ _)
    (λ k l x y f g less in_k in_l.
    let a = of_found_if (test k x) (make k) f in_k in
    let b = of_found_if (test l y) (make l) g in_l in
    let P : F → Type 0 = λ u. IsBefore order u g in
    let Q : F → Type 0 = λ w. IsBefore order (make k) w in
    subst P (sym a.1) (subst Q (sym b.1) (before order n (i ∷ k ∷ []) (i ∷ l ∷ []) (make k) (make l) (named k) (named l) (inr (refl, inl less)))))
    0 xs

pub named_first : {F : Type 0} (order : Order F) (n i j : ℕ) (f g : F) → f ≡ g → Names order n (i ∷ j ∷ []) g → IsOfFirst order n i f
named_first {F} order n i j f g e names = let P : F → Type 0 = λ x. IsOfFirst order n i x in subst P (sym e) (record { rest = j ∷ []; names = names })

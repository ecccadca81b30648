-- Lists in order, each element before each later one.
use Rattle.std.proofs.Common.{◌≡◌, ℕ, suc, ◌+◌, ◌<◌, List, [], ◌∷◌, ◌++◌, Bool, true}
use Rattle.std.proofs.Common.{false, drop, Contains, AllPairs, All, refl, sym, subst, inl, inr, arith}
use Rattle.std.proofs.lemmas.List.Elements.{Contains-append_cases, All-nil, All-cons}
use Rattle.std.proofs.lemmas.List.Kept.{AllPairs-cons}
use Rattle.j39_search.specs.ListPlaces.{found_if, in_each, each, pairs}
use Rattle.j39_search.proofs.PlaceLemmas.{after}
use Rattle.j39_search.proofs.Members.{of_in_each, of_found_if}

-- each element stands in the relation to each later one
abbrev pub Rises : {B : Type 0} → (B → B → Type 0) → List B → Type 0
Rises R [] = Unit {0}
Rises {B} R (x ∷ xs) = ((y : B) → Contains xs y → R x y) × Rises R xs

tail_contains : {B : Type 0} (x y : B) (xs : List B) → Contains xs y → Contains (x ∷ xs) y
tail_contains x y xs (k, less, is) = (suc k, omega arith, is)

pub Rises-append : {B : Type 0} (R : B → B → Type 0) (xs ys : List B) → Rises R xs → Rises R ys
    → ((x y : B) → Contains xs x → Contains ys y → R x y) → Rises R (xs ++ ys)
Rises-append R [] ys left right cross = right
Rises-append R (x ∷ xs) ys left right cross = (
  λ y h. elim (Contains-append_cases xs ys y h) [ inl here ↦ left.0 y here | inr there ↦ cross x y (0, omega arith, refl) there ],
  Rises-append R xs ys left.1 right (λ a b in_xs in_ys. cross a b (tail_contains x a xs in_xs) in_ys),
)

pub all_by_contains : {B : Type 0} (P : B → Type 0) (xs : List B) → ((y : B) → Contains xs y → P y) → All P xs
all_by_contains P [] h = All-nil P
all_by_contains P (x ∷ xs) h = All-cons P x xs (h x (0, omega arith, refl)) (all_by_contains P xs (λ y in_xs. h y (tail_contains x y xs in_xs)))

pub AllPairs-from_Rises : {B : Type 0} (R : B → B → Type 0) (xs : List B) → Rises R xs → AllPairs R xs
AllPairs-from_Rises R [] h = λ i j d below less. absurd (omega arith)
AllPairs-from_Rises R (x ∷ xs) h = AllPairs-cons R x xs (all_by_contains (R x) xs h.0) (AllPairs-from_Rises R xs h.1)

pub Rises-found_if : {B : Type 0} (R : B → B → Type 0) (b : Bool) (made : B) → Rises R (found_if b made)
Rises-found_if R true made = (λ y h. absurd (omega arith), tt)
Rises-found_if R false made = tt

pub Rises-in_each : {A B : Type 0} (R : B → B → Type 0) (find : ℕ → A → List B)
    → ((k : ℕ) (x : A) → Rises R (find k x))
    → ((k l : ℕ) (x y : A) (f g : B) → k < l → Contains (find k x) f → Contains (find l y) g → R f g)
    → (i : ℕ) (xs : List A) → Rises R (in_each find i xs)
unfolding in_each
Rises-in_each R find within cross i [] = tt
Rises-in_each R find within cross i (x ∷ xs) =
    Rises-append R (find i x) (in_each find (i + 1) xs) (within i x) (Rises-in_each R find within cross (i + 1) xs)
    (λ f g here later.
    let r = of_in_each find (i + 1) xs g later in
    cross i r.place x r.value f g (omega arith) here r.among)

pub Rises-each : {A B : Type 0} (R : B → B → Type 0) (test : A → Bool) (make : ℕ → B)
    → ((k l : ℕ) → k < l → R (make k) (make l))
    → (i : ℕ) (xs : List A) → Rises R (each test make i xs)
unfolding each
Rises-each {B = B} R test make rising i xs =
    Rises-in_each R (λ k x. found_if (test x) (make k)) (λ k x. Rises-found_if R (test x) (make k))
    (λ k l x y f g below in_k in_l.
    let P : B → Type 0 = λ a. R a g in
    let Q : B → Type 0 = λ b. R (make k) b in
    subst P (sym (of_found_if (test x) (make k) f in_k).1) (subst Q (sym (of_found_if (test y) (make l) g in_l).1) (rising k l below)))
    i xs

-- f is one of those that a pair with this first place makes
made_after : {A B : Type 0} (test : A → A → Bool) (make : ℕ → ℕ → B) (xs : List A) (i : ℕ) (x : A) (f : B)
    → Contains (after test make xs i x) f → (j : ℕ) × (f ≡ make i j)
unfolding each
made_after test make xs i x f h =
    let r = of_in_each (λ k y. found_if (test x y) (make i k)) (i + 1) (drop (i + 1) xs) f h in
    (r.place, (of_found_if (test x r.value) (make i r.place) f r.among).1)

pub Rises-pairs : {A B : Type 0} (R : B → B → Type 0) (test : A → A → Bool) (make : ℕ → ℕ → B)
    → ((i k l : ℕ) → k < l → R (make i k) (make i l))
    → ((i j k l : ℕ) → i < j → R (make i k) (make j l))
    → (xs : List A) → Rises R (pairs test make xs)
unfolding pairs
Rises-pairs {B = B} R test make second first xs =
    Rises-in_each R (after test make xs) (λ i x. Rises-each R (test x) (make i) (second i) (i + 1) (drop (i + 1) xs))
    (λ i j x y f g below in_i in_j.
    let a = made_after test make xs i x f in_i in
    let b = made_after test make xs j y g in_j in
    let P : B → Type 0 = λ u. R u g in
    let Q : B → Type 0 = λ v. R (make i a.0) v in
    subst P (sym a.1) (subst Q (sym b.1) (first i j a.0 b.0 below)))
    0 xs

-- The values that pass a test, by their places.
use Rattle.std.proofs.Common.{◌≡◌, ℕ, suc, ◌+◌, List, [], ◌∷◌, ◌++◌, Bool, true, false, ◌&&◌, cond, Option, Some, Contains, Decides, refl, sym, ◌∙◌, ap, subst}
use Rattle.std.proofs.Common.{arith}
use Rattle.std.specs.List.{find, position, position_from, slice_get}
use Rattle.std.proofs.lemmas.Iterator.Adapters.{position_from-zero}
use Rattle.j39_search.specs.ListPlaces.{ValueAt, each, found_if, in_each}
use Rattle.j39_search.proofs.Members.{each_of, of_each}
use Rattle.j39_vehicle_findings.specs.PassingPlaces.{passing}

pub of_passing : {A : Type 0} {test : A → Bool} (P : A → Type 0) → ((x : A) → Decides (test x) (P x)) → (xs : List A) (i : ℕ)
    → Contains (passing test xs) i → ValueAt P xs i
of_passing P decides xs i h =
    let found = of_each P decides (λ n. n) xs i h in
    subst (λ n. ValueAt P xs n) (sym found.1) found.2

pub passing_of : {A : Type 0} {test : A → Bool} (P : A → Type 0) → ((x : A) → Decides (test x) (P x)) → (xs : List A) (i : ℕ)
    → ValueAt P xs i → Contains (passing test xs) i
passing_of P decides xs i v = each_of P decides (λ n. n) xs i v

-- ---- the first of them that passes another test

find_behind : (passes : Bool) (later : ℕ → Bool) (i : ℕ) (b : Bool) (rest : List ℕ) (r : Option ℕ) → later i ≡ b → find later rest ≡ r
    → find later (found_if passes i ++ rest) ≡ cond (passes && b) (Some i) r
find_behind true later i b rest r here there = rw (here, there) refl
find_behind false later i b rest r here there = there

find_from : {A : Type 0} (test also : A → Bool) (at_place : ℕ → Bool) (i : ℕ) (xs : List A)
    → ((k : ℕ) (x : A) → slice_get xs k ≡ Some x → at_place (i + k) ≡ also x)
    → find at_place (each test (λ n. n) i xs) ≡ position_from (λ x. test x && also x) i xs
unfolding each in_each
find_from test also at_place i [] same = refl
find_from test also at_place i (x ∷ xs) same =
    let first : i ≡ i + 0 = omega arith in
    let here : at_place i ≡ also x = ap at_place first ∙ same 0 x refl in
    let later : (k : ℕ) → (i + 1) + k ≡ i + suc k = λ k. omega arith in
    find_behind (test x) at_place i (also x) _ _ here
    (find_from test also at_place (i + 1) xs (λ k y is. ap at_place (later k) ∙ same (suc k) y is))

-- the first place of a value that passes both is found among those of the values that pass one of the tests
pub find_passing : {A : Type 0} (test also : A → Bool) (at_place : ℕ → Bool) (xs : List A)
    → ((k : ℕ) (x : A) → slice_get xs k ≡ Some x → at_place k ≡ also x)
    → find at_place (passing test xs) ≡ position (λ x. test x && also x) xs
find_passing test also at_place xs same =
    let zeroth : (k : ℕ) → 0 + k ≡ k = λ k. omega arith in
    find_from test also at_place 0 xs (λ k x is. ap at_place (zeroth k) ∙ same k x is) ∙ sym (position_from-zero (λ x. test x && also x) xs)

-- Where there is something to add.
use Rattle.std.proofs.Common.{◌≡◌, ◌≢◌, ℕ, ◌+◌, ◌-◌, ◌<◌, List, [], ◌∷◌, ◌++◌, Bool, length, get_or, drop, Some, Contains}
use Rattle.std.proofs.Common.{Result, Ok, Err, IsErrAnd, append_assoc, refl, sym, ◌∙◌, ap, arith}
use Rattle.std.specs.declared.alloc.AllocError.{AllocError}
use Rattle.std.specs.List.{slice_get}
use Rattle.std.proofs.lemmas.Option.{slice_get-get_or}
use Rattle.j39_search.specs.Adding.{Adds}
use Rattle.j39_search.specs.ListPlaces.{in_each, each, pairs, found_if}
use Rattle.j39_search.proofs.Members.{in_each_of, behind}
use Rattle.j39_search.proofs.PlaceLemmas.{after, pairs_is}

pub some_left : {B : Type 0} (xs ys : List B) → xs ≢ [] → xs ++ ys ≢ []
some_left [] ys some = absurd (some refl)
some_left (x ∷ xs) ys some = λ none. cc

pub some_right : {B : Type 0} (xs ys : List B) → ys ≢ [] → xs ++ ys ≢ []
some_right [] ys some = some
some_right (x ∷ xs) ys some = λ none. cc

-- an answer for want of memory
pub refuses : {A B : Type 0} (Q : AllocError → Type 0) (r : Result A AllocError) (old new more : List B) → IsErrAnd r Q → more ≢ []
    → Adds r old new more
refuses Q (Ok done) old new more is some = absurd is
refuses Q (Err e) old new more is some = some

-- some are added, and then what the rest of the search adds
pub adds_behind : {A B : Type 0} (r : Result A AllocError) (old mid new more rest : List B)
    → mid ≡ old ++ more → Adds r mid new rest → Adds r old new (more ++ rest)
adds_behind (Ok done) old mid new more rest is adds = adds ∙ rw is (append_assoc old more rest)
adds_behind (Err e) old mid new more rest is adds = some_right more rest adds

some_in : {B : Type 0} (xs : List B) → xs ≢ [] → (x : B) × Contains xs x
some_in [] some = absurd (some refl)
some_in (x ∷ xs) some = (x, (0, omega arith, refl))

some_if_contains : {B : Type 0} (xs : List B) (x : B) → Contains xs x → xs ≢ []
some_if_contains [] x h = absurd (omega arith)
some_if_contains (y ∷ ys) x h = λ none. cc

-- what is found of one value is among what is found of all
some_found : {A B : Type 0} (find : ℕ → A → List B) (start : ℕ) (xs : List A) (k place : ℕ) (x : A)
    → place ≡ start + k → slice_get xs k ≡ Some x → find place x ≢ [] → in_each find start xs ≢ []
some_found find start xs k place x at is some =
    let f = some_in (find place x) some in
    some_if_contains _ f.0 (in_each_of find start xs f.0 k place x at is f.1)

stands_at : {A : Type 0} (xs : List A) (i : ℕ) (x : A) → i < length xs → x ≡ get_or xs i x → slice_get xs i ≡ Some x
stands_at xs i x less is = slice_get-get_or xs i x less ∙ ap Some (sym is)

pub some_in_each : {A B : Type 0} (find : ℕ → A → List B) (xs : List A) (i : ℕ) (x : A)
    → i < length xs → x ≡ get_or xs i x → find i x ≢ [] → in_each find 0 xs ≢ []
some_in_each find xs i x less is some = some_found find 0 xs i i x (omega arith) (stands_at xs i x less is) some

pub some_against : {A B : Type 0} (test : A → A → Bool) (make : ℕ → ℕ → B) (i : ℕ) (x : A) (xs : List A) (j : ℕ) (y : A)
    → i < j → j < length xs → y ≡ get_or xs j y → found_if (test x y) (make i j) ≢ [] → each (test x) (make i) (i + 1) (drop (i + 1) xs) ≢ []
unfolding each
some_against test make i x xs j y below less is some =
    let at : j ≡ i + 1 + (j - (i + 1)) = omega arith in
    some_found (λ k z. found_if (test x z) (make i k)) (i + 1) (drop (i + 1) xs) (j - (i + 1)) j y at
    (behind i (j - (i + 1)) j xs at ∙ stands_at xs j y less is) some

pub some_pair : {A B : Type 0} (test : A → A → Bool) (make : ℕ → ℕ → B) (xs : List A) (i : ℕ) (x : A)
    → i < length xs → x ≡ get_or xs i x → after test make xs i x ≢ [] → pairs test make xs ≢ []
some_pair test make xs i x less is some = rw (pairs_is test make xs) (some_in_each (after test make xs) xs i x less is some)

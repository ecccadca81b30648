-- Findings of a list, one value at a time.
use Rattle.std.proofs.Common.{◌≡◌, ℕ, ◌+◌, ◌<◌, ◌≤◌, List, [], ◌∷◌, ◌++◌, Bool, length, get_or, drop, append_assoc, refl, ap, ◌∙◌}
use Rattle.std.proofs.lemmas.List.{append-nil, drop_more, drop_all}
use Rattle.j39_search.specs.ListPlaces.{in_each, each, pairs, found_if}

pub in_each_more : {A B : Type 0} (find : ℕ → A → List B) (x : A) (i : ℕ) (xs : List A) (old : List B)
    → i < length xs → x ≡ get_or xs i x
    → (old ++ find i x) ++ in_each find (i + 1) (drop (i + 1) xs) ≡ old ++ in_each find i (drop i xs)
unfolding in_each
in_each_more find x i xs old more is = rw (drop_more xs i x more, ← is) (append_assoc old (find i x) (in_each find (i + 1) (drop (i + 1) xs)))

pub in_each_all : {A B : Type 0} (find : ℕ → A → List B) (i : ℕ) (xs : List A) (old : List B)
    → length xs ≤ i → old ++ in_each find i (drop i xs) ≡ old
unfolding in_each
in_each_all find i xs old none = rw (drop_all i xs none) (append-nil old)

pub each_more : {A B : Type 0} (test : A → Bool) (make : ℕ → B) (x : A) (i : ℕ) (xs : List A) (old : List B)
    → i < length xs → x ≡ get_or xs i x
    → (old ++ found_if (test x) (make i)) ++ each test make (i + 1) (drop (i + 1) xs) ≡ old ++ each test make i (drop i xs)
unfolding each
each_more test make = in_each_more (λ k x. found_if (test x) (make k))

pub each_all : {A B : Type 0} (test : A → Bool) (make : ℕ → B) (i : ℕ) (xs : List A) (old : List B)
    → length xs ≤ i → old ++ each test make i (drop i xs) ≡ old
unfolding each
each_all test make = in_each_all (λ k x. found_if (test x) (make k))

-- what is found of the pairs whose first place is i
abbrev pub after : {A B : Type 0} → (A → A → Bool) → (ℕ → ℕ → B) → List A → ℕ → A → List B
after test make xs i x = each (test x) (make i) (i + 1) (drop (i + 1) xs)

pub pairs_is : {A B : Type 0} (test : A → A → Bool) (make : ℕ → ℕ → B) (xs : List A)
    → pairs test make xs ≡ in_each (after test make xs) 0 xs
unfolding pairs
pairs_is test make xs = refl

-- by tests that agree the same is found
pub each_same : {A B : Type 0} (f g : A → Bool) → ((x : A) → g x ≡ f x) → (make : ℕ → B) → (i : ℕ) (xs : List A) → each g make i xs ≡ each f make i xs
unfolding each in_each
each_same f g same make i [] = refl
each_same f g same make i (x ∷ xs) =
    ap (λ b. found_if b (make i) ++ each g make (i + 1) xs) (same x) ∙ ap (λ b. found_if (f x) (make i) ++ b) (each_same f g same make (i + 1) xs)

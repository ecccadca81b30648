-- Values of a list by their places, and what is found of them.
use Rattle.std.specs.Prelude.{◌≡◌, ◌⊎◌, ℕ, ◌+◌, ◌<◌, List, [], ◌∷◌, ◌++◌, Bool, Some, if◌then◌else◌, drop}
use Rattle.std.specs.List.{slice_get}

-- the value at a place of the list meets P
pub record ValueAt {A : Type 0} (P : A → Type 0) (xs : List A) (i : ℕ) : Type 0 where
  pub value : A
  pub value_is : slice_get xs i ≡ Some value
  pub meets : P value

-- the values at two places of the list, the first below the second, stand in the relation R
pub record PairAt {A : Type 0} (R : A → A → Type 0) (xs : List A) (i j : ℕ) : Type 0 where
  pub first : A
  pub second : A
  pub below : i < j
  pub first_is : slice_get xs i ≡ Some first
  pub second_is : slice_get xs j ≡ Some second
  pub related : R first second

-- some value of the list meets P
abbrev pub SomeMeets : {A : Type 0} → (A → Type 0) → List A → Type 0
SomeMeets P xs = (i : ℕ) × ValueAt P xs i

-- so many values of the list meet P
abbrev pub SoManyMeet : {A : Type 0} → (A → Type 0) → List A → ℕ → Type 0
SoManyMeet P [] n = n ≡ 0
SoManyMeet P (x ∷ xs) n = (P x × ((m : ℕ) × (n ≡ m + 1) × SoManyMeet P xs m)) ⊎ ((¬ P x) × SoManyMeet P xs n)

abbrev pub found_if : {B : Type 0} → Bool → B → List B
found_if holds finding = if holds then finding ∷ [] else []

-- what is found of each value of the list, whose first value is at place i
unfoldable pub in_each : {A B : Type 0} → (ℕ → A → List B) → ℕ → List A → List B
in_each find i [] = []
in_each find i (x ∷ xs) = find i x ++ in_each find (i + 1) xs

-- a finding for each value that passes the test
unfoldable pub each : {A B : Type 0} → (A → Bool) → (ℕ → B) → ℕ → List A → List B
each test make i xs = in_each (λ k x. found_if (test x) (make k)) i xs

-- a finding for each two places, the first below the second, whose values pass the test
unfoldable pub pairs : {A B : Type 0} → (A → A → Bool) → (ℕ → ℕ → B) → List A → List B
pairs test make xs = in_each (λ i x. each (test x) (make i) (i + 1) (drop (i + 1) xs)) 0 xs

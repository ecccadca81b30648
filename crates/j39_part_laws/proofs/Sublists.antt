-- Some values of a list, in its order, as what is left of both lists.
use Rattle.std.proofs.Common.{◌≡◌, ℕ, zero, suc, ◌+◌, ◌-◌, ◌<◌, ◌≤◌, ◌⊎◌, List, [], ◌∷◌, ◌++◌, map, Option, Some, None, refl, sym, subst, inl, inr, arith}
use Rattle.std.specs.List.{cons_option, filter_map, slice_get}
use Rattle.std.proofs.lemmas.Option.{none-some, same_Some}
use Rattle.j39_load.specs.LineLists.{lines_of_each}
use Rattle.j39_search.specs.ListPlaces.{SoManyMeet, ValueAt}
use Rattle.j39_part_laws.specs.PlanParts.{AreSome}
use Rattle.j39_part_laws.specs.Sublists.{IsSub}
use Rattle.j39_part_laws.proofs.Places.{no_value}

behind : {B : Type 0} (y : B) (ys : List B) (n : ℕ) (v : B) → 0 < n → slice_get (y ∷ ys) n ≡ Some v → slice_get ys (n - 1) ≡ Some v
behind y ys zero v more at = absurd (omega (arith, more))
behind y ys (suc n) v more at = let before : n ≡ suc n - 1 = omega arith in subst (λ m. slice_get ys m ≡ Some v) before at

pub sub_of : {A B : Type 0} (R : A → B → Type 0) → (xs : List A) (ys : List B) (place : ℕ → ℕ) → ((i j : ℕ) → i < j → place i < place j)
    → ((i : ℕ) (x : A) → slice_get xs i ≡ Some x → ValueAt (R x) ys (place i)) → IsSub R xs ys
sub_of R [] ys place rises each = tt
sub_of R (x ∷ xs) [] place rises each = let there = each 0 x refl in absurd (no_value (place 0) there.value there.value_is)
sub_of {B = B} R (x ∷ xs) (y ∷ ys) place rises each = first (place 0) refl
    (λ here. sub_of R xs ys (λ i. place (suc i) - 1)
    (λ i j below. let more = rises 0 (suc i) (omega arith) in let rise = rises (suc i) (suc j) (omega (arith, below)) in omega (arith, more, rise))
    (λ i w at. let more = rises 0 (suc i) (omega arith) in let its = each (suc i) w at in
    record { value = its.value; value_is = behind y ys (place (suc i)) its.value (omega (arith, more)) its.value_is; meets = its.meets }))
    (λ later. sub_of R (x ∷ xs) ys (λ i. place i - 1)
    (λ i j below. let low = at_least i later in let rise = rises i j below in omega (arith, low, rise))
    (λ i w at. let low = at_least i later in let its = each i w at in
    record { value = its.value; value_is = behind y ys (place i) its.value low its.value_is; meets = its.meets }))
  where
    at_least : (i : ℕ) → 0 < place 0 → 0 < place i
    at_least zero later = later
    at_least (suc i) later = let rise = rises 0 (suc i) (omega arith) in omega (arith, rise)

    some_same : {v w : B} → Some v ≡ Some w → v ≡ w
    some_same same = cc

    first : (n : ℕ) → place 0 ≡ n → (place 0 ≡ 0 → IsSub R xs ys) → (0 < place 0 → IsSub R (x ∷ xs) ys) → IsSub R (x ∷ xs) (y ∷ ys)
    first zero here rest others =
        let there : ValueAt (R x) (y ∷ ys) zero = subst (ValueAt (R x) (y ∷ ys)) here (each 0 x refl) in
        let same : y ≡ there.value = some_same there.value_is in
        inl (subst (R x) (sym same) there.meets, rest here)
    first (suc n) later rest others = inr (others (omega (arith, later)))

pub sub_of_some : {A : Type 0} (place : ℕ → ℕ) (Stands : A → A → Type 0) (some all : List A) → AreSome place Stands some all → IsSub Stands some all
sub_of_some place Stands some all are = sub_of Stands some all place are.rises are.each

-- of the second at least as many meet P
pub more_meet : {A B : Type 0} (R : A → B → Type 0) (P : A → Type 0) (Q : B → Type 0) → ((x : A) (y : B) → R x y → P x → Q y)
    → ((y : B) → Q y ⊎ ¬ Q y) → (xs : List A) (ys : List B) → IsSub R xs ys → (m : ℕ) → SoManyMeet P xs m
    → (n : ℕ) × (m ≤ n) × SoManyMeet Q ys n
more_meet R P Q over report [] [] sub m many = (0, omega (arith, many), refl)
more_meet R P Q over report [] (y ∷ ys) sub m many =
    let rest = more_meet R P Q over report [] ys tt m many in
    elim (report y) [
      | inl meets ↦ let below = rest.1 in (rest.0 + 1, omega (arith, below), inl (meets, (rest.0, refl, rest.2)))
      | inr fails ↦ (rest.0, rest.1, inr (fails, rest.2))
    ]
more_meet R P Q over report (x ∷ xs) [] sub m many = absurd sub
more_meet R P Q over report (x ∷ xs) (y ∷ ys) (inr later) m many =
    let rest = more_meet R P Q over report (x ∷ xs) ys later m many in
    elim (report y) [
      | inl meets ↦ let below = rest.1 in (rest.0 + 1, omega (arith, below), inl (meets, (rest.0, refl, rest.2)))
      | inr fails ↦ (rest.0, rest.1, inr (fails, rest.2))
    ]
more_meet R P Q over report (x ∷ xs) (y ∷ ys) (inl (stands, left)) m (inl (meets, (k, one_more, many))) =
    let rest = more_meet R P Q over report xs ys left k many in
    let below = rest.1 in
    (rest.0 + 1, omega (arith, below, one_more), inl (over x y stands meets, (rest.0, refl, rest.2)))
more_meet R P Q over report (x ∷ xs) (y ∷ ys) (inl (stands, left)) m (inr (none, many)) =
    let rest = more_meet R P Q over report xs ys left m many in
    elim (report y) [
      | inl meets ↦ let below = rest.1 in (rest.0 + 1, omega (arith, below), inl (meets, (rest.0, refl, rest.2)))
      | inr fails ↦ (rest.0, rest.1, inr (fails, rest.2))
    ]

-- ---- what follows from both lists

module _ {A B : Type 0} (R : A → B → Type 0) where
  pub sub_behind : (bs : List B) (xs : List A) (ys : List B) → IsSub R xs ys → IsSub R xs (bs ++ ys)
  sub_behind [] xs ys sub = sub
  sub_behind (b ∷ bs) [] ys sub = tt
  sub_behind (b ∷ bs) (x ∷ xs) ys sub = inr (sub_behind bs (x ∷ xs) ys sub)

  pub sub_append : (cs : List A) (bs : List B) (xs : List A) (ys : List B) → IsSub R cs bs → IsSub R xs ys → IsSub R (cs ++ xs) (bs ++ ys)
  sub_append [] bs xs ys front back = sub_behind bs xs ys back
  sub_append (c ∷ cs) [] xs ys front back = absurd front
  sub_append (c ∷ cs) (b ∷ bs) xs ys (inl (stands, left)) back = inl (stands, sub_append cs bs xs ys left back)
  sub_append (c ∷ cs) (b ∷ bs) xs ys (inr later) back = inr (sub_append (c ∷ cs) bs xs ys later back)

  pub sub_option : (o : Option A) (q : Option B) (xs : List A) (ys : List B) → IsSub R xs ys
      → ((x : A) → o ≡ Some x → (y : B) × (q ≡ Some y) × R x y) → IsSub R (cons_option o xs) (cons_option q ys)
  sub_option None None xs ys sub each = sub
  sub_option None (Some y) xs ys sub each = sub_behind (y ∷ []) xs ys sub
  sub_option (Some x) None xs ys sub each = absurd (none-some _ ((each x refl).1))
  sub_option (Some x) (Some y) xs ys sub each =
      let (z, is, stands) = each x refl in
      inl (subst (R x) (sym (same_Some y z is)) stands, sub)

pub sub_filter : {A B C D : Type 0} (R : A → B → Type 0) (S : C → D → Type 0) (f : A → Option C) (g : B → Option D)
    → ((x : A) (y : B) → R x y → (c : C) → f x ≡ Some c → (d : D) × (g y ≡ Some d) × S c d)
    → (xs : List A) (ys : List B) → IsSub R xs ys → IsSub S (filter_map f xs) (filter_map g ys)
sub_filter R S f g over [] ys sub = tt
sub_filter R S f g over (x ∷ xs) [] sub = absurd sub
sub_filter R S f g over (x ∷ xs) (y ∷ ys) (inl (stands, left)) =
    sub_option S (f x) (g y) (filter_map f xs) (filter_map g ys) (sub_filter R S f g over xs ys left) (over x y stands)
sub_filter {C = C} R S f g over (x ∷ xs) (y ∷ ys) (inr later) =
    sub_option S None (g y) (filter_map f (x ∷ xs)) (filter_map g ys) (sub_filter R S f g over (x ∷ xs) ys later) (λ c is. absurd (none-some c is))

pub sub_map : {A B C D : Type 0} (R : A → B → Type 0) (S : C → D → Type 0) (f : A → C) (g : B → D)
    → ((x : A) (y : B) → R x y → S (f x) (g y)) → (xs : List A) (ys : List B) → IsSub R xs ys → IsSub S (map f xs) (map g ys)
sub_map R S f g over [] ys sub = tt
sub_map R S f g over (x ∷ xs) [] sub = absurd sub
sub_map R S f g over (x ∷ xs) (y ∷ ys) (inl (stands, left)) = inl (over x y stands, sub_map R S f g over xs ys left)
sub_map R S f g over (x ∷ xs) (y ∷ ys) (inr later) = inr (sub_map R S f g over (x ∷ xs) ys later)

pub sub_over : {A B : Type 0} (R S : A → B → Type 0) → ((x : A) (y : B) → R x y → S x y) → (xs : List A) (ys : List B) → IsSub R xs ys → IsSub S xs ys
sub_over R S over [] ys sub = tt
sub_over R S over (x ∷ xs) [] sub = absurd sub
sub_over R S over (x ∷ xs) (y ∷ ys) (inl (stands, left)) = inl (over x y stands, sub_over R S over xs ys left)
sub_over R S over (x ∷ xs) (y ∷ ys) (inr later) = inr (sub_over R S over (x ∷ xs) ys later)

pub sub_same : {A : Type 0} (R : A → A → Type 0) → (xs : List A) → ((i : ℕ) (x : A) → slice_get xs i ≡ Some x → R x x) → IsSub R xs xs
sub_same R [] each = tt
sub_same R (x ∷ xs) each = inl (each 0 x refl, sub_same R xs (λ i y at. each (suc i) y at))

-- what is reported of each, by its place
pub sub_lines : {A B C D : Type 0} (S : C → D → Type 0) (report : ℕ → A → List C) (reported : ℕ → B → List D) (xs : List A) (ys : List B) (place : ℕ → ℕ)
    (d e : ℕ)
    → ((i j : ℕ) → i < j → place i < place j)
    → ((i : ℕ) (x : A) → slice_get xs i ≡ Some x → ValueAt (λ y. IsSub S (report (d + i) x) (reported (e + place i) y)) ys (place i))
    → IsSub S (lines_of_each report d xs) (lines_of_each reported e ys)
unfolding lines_of_each
sub_lines S report reported [] ys place d e rises each = tt
sub_lines S report reported (x ∷ xs) [] place d e rises each = let there = each 0 x refl in absurd (no_value (place 0) there.value there.value_is)
sub_lines {B = B} S report reported (x ∷ xs) (y ∷ ys) place d e rises each = first (place 0) refl
    (λ here. sub_lines S report reported xs ys (λ i. place (suc i) - 1) (d + 1) (e + 1)
    (λ i j below. let more = rises 0 (suc i) (omega arith) in let rise = rises (suc i) (suc j) (omega (arith, below)) in omega (arith, more, rise))
    (λ i w at. let more = rises 0 (suc i) (omega arith) in let its = each (suc i) w at in
    let near : d + suc i ≡ d + 1 + i = omega arith in
    let far : e + place (suc i) ≡ e + 1 + (place (suc i) - 1) = omega (arith, more) in
    record {
      value = its.value;
      value_is = behind y ys (place (suc i)) its.value (omega (arith, more)) its.value_is;
      meets = subst (λ k. IsSub S (report k w) (reported (e + 1 + (place (suc i) - 1)) its.value)) near
          (subst (λ k. IsSub S (report (d + suc i) w) (reported k its.value)) far its.meets);
    }))
    (λ later. sub_lines S report reported (x ∷ xs) ys (λ i. place i - 1) d (e + 1)
    (λ i j below. let low = at_least i later in let rise = rises i j below in omega (arith, low, rise))
    (λ i w at. let low = at_least i later in let its = each i w at in
    let far : e + place i ≡ e + 1 + (place i - 1) = omega (arith, low) in
    record {
      value = its.value;
      value_is = behind y ys (place i) its.value low its.value_is;
      meets = subst (λ k. IsSub S (report (d + i) w) (reported k its.value)) far its.meets;
    }))
  where
    at_least : (i : ℕ) → 0 < place 0 → 0 < place i
    at_least zero later = later
    at_least (suc i) later = let rise = rises 0 (suc i) (omega arith) in omega (arith, rise)

    some_same : {v w : B} → Some v ≡ Some w → v ≡ w
    some_same same = cc

    first : (n : ℕ) → place 0 ≡ n
        → (place 0 ≡ 0 → IsSub S (lines_of_each report (d + 1) xs) (lines_of_each reported (e + 1) ys))
        → (0 < place 0 → IsSub S (report d x ++ lines_of_each report (d + 1) xs) (lines_of_each reported (e + 1) ys))
        → IsSub S (report d x ++ lines_of_each report (d + 1) xs) (reported e y ++ lines_of_each reported (e + 1) ys)
    first zero here rest others =
        let there : ValueAt (λ z. IsSub S (report (d + 0) x) (reported (e + zero) z)) (y ∷ ys) zero =
        subst (λ k. ValueAt (λ z. IsSub S (report (d + 0) x) (reported (e + k) z)) (y ∷ ys) k) here (each 0 x refl) in
        let same : y ≡ there.value = some_same there.value_is in
        let near : d + 0 ≡ d = omega arith in
        let far : e + 0 ≡ e = omega arith in
        sub_append S (report d x) (reported e y) (lines_of_each report (d + 1) xs) (lines_of_each reported (e + 1) ys)
        (subst (λ k. IsSub S (report k x) (reported e y)) near (subst (λ k. IsSub S (report (d + 0) x) (reported k y)) far
        (subst (λ z. IsSub S (report (d + 0) x) (reported (e + 0) z)) (sym same) there.meets))) (rest here)
    first (suc n) later rest others =
        sub_behind S (reported e y) (report d x ++ lines_of_each report (d + 1) xs) (lines_of_each reported (e + 1) ys) (others (omega (arith, later)))

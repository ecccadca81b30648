-- Values of lists by their places.
use Rattle.std.proofs.Common.{◌≡◌, ℕ, zero, suc, ◌+◌, ◌<◌, ◌≤◌, List, [], ◌∷◌, length, Bool, true, false, Option, Some, None, All, sym, refl, ap, ◌∙◌, subst}
use Rattle.std.proofs.Common.{arith}
use Rattle.std.specs.Prelude.{cond}
use Rattle.std.specs.List.{count_by, position, slice_get}
use Rattle.std.specs.Option.{option_and_then, option_map, option_map_or}
use Rattle.std.proofs.lemmas.Bool.{false≢true}
use Rattle.std.proofs.lemmas.List.Elements.{All-get_or}
use Rattle.std.proofs.lemmas.List.Quantifiers.{position-Some}
use Rattle.std.proofs.lemmas.List.Sums.{sum_by-cons}
use Rattle.std.proofs.lemmas.Option.{get_or_from_slice_get, none-some, same_Some, slice_get_within}

pub value_within : {A : Type 0} (xs : List A) (i : ℕ) → i < length xs → (x : A) × (slice_get xs i ≡ Some x)
value_within [] i less = absurd (omega arith)
value_within (x ∷ xs) zero less = (x, refl)
value_within (x ∷ xs) (suc i) less = value_within xs i (omega arith)

pub one_of_all : {A : Type 0} (P : A → Type 0) (xs : List A) (i : ℕ) (x : A) → All P xs → slice_get xs i ≡ Some x → P x
one_of_all P xs i x all is = subst P (get_or_from_slice_get xs i x x is) (All-get_or P xs i x (slice_get_within xs i x is) all)

-- the value at the first place that passes a test passes it
pub position_at : {A : Type 0} (test : A → Bool) (xs : List A) (i : ℕ) → position test xs ≡ Some i
    → (x : A) × (slice_get xs i ≡ Some x) × (test x ≡ true)
position_at test [] i is = absurd cc
position_at test (x ∷ xs) i is =
    let first = position-Some test (x ∷ xs) i x is in
    let (y, y_is) = value_within (x ∷ xs) i first.0 in
    (y, y_is, sym (ap test (get_or_from_slice_get (x ∷ xs) i y x y_is)) ∙ first.1)

-- ---- one value alone passes a test

abbrev weight : Bool → ℕ
weight passes = cond passes 1 0

counted : {A : Type 0} (test : A → Bool) (xs : List A) (i : ℕ) (x : A) → slice_get xs i ≡ Some x → test x ≡ true → 1 ≤ count_by test xs
counted test [] i x is passes = absurd (none-some _ is)
counted test (y ∷ ys) zero x is passes =
    let sums : count_by test (y ∷ ys) ≡ weight (test y) + count_by test ys = sum_by-cons (λ z. weight (test z)) y ys in
    let one : weight (test y) ≡ 1 = ap weight (ap test (same_Some _ _ is) ∙ passes) in
    omega (arith, sums, one)
counted test (y ∷ ys) (suc i) x is passes =
    let sums : count_by test (y ∷ ys) ≡ weight (test y) + count_by test ys = sum_by-cons (λ z. weight (test z)) y ys in
    let more = counted test ys i x is passes in
    omega (arith, sums, more)

pub one_passes : {A : Type 0} (test : A → Bool) (xs : List A) (i j : ℕ) (x y : A) → count_by test xs ≤ 1
    → slice_get xs i ≡ Some x → slice_get xs j ≡ Some y → test x ≡ true → test y ≡ true → i ≡ j
one_passes test [] i j x y most x_is y_is first second = absurd (none-some _ x_is)
one_passes test (z ∷ zs) zero zero x y most x_is y_is first second = refl
one_passes test (z ∷ zs) zero (suc j) x y most x_is y_is first second =
    let sums : count_by test (z ∷ zs) ≡ weight (test z) + count_by test zs = sum_by-cons (λ u. weight (test u)) z zs in
    let one : weight (test z) ≡ 1 = ap weight (ap test (same_Some _ _ x_is) ∙ first) in
    let more = counted test zs j y y_is second in
    absurd (omega (arith, sums, one, more, most))
one_passes test (z ∷ zs) (suc i) zero x y most x_is y_is first second =
    let sums : count_by test (z ∷ zs) ≡ weight (test z) + count_by test zs = sum_by-cons (λ u. weight (test u)) z zs in
    let one : weight (test z) ≡ 1 = ap weight (ap test (same_Some _ _ y_is) ∙ second) in
    let more = counted test zs i x x_is first in
    absurd (omega (arith, sums, one, more, most))
one_passes test (z ∷ zs) (suc i) (suc j) x y most x_is y_is first second =
    let sums : count_by test (z ∷ zs) ≡ weight (test z) + count_by test zs = sum_by-cons (λ u. weight (test u)) z zs in
    ap suc (one_passes test zs i j x y (omega (arith, sums, most)) x_is y_is first second)

-- ---- options

-- what is Some behind a first part that is
pub parts_of : {A B : Type 0} (f : A → Option B) (o : Option A) (y : B) → option_and_then f o ≡ Some y → (x : A) × (o ≡ Some x) × (f x ≡ Some y)
parts_of f None y is = absurd (none-some _ is)
parts_of f (Some x) y is = (x, refl, is)

pub mapped_of : {A B : Type 0} (f : A → B) (o : Option A) (y : B) → option_map f o ≡ Some y → (x : A) × (o ≡ Some x) × (f x ≡ y)
mapped_of f None y is = absurd (none-some _ is)
mapped_of f (Some x) y is = (x, refl, same_Some _ _ is)

-- what passes a test that nothing fails
pub passed_of : {A : Type 0} (test : A → Bool) (o : Option A) → option_map_or test o false ≡ true → (x : A) × (o ≡ Some x) × (test x ≡ true)
passed_of test None is = absurd (false≢true is)
passed_of test (Some x) is = (x, refl, is)

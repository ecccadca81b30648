-- Which conditions are met.
use Rattle.std.proofs.Common.{◌≡◌, ℕ, zero, suc, ◌+◌, ◌<◌, Bool, true, false, ◌&&◌, ◌||◌, if◌then◌else◌, List, [], ◌∷◌, Option, Some, None, refl, sym, ◌∙◌, ap}
use Rattle.std.proofs.Common.{subst, inl, inr, arith}
use Rattle.std.specs.List.{list_any, range_with_len, slice_get}
use Rattle.std.specs.Option.{option_map_or}
use Rattle.std.proofs.lemmas.Bool.{and_from, and_parts, cases_Bool, false≢true, or_cases, or_left, or_right}
use Rattle.std.proofs.lemmas.List.Folds.{list_any-append}
use Rattle.std.proofs.lemmas.Option.{same_Some}
use Rattle.j39_load.specs.LineLists.{lines_of_each}
use Rattle.j39_part_laws.proofs.Places.{no_value}
use Rattle.j39_line_findings.specs.Conditions.{are_there, is_part_there, meets_any, where_together}
use Rattle.j39_line_findings.specs.declared.part.LinePart.{LinePart}
use Rattle.j39_line_findings.proofs.Tests.{at_any}
use Rattle.j39_variants.specs.declared.line.ProductLine.{ProductLine}

-- ---- tests of all that is reported of a list

-- a line that is reported of a value passes
pub record IsPassed {X Y : Type 0} (test : Y → Bool) (report : ℕ → X → List Y) (place : ℕ) (xs : List X) : Type 0 where
  pub k : ℕ
  pub value : X
  pub value_is : slice_get xs k ≡ Some value
  pub passes : list_any test (report (place + k) value) ≡ true

pub any_line : {X Y : Type 0} (test : Y → Bool) (report : ℕ → X → List Y) (place : ℕ) (xs : List X) → list_any test (lines_of_each report place xs) ≡ true
    → IsPassed test report place xs
unfolding lines_of_each
any_line test report place [] some = absurd (false≢true some)
any_line test report place (x ∷ xs) some = elim (or_cases (list_any test (report place x)) (list_any test (lines_of_each report (place + 1) xs))
    (sym (list_any-append test (report place x) (lines_of_each report (place + 1) xs)) ∙ some)) [
      | inl here ↦
          let same : place ≡ place + 0 = omega arith in
          record { k = 0; value = x; value_is = refl; passes = subst (λ n. list_any test (report n x) ≡ true) same here }
      | inr later ↦
          let its = any_line test report (place + 1) xs later in
          let same : place + 1 + its.k ≡ place + suc its.k = omega arith in
          record { k = suc its.k; value = its.value; value_is = its.value_is; passes = subst (λ n. list_any test (report n its.value) ≡ true) same its.passes }
    ]

pub line_any : {X Y : Type 0} (test : Y → Bool) (report : ℕ → X → List Y) (place : ℕ) (xs : List X) (k : ℕ) (x : X) → slice_get xs k ≡ Some x
    → list_any test (report (place + k) x) ≡ true → list_any test (lines_of_each report place xs) ≡ true
unfolding lines_of_each
line_any test report place [] k x at passes = absurd (no_value k x at)
line_any test report place (y ∷ ys) zero x at passes =
    let same : place + 0 ≡ place = omega arith in
    list_any-append test (report place y) (lines_of_each report (place + 1) ys)
    ∙ or_left (list_any test (report place y)) (list_any test (lines_of_each report (place + 1) ys))
    (subst (λ z. list_any test (report place z) ≡ true) (sym (same_Some y x at)) (subst (λ n. list_any test (report n x) ≡ true) same passes))
line_any test report place (y ∷ ys) (suc k) x at passes =
    let same : place + suc k ≡ place + 1 + k = omega arith in
    list_any-append test (report place y) (lines_of_each report (place + 1) ys)
    ∙ or_right (list_any test (report place y)) (list_any test (lines_of_each report (place + 1) ys))
    (line_any test report (place + 1) ys k x at (subst (λ n. list_any test (report n x) ≡ true) same passes))

-- of a list from the first place on
pub record IsPassedAt {X Y : Type 0} (test : Y → Bool) (report : ℕ → X → List Y) (xs : List X) : Type 0 where
  pub place : ℕ
  pub value : X
  pub value_is : slice_get xs place ≡ Some value
  pub passes : list_any test (report place value) ≡ true

pub passed_at : {X Y : Type 0} (test : Y → Bool) (report : ℕ → X → List Y) (xs : List X) → list_any test (lines_of_each report 0 xs) ≡ true
    → IsPassedAt test report xs
passed_at test report xs some =
    let its = any_line test report 0 xs some in
    let same : 0 + its.k ≡ its.k = omega arith in
    record { place = its.k; value = its.value; value_is = its.value_is; passes = subst (λ n. list_any test (report n its.value) ≡ true) same its.passes }

pub at_passed : {X Y : Type 0} (test : Y → Bool) (report : ℕ → X → List Y) (xs : List X) (k : ℕ) (x : X) → slice_get xs k ≡ Some x
    → list_any test (report k x) ≡ true → list_any test (lines_of_each report 0 xs) ≡ true
at_passed test report xs k x at passes =
    let same : k ≡ 0 + k = omega arith in
    line_any test report 0 xs k x at (subst (λ n. list_any test (report n x) ≡ true) same passes)

-- where something is reported in one case alone
pub of_if : {Y : Type 0} (test : Y → Bool) (b : Bool) (ys : List Y) → list_any test (if b then ys else []) ≡ true → (b ≡ true) × (list_any test ys ≡ true)
of_if test true ys some = (refl, some)
of_if test false ys some = absurd (false≢true some)

pub if_of : {Y : Type 0} (test : Y → Bool) (b : Bool) (ys : List Y) → b ≡ true → list_any test ys ≡ true → list_any test (if b then ys else []) ≡ true
if_of test b ys is some = subst (λ c. list_any test (if c then ys else []) ≡ true) (sym is) some

-- or of a value, where there is one
pub record IsOfSome {X Y : Type 0} (test : Y → Bool) (report : X → List Y) (o : Option X) : Type 0 where
  pub value : X
  pub value_is : o ≡ Some value
  pub passes : list_any test (report value) ≡ true

pub of_some : {X Y : Type 0} (test : Y → Bool) (report : X → List Y) (o : Option X) → list_any test (option_map_or report o []) ≡ true → IsOfSome test report o
of_some test report None none = absurd (false≢true none)
of_some test report (Some x) some = record { value = x; value_is = refl; passes = some }

pub some_of : {X Y : Type 0} (test : Y → Bool) (report : X → List Y) (o : Option X) (x : X) → o ≡ Some x → list_any test (report x) ≡ true
    → list_any test (option_map_or report o []) ≡ true
some_of test report o x is passes = subst (λ p. list_any test (option_map_or report p []) ≡ true) (sym is) passes

-- ---- places below a number

pub in_range : (n a k : ℕ) → k < n → slice_get (range_with_len a n) k ≡ Some (a + k)
in_range zero a k below = absurd (omega (arith, below))
in_range (suc n) a zero below = let e : a ≡ a + 0 = omega arith in ap Some e
in_range (suc n) a (suc k) below = let e : a + 1 + k ≡ a + suc k = omega arith in in_range n (a + 1) k (omega (arith, below)) ∙ ap Some e

pub range_any : (test : ℕ → Bool) (n k : ℕ) → k < n → test k ≡ true → list_any test (range_with_len 0 n) ≡ true
range_any test n k below passes =
    let e : k ≡ 0 + k = omega arith in
    at_any test (range_with_len 0 n) k (0 + k) (in_range n 0 k below) (subst (λ m. test m ≡ true) e passes)

pub range_none : (test : ℕ → Bool) (n : ℕ) → list_any test (range_with_len 0 n) ≡ false → (k : ℕ) → k < n → test k ≡ false
range_none test n none k below = elim (cases_Bool (test k)) [
  | inl passes ↦ absurd (false≢true (sym none ∙ range_any test n k below passes))
  | inr fails ↦ fails
]

-- ---- parts that are there together

module _ (line : ProductLine) (v : List ℕ) where
  together : (b : Bool) → ((b && true) || false) ≡ b
  together true = refl
  together false = refl

  pub parts_met : (parts : List LinePart) → are_there line v parts ≡ true → meets_any line v (where_together parts) ≡ true
  parts_met parts all = together (are_there line v parts) ∙ all

  pub met_parts : (parts : List LinePart) → meets_any line v (where_together parts) ≡ true → are_there line v parts ≡ true
  met_parts parts met = sym (together (are_there line v parts)) ∙ met

  pub one_met : (p : LinePart) → is_part_there line v p ≡ true → meets_any line v (where_together (p ∷ [])) ≡ true
  one_met p first = parts_met (p ∷ []) (and_from (is_part_there line v p) true first refl)

  pub met_one : (p : LinePart) → meets_any line v (where_together (p ∷ [])) ≡ true → is_part_there line v p ≡ true
  met_one p met = (and_parts (is_part_there line v p) true (met_parts (p ∷ []) met)).0

  pub both_met : (p q : LinePart) → is_part_there line v p ≡ true → is_part_there line v q ≡ true → meets_any line v (where_together (p ∷ q ∷ [])) ≡ true
  both_met p q first second = parts_met (p ∷ q ∷ [])
      (and_from (is_part_there line v p) (is_part_there line v q && true) first (and_from (is_part_there line v q) true second refl))

  pub met_both : (p q : LinePart) → meets_any line v (where_together (p ∷ q ∷ [])) ≡ true → (is_part_there line v p ≡ true) × (is_part_there line v q ≡ true)
  met_both p q met =
      let (first, rest) = and_parts (is_part_there line v p) (is_part_there line v q && true) (met_parts (p ∷ q ∷ []) met) in
      (first, (and_parts (is_part_there line v q) true rest).0)

  pub four_met : (p q r s : LinePart) → is_part_there line v p ≡ true → is_part_there line v q ≡ true → is_part_there line v r ≡ true
      → is_part_there line v s ≡ true
      → meets_any line v (where_together (p ∷ q ∷ r ∷ s ∷ [])) ≡ true
  four_met p q r s first second third fourth = parts_met (p ∷ q ∷ r ∷ s ∷ [])
      (and_from (is_part_there line v p) (are_there line v (q ∷ r ∷ s ∷ [])) first
      (and_from (is_part_there line v q) (are_there line v (r ∷ s ∷ [])) second
      (and_from (is_part_there line v r) (are_there line v (s ∷ [])) third (and_from (is_part_there line v s) true fourth refl))))

  pub met_four : (p q r s : LinePart) → meets_any line v (where_together (p ∷ q ∷ r ∷ s ∷ [])) ≡ true
      → (is_part_there line v p ≡ true) × (is_part_there line v q ≡ true) × (is_part_there line v r ≡ true) × (is_part_there line v s ≡ true)
  met_four p q r s met =
      let (first, behind) = and_parts (is_part_there line v p) (are_there line v (q ∷ r ∷ s ∷ [])) (met_parts (p ∷ q ∷ r ∷ s ∷ []) met) in
      let (second, rest) = and_parts (is_part_there line v q) (are_there line v (r ∷ s ∷ [])) behind in
      let (third, last) = and_parts (is_part_there line v r) (are_there line v (s ∷ [])) rest in
      (first, second, third, (and_parts (is_part_there line v s) true last).0)

-- A variant that takes the same as another one of each choice that counts in a condition meets it if the other one does.
use Rattle.std.proofs.Common.{◌≡◌, ℕ, zero, suc, ◌+◌, ◌<◌, Bool, true, false, not, ◌&&◌, ◌||◌, if◌then◌else◌, List, [], ◌∷◌, ◌++◌, length, map, Some, unwrap_or}
use Rattle.std.proofs.Common.{refl, sym, ◌∙◌, ap, subst, inl, inr, arith}
use Rattle.std.specs.List.{list_all, list_any, range_with_len, slice_get}
use Rattle.std.proofs.lemmas.Bool.{and_from, and_parts, cases_Bool, false≢true, not-true, not_from_false, or_cases, or_parts, true≢false}
use Rattle.std.proofs.lemmas.List.Folds.{list_all-append, list_any-append}
use Rattle.std.proofs.lemmas.Option.{none-some, same_Some}
use Rattle.j39_load.specs.LineLists.{lines_of_each}
use Rattle.j39_part_laws.proofs.Places.{no_value}
use Rattle.j39_variants.specs.VariantPlans.{flag_at}
use Rattle.j39_variants.specs.Variants.{IsVariant}
use Rattle.j39_variants.specs.declared.line.Alternative.{Alternative}
use Rattle.j39_variants.specs.declared.line.Choice.{Choice}
use Rattle.j39_variants.specs.declared.line.ProductLine.{ProductLine}
use Rattle.j39_variant_search.specs.VariantSearch.{is_in_box}
use Rattle.j39_line_findings.specs.Boxes.{part_admits}
use Rattle.j39_line_findings.specs.Conditions.{are_there, Condition, is_part_there, meets_any, meets_condition}
use Rattle.j39_line_findings.specs.FullVariants.{alternative_at}
use Rattle.j39_line_findings.specs.KnownParts.{do_all_admit}
use Rattle.j39_line_findings.specs.declared.part.LinePart.{LinePart}
use Rattle.j39_line_findings.proofs.EveryVariant.{Fits, fits_from}
use Rattle.j39_line_findings.proofs.Shown.{Passes, parts_shown}
use Rattle.j39_line_findings.proofs.Tests.{any_at, at_any}
use Rattle.j39_line_witnesses.specs.PartBoxes.{flags_by, flags_of_choice, parts_box}
use Rattle.j39_line_witnesses.specs.ReportedChoices.{choices_by, choices_if_met, choices_met, choices_of_condition, choices_of_parts, counted_parts}
use Rattle.j39_line_witnesses.specs.ReportedChoices.{counted_with, is_in_some, is_none, lacking_choices}
use Rattle.j39_line_witnesses.proofs.Within.{passing_is_within}
use Rattle.j39_line_laws.proofs.Tests.{of_if}

-- ---- a choice of which a box lacks no alternative

none_lacking : (f : ℕ → Bool) (a n : ℕ) → list_any not (map f (range_with_len a n)) ≡ false → (k : ℕ) → k < n → f (a + k) ≡ true
none_lacking f a zero none k below = absurd (omega (arith, below))
none_lacking f a (suc n) none zero below =
    let here : a ≡ a + 0 = omega arith in
    sym (ap f here) ∙ of_not (f a) (or_parts (not (f a)) (list_any not (map f (range_with_len (a + 1) n))) none).0
  where
    of_not : (b : Bool) → not b ≡ false → b ≡ true
    of_not true is = refl
    of_not false is = absurd (true≢false is)
none_lacking f a (suc n) none (suc k) below =
    let next : a + 1 + k ≡ a + suc k = omega arith in
    ap f (sym next) ∙ none_lacking f (a + 1) n (or_parts (not (f a)) (list_any not (map f (range_with_len (a + 1) n))) none).1 k (omega (arith, below))

module _ (test : Alternative → Bool) where
  abbrev flags_from : ℕ → List Choice → List (List Bool)
  flags_from n choices = lines_of_each (λ c choice. flags_of_choice test c choice ∷ []) n choices

  unlacking_from : (n : ℕ) (cs : List Choice) (v : List ℕ) → Fits cs v → (c k : ℕ) → slice_get v c ≡ Some k
      → flag_at (lacking_choices (flags_from n cs)) c ≡ false
      → test (alternative_at (n + c) k) ≡ true
  unfolding lines_of_each
  unlacking_from n [] [] fits c k at none = absurd (none-some k at)
  unlacking_from n [] (p ∷ v) fits c k at none = absurd fits
  unlacking_from n (x ∷ cs) [] fits c k at none = absurd fits
  unlacking_from n (x ∷ cs) (p ∷ v) fits zero k at none =
      let here : n + 0 ≡ n = omega arith in
      let first : 0 + p ≡ p = omega arith in
      subst (λ q. test (alternative_at (n + 0) q) ≡ true) (same_Some p k at)
      (ap (λ m. test (alternative_at m p)) here ∙ sym (ap (λ q. test (alternative_at n q)) first)
      ∙ none_lacking (λ q. test (alternative_at n q)) 0 (length x.alternatives.items) none p fits.0)
  unlacking_from n (x ∷ cs) (p ∷ v) fits (suc c) k at none =
      let next : n + 1 + c ≡ n + suc c = omega arith in
      subst (λ m. test (alternative_at m k) ≡ true) next (unlacking_from (n + 1) cs v fits.1 c k at none)

  unlacking : (cs : List Choice) (v : List ℕ) → IsVariant cs v → (c k : ℕ) → slice_get v c ≡ Some k → flag_at (lacking_choices (flags_by test cs)) c ≡ false
      → test (alternative_at c k) ≡ true
  unlacking cs v is c k at none =
      let here : 0 + c ≡ c = omega arith in
      subst (λ m. test (alternative_at m k) ≡ true) here (unlacking_from 0 cs v (fits_from cs v is) c k at none)

-- ---- two variants that take the same of some choices

abbrev pub Agree : List Bool → List ℕ → List ℕ → Type 0
Agree choices w v = (c : ℕ) → flag_at choices c ≡ true → slice_get v c ≡ slice_get w c

pub turned : (choices : List Bool) (w v : List ℕ) → Agree choices w v → Agree choices v w
turned choices w v agree c is = sym (agree c is)

-- some parts are among others
abbrev pub AreAmong : ProductLine → List LinePart → List LinePart → Type 0
AreAmong line these others = (a : Alternative) → do_all_admit line others a ≡ true → do_all_admit line these a ≡ true

-- two variants of a line
pub record AreTwo (line : ProductLine) (w v : List ℕ) : Type 0 where
  pub one : IsVariant line.choices.items w
  pub other : IsVariant line.choices.items v

pub other_two : (line : ProductLine) (w v : List ℕ) → AreTwo line w v → AreTwo line v w
other_two line w v two = record { one = two.other; other = two.one }

pub kept_parts : (line : ProductLine) (all : List LinePart) (w v : List ℕ) → AreTwo line w v → Agree (choices_of_parts line all) w v
    → (parts : List LinePart) → AreAmong line parts all → are_there line w parts ≡ true → are_there line v parts ≡ true
kept_parts line all w v two agree parts among there =
    let here = parts_shown line w two.one parts in
    (parts_shown line v two.other parts).there_so (here.known_so there) (λ c k at.
    elim (cases_Bool (flag_at (choices_of_parts line all) c)) [
      | inl counts ↦ here.passes_so there c k (sym (agree c counts) ∙ at)
      | inr whole ↦ among (alternative_at c k) (unlacking (do_all_admit line all) line.choices.items v two.other c k at whole)
    ])

-- ---- a condition

-- a box in which a variant is
some_in_box : (box : List (List Bool)) (v : List ℕ) → is_in_box box v ≡ true → is_in_some box ≡ true
some_in_box [] v is = refl
some_in_box (choice ∷ box) [] is = absurd (false≢true is)
some_in_box (choice ∷ box) (p ∷ v) is =
    let (here, rest) = and_parts (flag_at choice p) (is_in_box box v) is in
    and_from (list_any (λ has. has) choice) (is_in_some box) (some_flag choice p here) (some_in_box box v rest)
  where
    some_flag : (flags : List Bool) (k : ℕ) → flag_at flags k ≡ true → list_any (λ has. has) flags ≡ true
    some_flag [] k none = absurd (false≢true none)
    some_flag (true ∷ flags) k is = refl
    some_flag (false ∷ flags) zero none = absurd (false≢true none)
    some_flag (false ∷ flags) (suc k) is = some_flag flags k is

-- all that is listed of each value passes
pub listed_all : {X Y : Type 0} (test : Y → Bool) (report : ℕ → X → List Y) (n : ℕ) (xs : List X) → list_all test (lines_of_each report n xs) ≡ true
    → (i : ℕ) (x : X) → slice_get xs i ≡ Some x → list_all test (report (n + i) x) ≡ true
unfolding lines_of_each
listed_all test report n [] all i x at = absurd (no_value i x at)
listed_all test report n (y ∷ ys) all zero x at =
    let here : n ≡ n + 0 = omega arith in
    subst (λ m. list_all test (report m x) ≡ true) here (subst (λ z. list_all test (report n z) ≡ true) (same_Some y x at)
    (and_parts (list_all test (report n y)) (list_all test (lines_of_each report (n + 1) ys))
    (sym (list_all-append test (report n y) (lines_of_each report (n + 1) ys)) ∙ all)).0)
listed_all test report n (y ∷ ys) all (suc i) x at =
    let next : n + 1 + i ≡ n + suc i = omega arith in
    subst (λ m. list_all test (report m x) ≡ true) next (listed_all test report (n + 1) ys
    (and_parts (list_all test (report n y)) (list_all test (lines_of_each report (n + 1) ys))
    (sym (list_all-append test (report n y) (lines_of_each report (n + 1) ys)) ∙ all)).1 i x at)

module _ (line : ProductLine) (condition : Condition) where
  abbrev together : List LinePart
  together = condition.together

  abbrev others : List LinePart
  others = lines_of_each (λ _ parts. counted_with line together parts) 0 condition.lacking

  both : (a : Alternative) → do_all_admit line (counted_parts line condition) a ≡ true → (do_all_admit line together a ≡ true)
      × (do_all_admit line others a ≡ true)
  both a all = and_parts (do_all_admit line together a) (do_all_admit line others a) (sym (list_all-append (part_admits line a) together others) ∙ all)

  together_among : AreAmong line together (counted_parts line condition)
  together_among a all = (both a all).0

  lacking_among : (i : ℕ) (parts : List LinePart) → slice_get condition.lacking i ≡ Some parts → is_in_some (parts_box line (together ++ parts)) ≡ true
      → AreAmong line parts (counted_parts line condition)
  lacking_among i parts at joins a all =
      subst (λ b. list_all (part_admits line a) (if b then parts else []) ≡ true) joins
      (listed_all (part_admits line a) (λ _ these. counted_with line together these) 0 condition.lacking (both a all).1 i parts at)

  -- parts that are there with what has to be there may be
  joined : (v : List ℕ) → IsVariant line.choices.items v → (parts : List LinePart) → are_there line v together ≡ true → are_there line v parts ≡ true
      → is_in_some (parts_box line (together ++ parts)) ≡ true
  joined v is parts first second =
      some_in_box (parts_box line (together ++ parts)) v
      (passing_is_within (do_all_admit line (together ++ parts)) line.choices.items v is
      ((parts_shown line v is (together ++ parts)).passes_so
      (list_all-append (is_part_there line v) together parts ∙ and_from (are_there line v together) (are_there line v parts) first second)))

  pub kept_condition : (w v : List ℕ) → AreTwo line w v → Agree (choices_of_condition line condition) w v
      → meets_condition line w condition ≡ true → meets_condition line v condition ≡ true
  kept_condition w v two agree met =
      let all = counted_parts line condition in
      let (there, none) = and_parts (are_there line w together) (not (list_any (are_there line w) condition.lacking)) met in
      let here = kept_parts line all w v two agree together together_among there in
      and_from (are_there line v together) (not (list_any (are_there line v) condition.lacking)) here
      (not_from_false (list_any (are_there line v) condition.lacking) (elim (cases_Bool (list_any (are_there line v) condition.lacking)) [
        | inl some ↦
            let its = any_at (are_there line v) condition.lacking some in
            let among = lacking_among its.i its.value its.value_is (joined v two.other its.value here its.passes) in
            let back = kept_parts line all v w (other_two line w v two) (turned (choices_of_condition line condition) w v agree) its.value among its.passes in
            absurd (true≢false (sym (at_any (are_there line w) condition.lacking its.i its.value its.value_is back)
            ∙ not-true (list_any (are_there line w) condition.lacking) none))
        | inr nothing ↦ nothing
      ]))

-- ---- of some conditions, of which one is met

-- a condition that a variant meets, and its choices among those of all that it meets
record IsMet (line : ProductLine) (w : List ℕ) (conditions : List Condition) : Type 0 where
  i : ℕ
  condition : Condition
  stands : slice_get conditions i ≡ Some condition
  meets : meets_condition line w condition ≡ true

-- the first of them
first_met : (line : ProductLine) (w : List ℕ) (n : ℕ) (conditions : List Condition) → meets_any line w conditions ≡ true
    → (its : IsMet line w conditions) × (slice_get (lines_of_each (λ _ condition. choices_if_met line w condition) n conditions) 0 ≡ Some
    (choices_of_condition line its.condition))
unfolding lines_of_each
first_met line w n [] met = absurd (false≢true met)
first_met line w n (x ∷ xs) met = elim (cases_Bool (meets_condition line w x)) [
  | inl meets ↦ (
    record { i = 0; condition = x; stands = refl; meets = meets },
    ap (λ b. slice_get ((if b then choices_of_condition line x ∷ [] else []) ++ lines_of_each (λ _ condition. choices_if_met line w condition)
        (n + 1) xs) 0) meets,
  )
  | inr fails ↦
      let (its, is) = first_met line w (n + 1) xs (sym (ap (λ b. b || meets_any line w xs) fails) ∙ met) in (
        record { i = suc its.i; condition = its.condition; stands = its.stands; meets = its.meets },
        ap (λ b. slice_get ((if b then choices_of_condition line x ∷ [] else []) ++ lines_of_each (λ _ condition. choices_if_met line w condition)
            (n + 1) xs) 0) fails ∙ is,
      )
]

-- one by which nothing is reported
whole_met : (line : ProductLine) (w : List ℕ) (n : ℕ) (conditions : List Condition)
    → list_any is_none (lines_of_each (λ _ condition. choices_if_met line w condition) n conditions) ≡ true
    → (its : IsMet line w conditions) × (is_none (choices_of_condition line its.condition) ≡ true)
unfolding lines_of_each
whole_met line w n [] some = absurd (false≢true some)
whole_met line w n (x ∷ xs) some =
    let rest : List (List Bool) = lines_of_each (λ _ condition. choices_if_met line w condition) (n + 1) xs in
    elim (or_cases (list_any is_none (choices_if_met line w x)) (list_any is_none rest) (sym (list_any-append is_none (choices_if_met line w x) rest) ∙ some)) [
      | inl here ↦
          let (meets, these) = of_if is_none (meets_condition line w x) (choices_of_condition line x ∷ []) here in (
            record { i = 0; condition = x; stands = refl; meets = meets },
            elim (or_cases (is_none (choices_of_condition line x)) false these) [
              | inl none ↦ none
              | inr not_so ↦ absurd (false≢true not_so)
            ],
          )
      | inr later ↦
          let (its, none) = whole_met line w (n + 1) xs later in
          (record { i = suc its.i; condition = its.condition; stands = its.stands; meets = its.meets }, none)
    ]

none_at : (choices : List Bool) → is_none choices ≡ true → (c : ℕ) → flag_at choices c ≡ true → ⊥
none_at [] none c is = false≢true is
none_at (true ∷ choices) none c is = false≢true none
none_at (false ∷ choices) none zero is = false≢true is
none_at (false ∷ choices) none (suc c) is = none_at choices none c is

pub kept_any : (line : ProductLine) (w v : List ℕ) → AreTwo line w v → (conditions : List Condition) → Agree (choices_by (choices_met line w conditions)) w v
    → meets_any line w conditions ≡ true → meets_any line v conditions ≡ true
kept_any line w v two conditions agree met = elim (cases_Bool (list_any is_none (choices_met line w conditions))) [
  | inl some ↦
      let (its, none) = whole_met line w 0 conditions some in
      by its (λ c counts. absurd (none_at (choices_of_condition line its.condition) none c counts))
  | inr none ↦
      let (its, is) = first_met line w 0 conditions met in
      by its (λ c counts. agree c (subst (λ choices. flag_at choices c ≡ true) (sym (chosen its none is)) counts))
]
  where
    by : (its : IsMet line w conditions) → Agree (choices_of_condition line its.condition) w v → meets_any line v conditions ≡ true
    by its same = at_any (meets_condition line v) conditions its.i its.condition its.stands (kept_condition line its.condition w v two same its.meets)

    chosen : (its : IsMet line w conditions) → list_any is_none (choices_met line w conditions) ≡ false
        → slice_get (choices_met line w conditions) 0 ≡ Some (choices_of_condition line its.condition)
        → choices_by (choices_met line w conditions) ≡ choices_of_condition line its.condition
    chosen its none is = ap (λ b. if b then [] else unwrap_or (slice_get (choices_met line w conditions) 0) []) none ∙ ap (λ o. unwrap_or o []) is

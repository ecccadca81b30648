-- What is found in the list of a label's checksum is the unit of the label.
use Rattle.std.proofs.Common.{◌≡◌, ℕ, ◌<◌, ◌∷◌, ◌++◌, ◌+◌, Bool, true, false, List, [], length, map, get_or, set, Option, Some, None, refl, sym, ap, ◌∙◌, subst}
use Rattle.std.proofs.Common.{arith, inl, inr, eqb}
use Rattle.std.proofs.lemmas.Bool.{cases_Bool, eqb-false, eqb-true, false≢true, ltb-false, ltb-true}
use Rattle.std.proofs.lemmas.List.{get_or-map, get_or-set_other, get_or-set_same, length_push}
use Rattle.std.proofs.lemmas.List.Quantifiers.{position-Some}
use Rattle.std.proofs.lemmas.List.Sums.{fails_before_first}
use Rattle.std.proofs.lemmas.Option.{cond_some, none-some, slice_get_cases}
use Rattle.std.proofs.lemmas.Slice.Eq.{bytes_eq-Decides}
use Rattle.std.proofs.Math.ListN.{get_or-append}
use Rattle.std.proofs.Math.Seq.{get_or-append_seam}
use Rattle.std.specs.Prelude.{nat_lt, position}
use Rattle.std.specs.List.{position_or_len, slice_get}
use Rattle.std.specs.Option.{option_map_or}
use Rattle.std.specs.Str.{bytes_eq}
use Rattle.j39_network.specs.declared.plan.Plan.{Plan}
use Rattle.j39_network.specs.declared.plan.unit_plan.UnitPlan.{UnitPlan}
use Rattle.j39_schedule.specs.Schedule.{unit_named}
use Rattle.j39_schedule.specs.inside.UnitIndexes.{Has, IsIndexOf}
use Rattle.j39_schedule.specs.inside.Checksums.{checksum, is_unit_named}
use Rattle.j39_schedule.proofs.UnitNames.{named}

abbrev is_labelled : List ℕ → Option UnitPlan → Bool
is_labelled label unit = option_map_or (λ (u : UnitPlan). bytes_eq u.label.bytes label) unit false

-- the unit at this place has the label
named_there : (plan : Plan) (u : ℕ) (label : List ℕ) → is_unit_named plan u label ≡ true → unit_named plan label ≡ Some u
named_there plan u label is =
    elim (slice_get_cases plan.units.items u).1 [
      | inl found ↦
          let same = (bytes_eq-Decides found.0.label.bytes label).0 (subst (λ (o : Option UnitPlan). is_labelled label o ≡ true) found.2 is) in
          subst (λ (l : List ℕ). unit_named plan l ≡ Some u) same (named plan u found.0 found.2)
      | inr past ↦ absurd (false≢true (subst (λ (o : Option UnitPlan). is_labelled label o ≡ true) past.1 is))
    ]

-- a unit of the label stands in the list of its checksum
stands : (plan : Plan) (lists : List (List ℕ)) → IsIndexOf plan lists → (label : List ℕ) (u : ℕ) → unit_named plan label ≡ Some u
    → Has (get_or lists (checksum label) []) u × (is_unit_named plan u label ≡ true)
unfolding unit_named
stands plan lists index label u is =
    let test : UnitPlan → Bool = λ (w : UnitPlan). bytes_eq w.label.bytes label in
    elim (slice_get_cases plan.units.items u).1 [
      | inl found ↦
          let passes = (position-Some test plan.units.items u found.0 is).1 in
          let same : found.0.label.bytes ≡ label = (bytes_eq-Decides _ _).0 (ap test (sym found.3) ∙ passes) in (
            subst (λ (l : List ℕ). Has (get_or lists (checksum l) []) u) same (index u found.0 found.2),
            ap (is_labelled label) found.2 ∙ (bytes_eq-Decides _ _).1 same,
          )
      | inr past ↦
          let at = cond_some (nat_lt (position_or_len test plan.units.items) (length plan.units.items)) _ u is in
          let within = ltb-true (position_or_len test plan.units.items) (length plan.units.items) at.0 in
          absurd (omega (arith, within, at.1, past.0))
    ]

-- what the first of the list of that label is
pub found_first : (plan : Plan) (lists : List (List ℕ)) (label : List ℕ) (at : ℕ)
    → position (λ u. is_unit_named plan u label) (get_or lists (checksum label) []) ≡ Some at
    → unit_named plan label ≡ Some (get_or (get_or lists (checksum label) []) at 0)
found_first plan lists label at is =
    named_there plan _ label (position-Some (λ u. is_unit_named plan u label) (get_or lists (checksum label) []) at 0 is).1

-- without one there is no unit of the label
pub found_none : (plan : Plan) (lists : List (List ℕ)) → IsIndexOf plan lists → (label : List ℕ)
    → position (λ u. is_unit_named plan u label) (get_or lists (checksum label) []) ≡ None → unit_named plan label ≡ None
found_none plan lists index label is = none (unit_named plan label) refl
  where
    list : List ℕ
    list = get_or lists (checksum label) []

    test : ℕ → Bool
    test u = is_unit_named plan u label

    none : (named : Option ℕ) → unit_named plan label ≡ named → named ≡ None
    none None is_named = refl
    none (Some u) is_named =
        let (has, passes) = stands plan lists index label u is_named in
        elim (cases_Bool (nat_lt (position_or_len test list) (length list))) [
          | inl within ↦ absurd (none-some (position_or_len test list) (sym is ∙ (rw within refl)))
          | inr past ↦
              let fails = fails_before_first test list has.0 0 (let h = ltb-false _ _ past in omega (arith, has.1)) in
              absurd (false≢true (sym fails ∙ ap test has.2 ∙ passes))
        ]

-- a number joins the list of a checksum
abbrev pub IsJoined : ℕ → ℕ → List (List ℕ) → List (List ℕ) → Type 0
IsJoined sum n old new = new ≡ set old sum (get_or old sum [] ++ n ∷ [])

has_last : (list : List ℕ) (n : ℕ) → Has (list ++ n ∷ []) n
has_last list n = (length list, omega (arith, length_push list n), get_or-append_seam list n [] 0)

has_more : (list : List ℕ) (m n : ℕ) → Has list n → Has (list ++ m ∷ []) n
has_more list m n (k, within, is) = (k, omega (arith, within, length_push list m), get_or-append list (m ∷ []) 0 k within ∙ is)

-- what stood in a list stands there once another number has joined one
pub joined_keeps : (sum m : ℕ) (old new : List (List ℕ)) → IsJoined sum m old new → sum < length old
    → (other n : ℕ) → Has (get_or old other []) n → Has (get_or new other []) n
joined_keeps sum m old new joined within other n has =
    elim (cases_Bool (eqb other sum)) [
      | inl here ↦
          let at = eqb-true other sum here in
          let is : get_or new other [] ≡ get_or old sum [] ++ m ∷ [] = (λ i. get_or (joined i) (at i) []) ∙ get_or-set_same old sum _ [] within in
          subst (λ (l : List ℕ). Has l n) (sym is) (has_more _ m n (subst (λ (k : ℕ). Has (get_or old k []) n) at has))
      | inr apart ↦
          let is : get_or new other [] ≡ get_or old other [] =
          ap (λ (ls : List (List ℕ)). get_or ls other []) joined ∙ get_or-set_other old sum other _ [] (eqb-false other sum apart) in
          subst (λ (l : List ℕ). Has l n) (sym is) has
    ]

pub joined_has : (sum n : ℕ) (old new : List (List ℕ)) → IsJoined sum n old new → sum < length old → Has (get_or new sum []) n
joined_has sum n old new joined within =
    let is = ap (λ (ls : List (List ℕ)). get_or ls sum []) joined ∙ get_or-set_same old sum _ [] within in
    subst (λ (l : List ℕ). Has l n) (sym is) (has_last _ n)

-- the list at a place, of what contracts see
pub list_at : {V : Type 0} (items : V → List ℕ) (rows : List V) (was : List (List ℕ)) → map items rows ≡ was → (k : ℕ) → k < length rows → (row : V)
    → row ≡ get_or rows k row → get_or was k [] ≡ items row
list_at items rows was is k within row at = ap (λ ls. get_or ls k []) (sym is) ∙ get_or-map items rows k row [] within ∙ ap items (sym at)

-- Who is in the box of parts and in none of those of others meets the condition that the former are there, and the others aren't.
use Rattle.std.specs.declared.alloc.Global.{Global}
use Rattle.std.proofs.Common.{◌≡◌, ℕ, ◌+◌, Bool, true, false, not, ◌&&◌, ◌||◌, List, [], ◌∷◌, ◌++◌, Option, Some, None, Vec, MatchBool, MatchOption, is_some}
use Rattle.std.proofs.Common.{length, inl, inr, refl, sym, ◌∙◌, ap, subst, take}
use Rattle.std.specs.List.{list_any}
use Rattle.std.proofs.lemmas.Bool.{and_from, and_parts, cases_Bool, false≢true, or_left}
use Rattle.std.proofs.Math.Seq.{take-append_seam}
use Rattle.std.proofs.lemmas.List.{length-map, take-map}
use Rattle.std.proofs.lemmas.List.Folds.{list_any-append}
use Rattle.j39_load.specs.LineLists.{lines_of_each}
use Rattle.j39_variants.specs.declared.line.Alternative.{Alternative}
use Rattle.j39_variants.specs.declared.line.ProductLine.{ProductLine}
use Rattle.j39_variants.specs.Variants.{IsVariant, is_in, is_possible}
use Rattle.j39_variant_search.specs.VariantSearch.{IsFirstOutside, IsOutsideBoxes, NoneOutside, box_flags, boxes_flags, is_in_box}
use Rattle.j39_line_findings.specs.Boxes.{admits}
use Rattle.j39_line_findings.specs.Conditions.{are_there, meets_any, meets_condition}
use Rattle.j39_line_findings.specs.PossibleVariants.{IsPossible}
use Rattle.j39_line_findings.specs.declared.part.LinePart.{LinePart}
use Rattle.j39_line_witnesses.specs.FirstMeeting.{IsWitnessOf, NoneMeets}
use Rattle.j39_line_findings.specs.KnownParts.{names_known_choices, do_all_admit, is_list_known}
use Rattle.j39_line_witnesses.specs.PartBoxes.{holes_of_parts, list_box, never_hole, never_holes, parts_box, parts_hole}
use Rattle.j39_line_witnesses.specs.Presences.{condition_of, parts_in}
use Rattle.j39_line_witnesses.specs.WitnessLaws.{BoxesAreExact}
use Rattle.j39_line_witnesses.specs.declared.presence.Presence.{Presence}
use Rattle.j39_line_findings.proofs.Shown.{list_shown, parts_shown}
use Rattle.j39_line_findings.proofs.Tests.{one_answer}
use Rattle.j39_line_witnesses.proofs.Within.{passing_is_within, within_passing, within_variant}

-- ---- tests

never_true : (a b : Bool) → (a ≡ true → b ≡ true) → b ≡ false → a ≡ false
never_true true b leads none = absurd (false≢true (sym none ∙ leads refl))
never_true false b leads none = refl

not_both : (a b : Bool) → not (not a && b) ≡ (a || not b)
not_both true b = refl
not_both false b = refl

none_of_both : (a b : Bool) → (not a || b) ≡ false → (a ≡ true) × (b ≡ false)
none_of_both true b is = (refl, is)
none_of_both false b is = absurd (false≢true (sym is))

both_none : (a b : Bool) → a ≡ true → b ≡ false → (not a || b) ≡ false
both_none true b is none = none
both_none false b is none = absurd (false≢true is)

from_not : (a : Bool) → not a ≡ true → a ≡ false
from_not true is = absurd (false≢true is)
from_not false is = refl

or_nothing : (a : Bool) → (a || false) ≡ true → a ≡ true
or_nothing true is = refl
or_nothing false is = is

-- ---- boxes of a variant

module _ (line : ProductLine) (v : List ℕ) (is : IsVariant line.choices.items v) where
  parts_within : (parts : List LinePart) → names_known_choices line parts ≡ true → is_in_box (parts_box line parts) v ≡ are_there line v parts
  parts_within parts known =
      let shown = parts_shown line v is parts in
      one_answer (is_in_box (parts_box line parts) v) (are_there line v parts)
      (λ within. shown.there_so known (within_passing (do_all_admit line parts) line.choices.items v within))
      (λ there. passing_is_within (do_all_admit line parts) line.choices.items v is (shown.passes_so there))

  list_within : (list : List Alternative) → is_list_known line list ≡ true → is_in_box (list_box line list) v ≡ is_in v list
  list_within list known =
      let shown = list_shown line v is list in
      one_answer (is_in_box (list_box line list) v) (is_in v list)
      (λ within. shown.there_so known (within_passing (admits list) line.choices.items v within))
      (λ there. passing_is_within (admits list) line.choices.items v is (shown.passes_so there))

  abbrev inside : List (List Bool) → Bool
  inside hole = is_in_box hole v

  in_hole : (parts : List LinePart) → list_any inside (parts_hole line parts) ≡ are_there line v parts
  in_hole parts = elim (cases_Bool (names_known_choices line parts)) [
    | inl known ↦ rw known (last (inside (parts_box line parts)) ∙ parts_within parts known)
    | inr unknown ↦
        let none : are_there line v parts ≡ false = never_true (are_there line v parts) (names_known_choices line parts)
        (parts_shown line v is parts).known_so unknown in
        rw unknown (sym none)
  ]
    where
      last : (b : Bool) → (b || false) ≡ b
      last true = refl
      last false = refl

  in_never : (list : List Alternative) → list_any inside (never_hole line list) ≡ is_in v list
  in_never list = elim (cases_Bool (is_list_known line list)) [
    | inl known ↦ rw known (last (inside (list_box line list)) ∙ list_within list known)
    | inr unknown ↦
        let none : is_in v list ≡ false = never_true (is_in v list) (is_list_known line list) (list_shown line v is list).known_so unknown in
        rw unknown (sym none)
  ]
    where
      last : (b : Bool) → (b || false) ≡ b
      last true = refl
      last false = refl

  in_holes : (n : ℕ) (lacking : List (Vec LinePart Global)) → list_any inside (lines_of_each (λ n parts. parts_hole line parts.items) n lacking)
      ≡ list_any (are_there line v) (parts_in lacking)
  unfolding lines_of_each
  in_holes n [] = refl
  in_holes n (parts ∷ lacking) =
      let rest : List (List (List Bool)) = lines_of_each (λ n parts. parts_hole line parts.items) (n + 1) lacking in
      list_any-append inside (parts_hole line parts.items) rest
      ∙ ap (λ b. b || list_any inside rest) (in_hole parts.items)
      ∙ ap (λ b. are_there line v parts.items || b) (in_holes (n + 1) lacking)

  in_nevers : (n : ℕ) (nevers : List (Vec Alternative Global)) → list_any inside (lines_of_each (λ n never. never_hole line never.items) n nevers)
      ≡ not (is_possible nevers v)
  unfolding lines_of_each
  in_nevers n [] = refl
  in_nevers n (never ∷ nevers) =
      let rest : List (List (List Bool)) = lines_of_each (λ n never. never_hole line never.items) (n + 1) nevers in
      list_any-append inside (never_hole line never.items) rest
      ∙ ap (λ b. b || list_any inside rest) (in_never never.items)
      ∙ ap (λ b. is_in v never.items || b) (in_nevers (n + 1) nevers)
      ∙ sym (not_both (is_in v never.items) (is_possible nevers v))

known_and : (known inside there : Bool) → (known ≡ true → inside ≡ there) → (there ≡ true → known ≡ true) → (known && inside) ≡ there
known_and true inside there same known = same refl
known_and false inside true same known = known refl
known_and false inside false same known = refl

pub exact_boxes : BoxesAreExact
exact_boxes line v is = record {
  parts_there = λ parts. known_and (names_known_choices line parts) (is_in_box (parts_box line parts) v) (are_there line v parts)
      (parts_within line v is parts) (parts_shown line v is parts).known_so;
  list_has = λ list. known_and (is_list_known line list) (is_in_box (list_box line list) v) (is_in v list)
      (list_within line v is list) (list_shown line v is list).known_so;
}

-- ---- a condition

module _ (line : ProductLine) (presence : Presence) (known : names_known_choices line presence.together.items ≡ true) where
  abbrev box : List (List Bool)
  box = parts_box line presence.together.items

  abbrev holes : List (List (List Bool))
  holes = never_holes line line.nevers.items ++ holes_of_parts line presence.lacking.items

  in_none_of : (v : List ℕ) → IsVariant line.choices.items v → list_any (λ hole. is_in_box hole v) holes
      ≡ (not (is_possible line.nevers.items v) || list_any (are_there line v) (parts_in presence.lacking.items))
  in_none_of v is =
      list_any-append (λ hole. is_in_box hole v) (never_holes line line.nevers.items) (holes_of_parts line presence.lacking.items)
      ∙ ap (λ b. b || list_any (λ hole. is_in_box hole v) (holes_of_parts line presence.lacking.items)) (in_nevers line v is 0 line.nevers.items)
      ∙ ap (λ b. not (is_possible line.nevers.items v) || b) (in_holes line v is 0 presence.lacking.items)

  outside_meets : (v : List ℕ) → IsOutsideBoxes box holes v → IsPossible line v × (meets_any line v (condition_of presence ∷ []) ≡ true)
  outside_meets v out =
      let is = within_variant (do_all_admit line presence.together.items) line.choices.items v out.in_box in
      let there : are_there line v presence.together.items ≡ true = sym (parts_within line v is presence.together.items known) ∙ out.in_box in
      let none = none_of_both (is_possible line.nevers.items v) (list_any (are_there line v) (parts_in presence.lacking.items))
      (sym (in_none_of v is) ∙ out.in_none) in (
        record { is_variant = is; possible = none.0 },
        or_left (meets_condition line v (condition_of presence)) false
            (and_from (are_there line v presence.together.items) (not (list_any (are_there line v) (parts_in presence.lacking.items))) there (ap not none.1)),
      )

  meets_outside : (v : List ℕ) → IsPossible line v → meets_any line v (condition_of presence ∷ []) ≡ true → IsOutsideBoxes box holes v
  meets_outside v possible meets =
      let is = possible.is_variant in
      let both = and_parts (are_there line v presence.together.items) (not (list_any (are_there line v) (parts_in presence.lacking.items)))
      (or_nothing (meets_condition line v (condition_of presence)) meets) in
      record {
        in_box = parts_within line v is presence.together.items known ∙ both.0;
        in_none = in_none_of v is
            ∙ both_none (is_possible line.nevers.items v) (list_any (are_there line v) (parts_in presence.lacking.items)) possible.possible (from_not _ both.1);
      }

  witness_outside : (found : Option (Vec ℕ Global)) → MatchOption found (NoneOutside box holes) (λ v. IsFirstOutside box holes v.items)
      → IsWitnessOf line (condition_of presence ∷ []) found
  witness_outside None none = λ v possible. elim (cases_Bool (meets_any line v (condition_of presence ∷ []))) [
    | inl meets ↦ absurd (none v (meets_outside v possible meets))
    | inr not_so ↦ not_so
  ]
  witness_outside (Some v) is =
      let (possible, meets) = outside_meets v.items is.is_outside in
      record { possible = possible; meets = meets; first = λ other its so. is.first other (meets_outside other its so) }

  pub witness_by : (found : Option (Vec ℕ Global)) (within : List (List Bool)) (others : List (List (List Bool))) → within ≡ box → others ≡ holes
      → MatchOption found (NoneOutside within others) (λ v. IsFirstOutside within others v.items) → IsWitnessOf line (condition_of presence ∷ []) found
  witness_by found within others is_box are_holes outside =
      witness_outside found
      (subst (λ b. MatchOption found (NoneOutside b holes) (λ v. IsFirstOutside b holes v.items)) is_box
      (subst (λ hs. MatchOption found (NoneOutside within hs) (λ v. IsFirstOutside within hs v.items)) are_holes outside))

-- what is not known is never there
pub none_unknown : (line : ProductLine) (presence : Presence) → names_known_choices line presence.together.items ≡ false
    → NoneMeets line (condition_of presence ∷ [])
none_unknown line presence unknown v possible =
    let none = never_true (are_there line v presence.together.items) (names_known_choices line presence.together.items)
    (parts_shown line v possible.is_variant presence.together.items).known_so unknown in
    rw none refl

-- whether there is one that meets nothing in particular
pub any_possible : (line : ProductLine) (found : Option (Vec ℕ Global)) (some : Bool) → some ≡ is_some found
    → IsWitnessOf line (record { together = []; lacking = [] } ∷ []) found
    → MatchBool some ((v : List ℕ) × IsPossible line v) ((v : List ℕ) → IsPossible line v → ⊥)
any_possible line None some is none = rw is (λ v possible. false≢true (sym (none v possible)))
any_possible line (Some v) some is first = rw is (v.items, first.possible)

-- ---- what was there before

pub kept_boxes : (old all : List (Vec (Vec Bool Global) Global)) (more : List (List (List Bool))) (n : ℕ) → n ≡ length old
    → boxes_flags all ≡ boxes_flags old ++ more → boxes_flags (take n all) ≡ boxes_flags old
kept_boxes old all more n count is =
    let long : n ≡ length (boxes_flags old) = count ∙ sym (length-map old (λ box. box_flags box.items)) in
    sym (take-map (λ box. box_flags box.items) n all) ∙ ap (take n) is ∙ ap (λ m. take m (boxes_flags old ++ more)) long
    ∙ take-append_seam (boxes_flags old) more

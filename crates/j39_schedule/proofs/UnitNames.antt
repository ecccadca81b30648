-- The label of a unit is a word, and names this unit.
use Rattle.std.proofs.Common.{◌≡◌, ℕ, ◌<◌, ◌≤◌, nat_le, ◌==◌, true, ◌&&◌, ◌||◌, List, length, Some, refl, sym, ap, ◌∙◌, arith, inl, inr}
use Rattle.std.proofs.lemmas.Bool.{and_parts, eqb-true, false_from_ne_true, leb-true, lt-ltb, or_cases}
use Rattle.std.proofs.lemmas.List.Elements.{All-weaker}
use Rattle.std.proofs.lemmas.List.Sums.{AllPass-from_list_all, position_or_len_is}
use Rattle.std.proofs.lemmas.Option.{get_or_from_slice_get, slice_get_cases, slice_get_within}
use Rattle.std.proofs.lemmas.Slice.Eq.{bytes_eq-Decides}
use Rattle.std.specs.List.{position_or_len, slice_get}
use Rattle.std.specs.Str.{bytes_eq}
use Rattle.j39_network.specs.declared.plan.Plan.{Plan}
use Rattle.j39_network.specs.declared.plan.unit_plan.UnitPlan.{UnitPlan}
use Rattle.j39_id.specs.LabelForm.{is_label_byte, is_unit_label}
use Rattle.j39_text.specs.Labels.{unit_label}
use Rattle.j39_schedule.specs.Schedule.{unit_named}
use Rattle.j39_schedule.specs.StepLines.{IsUnit}
use Rattle.j39_schedule.proofs.TextWords.{IsWord}

label_byte : (b : ℕ) → is_label_byte b ≡ true → 32 < b
label_byte b is =
    elim (or_cases (nat_le 65 b && nat_le b 90) ((nat_le 97 b && nat_le b 122) || ((nat_le 48 b && nat_le b 57) || b == 95)) is) [
      | inl capital ↦ let h = leb-true 65 b (and_parts _ _ capital).0 in omega arith
      | inr other ↦ elim (or_cases (nat_le 97 b && nat_le b 122) ((nat_le 48 b && nat_le b 57) || b == 95) other) [
        | inl small ↦ let h = leb-true 97 b (and_parts _ _ small).0 in omega arith
        | inr other ↦ elim (or_cases (nat_le 48 b && nat_le b 57) (b == 95) other) [
          | inl digit ↦ let h = leb-true 48 b (and_parts _ _ digit).0 in omega arith
          | inr line ↦ let h = eqb-true b 95 line in omega arith
        ]
      ]
    ]

-- a label is a word of at most 32 characters
label_word : (text : List ℕ) → is_unit_label text ≡ true → IsWord text × (length text ≤ 32)
label_word text is =
    let label = (and_parts _ _ is).0 in
    let parts = and_parts _ _ label in
    let form = and_parts _ _ parts.1 in (
      record {
        some = let h = leb-true 1 (length text) parts.0 in omega arith;
        above = All-weaker (λ c. is_label_byte c ≡ true) (λ c. 32 < c) label_byte text (AllPass-from_list_all is_label_byte text form.1);
      },
      leb-true (length text) 32 form.0,
    )

-- labels that differ distinguish units
pub named : (plan : Plan) (u : ℕ) (unit : UnitPlan) → slice_get plan.units.items u ≡ Some unit → unit_named plan unit.label.bytes ≡ Some u
unfolding unit_named
named plan u unit at =
    let label = unit.label.bytes in
    let inside = slice_get_within plan.units.items u unit at in
    let is = get_or_from_slice_get plan.units.items u unit unit at in
    let place : position_or_len (λ (w : UnitPlan). bytes_eq w.label.bytes label) plan.units.items ≡ u =
    position_or_len_is (λ (w : UnitPlan). bytes_eq w.label.bytes label) plan.units.items u unit (omega arith)
    (λ k below. false_from_ne_true _ (λ same.
    plan.unit_labels k u unit below inside ((bytes_eq-Decides _ _).0 same ∙ ap (λ (w : UnitPlan). w.label.bytes) (sym is))))
    (λ within. (bytes_eq-Decides _ _).1 (ap (λ (w : UnitPlan). w.label.bytes) is)) in
    let found = lt-ltb u (length plan.units.items) inside in
    rw (place, found) refl

-- what a schedule writes of a unit
pub record IsNamed (plan : Plan) (u : ℕ) : Type 0 where
  pub word : IsWord (unit_label plan u)
  pub short : length (unit_label plan u) ≤ 32
  pub names : unit_named plan (unit_label plan u) ≡ Some u

named_by : (plan : Plan) (u : ℕ) (unit : UnitPlan) → slice_get plan.units.items u ≡ Some unit → IsNamed plan u
unfolding unit_label
named_by plan u unit at =
    let form = label_word unit.label.bytes unit.label_form in
    record {
      word = rw at form.0;
      short = rw at form.1;
      names = rw at (named plan u unit at);
    }

pub is_named : (plan : Plan) (u : ℕ) → IsUnit plan u → IsNamed plan u
is_named plan u inside =
    elim (slice_get_cases plan.units.items u).1 [
      | inl found ↦ named_by plan u found.0 found.2
      | inr past ↦ absurd (omega (arith, past.0))
    ]

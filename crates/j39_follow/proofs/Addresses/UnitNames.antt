-- The unit of a NAME: the first of those that it can be.
use Rattle.std.proofs.Common.{◌≡◌, ◌≢◌, ℕ, zero, suc, ◌+◌, ◌<◌, ◌==◌, ◌&&◌, Bool, true, false, not, List, [], ◌∷◌, Option, Some, None, inl, inr, refl, sym, ap}
use Rattle.std.proofs.Common.{◌∙◌, arith, eqb-true}
use Rattle.std.specs.List.{position_from, slice_get}
use Rattle.std.specs.Option.{option_or}
use Rattle.std.proofs.lemmas.Bool.{cases_Bool, eq-eqb, eqb-false, ne_eqb, false≢true, and_from, and_right}
use Rattle.std.proofs.lemmas.Iterator.Adapters.{position_from-zero}
use Rattle.std.proofs.lemmas.Option.{none-some, same_Some}
use Rattle.j39_network.specs.Kinds.{AreDistinctUnits, MayHaveName, kind_of_name}
use Rattle.j39_network.specs.declared.plan.Plan.{Plan}
use Rattle.j39_network.specs.declared.plan.unit_plan.UnitPlan.{UnitPlan}
use Rattle.j39_network.proofs.Boxes.{apart_at}
use Rattle.j39_follow.specs.UnitsOfNames.{NamesAreOfTheirUnits}
use Rattle.j39_follow.specs.Who.{numbered_unit, unit_of_kind, unit_of_name}

pub position_at : (test : UnitPlan → Bool) (n u : ℕ) (ps : List UnitPlan) (p : UnitPlan) → slice_get ps u ≡ Some p → test p ≡ true
    → ((k : ℕ) (q : UnitPlan) → k < u → slice_get ps k ≡ Some q → test q ≡ false) → position_from test n ps ≡ Some (n + u)
position_at test n u [] p at passes none = absurd (none-some p at)
position_at test n zero (q ∷ ps) p at passes none =
    let here : test q ≡ true = ap test (same_Some q p at) ∙ passes in
    let same : n ≡ n + 0 = omega arith in
    rw here (ap Some same)
position_at test n (suc u) (q ∷ ps) p at passes none =
    let other : test q ≡ false = none 0 q (omega arith) refl in
    let same : (n + 1) + u ≡ n + suc u = omega arith in
    rw other (position_at test (n + 1) u ps p at passes (λ k r below there. none (suc k) r (omega (arith, below)) there) ∙ ap Some same)

pub position_none : (test : UnitPlan → Bool) (n : ℕ) (ps : List UnitPlan) → ((k : ℕ) (q : UnitPlan) → slice_get ps k ≡ Some q → test q ≡ false)
    → position_from test n ps ≡ None
position_none test n [] none = refl
position_none test n (q ∷ ps) none =
    let other : test q ≡ false = none 0 q refl in
    rw other (position_none test (n + 1) ps (λ k r there. none (suc k) r there))

module _ (plan : Plan) (stated : AreDistinctUnits plan) (u : ℕ) (unit : UnitPlan) (name : ℕ) (at : slice_get plan.units.items u ≡ Some unit)
    (may : MayHaveName unit name) where
  -- no other unit may have the NAME
  number_elsewhere : (k : ℕ) (q : UnitPlan) → k ≢ u → slice_get plan.units.items k ≡ Some q → (not q.any_identity && q.name == name) ≡ false
  number_elsewhere k q other there =
      and_right (not q.any_identity) (q.name == name)
      (ne_eqb q.name name (λ e.
      apart_at plan stated k u q unit there at other
      (ap kind_of_name e ∙ sym may.0, elim may.1 [ inl own ↦ inl (e ∙ sym own) | inr any ↦ inr (inr any) ])))

  kind_elsewhere : (k : ℕ) (q : UnitPlan) → k ≢ u → slice_get plan.units.items k ≡ Some q
      → (q.any_identity && kind_of_name q.name == kind_of_name name) ≡ false
  kind_elsewhere k q other there = elim (cases_Bool q.any_identity) [
    | inr number ↦ ap (λ (b : Bool). b && kind_of_name q.name == kind_of_name name) number
    | inl any ↦
        and_right q.any_identity (kind_of_name q.name == kind_of_name name)
        (ne_eqb (kind_of_name q.name) (kind_of_name name) (λ e.
        apart_at plan stated k u q unit there at other (e ∙ sym may.0, inr (inl any))))
  ]

-- a NAME is of the unit that may have it, where no other unit is found by its number or its kind
module _ (plan : Plan) (u : ℕ) (unit : UnitPlan) (name : ℕ) (at : slice_get plan.units.items u ≡ Some unit) (may : MayHaveName unit name)
    (not_numbered : (k : ℕ) (q : UnitPlan) → k ≢ u → slice_get plan.units.items k ≡ Some q → (not q.any_identity && q.name == name) ≡ false)
    (not_of_kind : unit.any_identity ≡ true → (k : ℕ) (q : UnitPlan) → k ≢ u → slice_get plan.units.items k ≡ Some q
    → (q.any_identity && kind_of_name q.name == kind_of_name name) ≡ false) where
  of_number : unit.any_identity ≡ false → unit_of_name plan name ≡ Some u
  of_number number =
      let test : UnitPlan → Bool = λ (q : UnitPlan). not q.any_identity && q.name == name in
      let own : unit.name ≡ name = elim may.1 [ inl own ↦ own | inr any ↦ absurd (false≢true (sym number ∙ any)) ] in
      let here : test unit ≡ true = and_from (not unit.any_identity) (unit.name == name) (ap not number) (eq-eqb unit.name name own) in
      let start : 0 + u ≡ u = omega arith in
      let found : numbered_unit plan name ≡ Some u =
      position_from-zero test plan.units.items
      ∙ position_at test 0 u plan.units.items unit at here (λ k q below there. not_numbered k q (λ e. omega (arith, e, below)) there)
      ∙ ap Some start in
      ap (λ (o : Option ℕ). option_or o (unit_of_kind plan name)) found

  no_number : unit.any_identity ≡ true → (k : ℕ) (q : UnitPlan) → slice_get plan.units.items k ≡ Some q → (not q.any_identity && q.name == name) ≡ false
  no_number any k q there = elim (cases_Bool (k == u)) [
    | inl same ↦
        let one : q ≡ unit = same_Some q unit (sym there ∙ ap (slice_get plan.units.items) (eqb-true k u same) ∙ at) in
        let there_any : q.any_identity ≡ true = ap (λ (x : UnitPlan). x.any_identity) one ∙ any in
        ap (λ (b : Bool). not b && q.name == name) there_any
    | inr other ↦ not_numbered k q (eqb-false k u other) there
  ]

  of_any : unit.any_identity ≡ true → unit_of_name plan name ≡ Some u
  of_any any =
      let number : UnitPlan → Bool = λ (q : UnitPlan). not q.any_identity && q.name == name in
      let kind : UnitPlan → Bool = λ (q : UnitPlan). q.any_identity && kind_of_name q.name == kind_of_name name in
      let here : kind unit ≡ true = and_from unit.any_identity (kind_of_name unit.name == kind_of_name name) any
      (eq-eqb (kind_of_name unit.name) (kind_of_name name) may.0) in
      let start : 0 + u ≡ u = omega arith in
      let none : numbered_unit plan name ≡ None =
      position_from-zero number plan.units.items ∙ position_none number 0 plan.units.items (no_number any) in
      let found : unit_of_kind plan name ≡ Some u =
      position_from-zero kind plan.units.items
      ∙ position_at kind 0 u plan.units.items unit at here (λ k q below there. not_of_kind any k q (λ e. omega (arith, e, below)) there)
      ∙ ap Some start in
      ap (λ (o : Option ℕ). option_or o (unit_of_kind plan name)) none ∙ found

  pub of_its_unit : unit_of_name plan name ≡ Some u
  of_its_unit = elim (cases_Bool unit.any_identity) [ inl any ↦ of_any any | inr number ↦ of_number number ]

pub names_are_of_their_units : NamesAreOfTheirUnits
names_are_of_their_units plan u unit name stated at may =
    of_its_unit plan u unit name at may (number_elsewhere plan stated u unit name at may) (λ _. kind_elsewhere plan stated u unit name at may)

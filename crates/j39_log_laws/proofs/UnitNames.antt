-- The unit of a planned NAME, where no two units have one.
use Rattle.std.proofs.Common.{◌≡◌, ◌≢◌, ℕ, zero, suc, ◌<◌, ◌==◌, ◌&&◌, ◌^◌, ◌%◌, ◌/◌, Bool, true, false, not, List, [], ◌∷◌, length, map, Some}
use Rattle.std.proofs.Common.{inl, inr, refl, sym, ap, ◌∙◌, arith}
use Rattle.std.specs.FinSet.{FinSet}
use Rattle.std.specs.List.{slice_get}
use Rattle.std.specs.Ordering.{nat_cmp}
use Rattle.std.proofs.lemmas.Bool.{cases_Bool, ltb-true, ne_eqb, and_right}
use Rattle.std.proofs.lemmas.List.{length-map}
use Rattle.std.proofs.lemmas.Option.{none-some, same_Some}
use Rattle.j39_network.specs.Kinds.{kind_of_name}
use Rattle.j39_network.specs.declared.plan.Plan.{Plan}
use Rattle.j39_network.specs.declared.plan.unit_plan.UnitPlan.{UnitPlan}
use Rattle.j39_run_laws.proofs.Runs.Conditions.{is_unit}
use Rattle.j39_run_laws.proofs.Runs.Units.{in_units, names_differ}
use Rattle.j39_world.specs.Opening.{AreNamesDistinct}
use Rattle.j39_network.specs.PlannedUnits.{planned_unit, unit_at, units_of}
use Rattle.j39_world.specs.Run.{count_of}
use Rattle.j39_follow.specs.Who.{unit_of_name}
use Rattle.j39_follow.proofs.Addresses.UnitNames.{of_its_unit}

there_is : (ps : List UnitPlan) (u : ℕ) → u < length ps → (p : UnitPlan) × (slice_get ps u ≡ Some p)
there_is [] u less = absurd (omega (arith, less))
there_is (p ∷ ps) zero less = (p, refl)
there_is (p ∷ ps) (suc u) less = there_is ps u (omega (arith, less))

unit_there : (kept : FinSet nat_cmp) (u : ℕ) (ps : List UnitPlan) (p : UnitPlan) → slice_get ps u ≡ Some p
    → (unit_at (map (planned_unit kept) ps) u).name ≡ p.name
unit_there kept u [] p at = absurd (none-some p at)
unit_there kept zero (q ∷ ps) p at = ap (λ (x : UnitPlan). x.name) (same_Some q p at)
unit_there kept (suc u) (q ∷ ps) p at = unit_there kept u ps p at

below_length : (ps : List UnitPlan) (u : ℕ) (p : UnitPlan) → slice_get ps u ≡ Some p → u < length ps
below_length [] u p at = absurd (none-some p at)
below_length (q ∷ ps) zero p at = omega arith
below_length (q ∷ ps) (suc u) p at = (let less = below_length ps u p at in omega (arith, less))

-- NAMEs of one kind with one number are one
one_name : (a b : ℕ) → a / 2 ^ 21 ≡ b / 2 ^ 21 → a % 2 ^ 21 ≡ 0 → b % 2 ^ 21 ≡ 0 → a ≡ b
one_name a b kinds first second = omega (arith, kinds, first, second)

module _ (plan : Plan) (distinct : AreNamesDistinct (units_of plan)) (u : ℕ) (unit : is_unit plan u ≡ true) (p : UnitPlan)
    (at : slice_get plan.units.items u ≡ Some p) where
  abbrev name : ℕ
  name = (unit_at (units_of plan) u).name

  name_is : name ≡ p.name
  name_is = unit_there plan.keep_free u plan.units.items p at

  -- another unit has another NAME
  apart : (k : ℕ) (q : UnitPlan) → k ≢ u → slice_get plan.units.items k ≡ Some q → q.name ≢ p.name
  apart k q other there same =
      let inside : k < length (units_of plan) =
      (let below = below_length plan.units.items k q there in
      let long = length-map plan.units.items (planned_unit plan.keep_free) in omega (arith, below, long)) in
      names_differ (units_of plan) distinct k u inside (in_units plan u unit) other
      (unit_there plan.keep_free k plan.units.items q there ∙ same ∙ sym name_is)

  unnumbered : (k : ℕ) (q : UnitPlan) → k ≢ u → slice_get plan.units.items k ≡ Some q → (not q.any_identity && q.name == name) ≡ false
  unnumbered k q other there =
      and_right (not q.any_identity) (q.name == name) (ne_eqb q.name name (λ e. apart k q other there (e ∙ name_is)))

  no_kind : p.any_identity ≡ true → (k : ℕ) (q : UnitPlan) → k ≢ u → slice_get plan.units.items k ≡ Some q
      → (q.any_identity && kind_of_name q.name == kind_of_name name) ≡ false
  no_kind any k q other there = elim (cases_Bool q.any_identity) [
    | inr closed ↦ ap (λ (b : Bool). b && kind_of_name q.name == kind_of_name name) closed
    | inl openly ↦
        and_right q.any_identity (kind_of_name q.name == kind_of_name name)
        (ne_eqb (kind_of_name q.name) (kind_of_name name) (λ kinds.
        apart k q other there
        (one_name q.name p.name (kinds ∙ ap kind_of_name name_is) (q.number_absent openly) (p.number_absent any))))
  ]

  named_at : unit_of_name plan name ≡ Some u
  named_at = of_its_unit plan u p name at (ap kind_of_name (sym name_is), inl (sym name_is)) unnumbered no_kind

-- the unit of its own NAME
pub named : (plan : Plan) → AreNamesDistinct (units_of plan) → (u : ℕ) → is_unit plan u ≡ true
    → unit_of_name plan (unit_at (units_of plan) u).name ≡ Some u
named plan distinct u unit =
    let there = there_is plan.units.items u (ltb-true u (count_of plan) unit) in
    named_at plan distinct u unit there.0 there.1

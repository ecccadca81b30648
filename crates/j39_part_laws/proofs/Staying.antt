-- A unit that stays in the whole, or is alone there, is so in the part.
use Rattle.std.proofs.Common.{◌≡◌, ◌≢◌, ℕ, ◌<◌, true, false, List, length, map, Some, sym, ◌∙◌, ap, subst, inl, inr, arith}
use Rattle.std.specs.FinSet.{FinSet, contains}
use Rattle.std.specs.List.{slice_get}
use Rattle.std.specs.Ordering.{nat_cmp}
use Rattle.std.proofs.lemmas.List.{length-map}
use Rattle.std.proofs.lemmas.Option.{slice_get_within}
use Rattle.j39_id.specs.Addresses.{in_pool}
use Rattle.j39_id.specs.Name.{is_arbitrary}
use Rattle.j39_claim.specs.ClaimRule.{PlannedUnit}
use Rattle.j39_findings.proofs.WhoStays.{placed}
use Rattle.j39_network.specs.PlannedUnits.{planned_unit, units_of, unit_at}
use Rattle.j39_network.specs.Staying.{EachOther, EachSmaller, IsAloneBeside, IsAloneThere, IsFirstThere, IsOutsidePool, Stays, StaysBeside}
use Rattle.j39_network.specs.declared.plan.Plan.{Plan}
use Rattle.j39_network.specs.declared.plan.unit_plan.UnitPlan.{UnitPlan}
use Rattle.j39_part_laws.specs.PlanParts.{IsPartAt, IsSame, Places, StayThere}
use Rattle.j39_part_laws.proofs.Places.{apart, same_there}

-- ---- a list of units, and one in which each of them stands at some place

record AreThere (place : ℕ → ℕ) (units others : List PlannedUnit) : Type 0 where
  same : (u : ℕ) → u < length units → unit_at others (place u) ≡ unit_at units u
  inside : (u : ℕ) → u < length units → place u < length others
  differ : (u v : ℕ) → u ≢ v → place u ≢ place v

module _ (place : ℕ → ℕ) (units others : List PlannedUnit) (are : AreThere place units others) where
  -- what is so of one there is so of it here
  over : (u : ℕ) → u < length units → (P : PlannedUnit → Type 0) → P (unit_at others (place u)) → P (unit_at units u)
  over u within P = subst P (are.same u within)

  back : (u : ℕ) → u < length units → (P : PlannedUnit → Type 0) → P (unit_at units u) → P (unit_at others (place u))
  back u within P = subst P (sym (are.same u within))

  each_smaller : (u : ℕ) → u < length units → (P Q : ℕ → Type 0) → ((v : ℕ) → v < length units → P (place v) → Q v)
      → EachSmaller others (place u) P → EachSmaller units u Q
  each_smaller u in_u P Q to each v in_v less =
      to v in_v (each (place v) (are.inside v in_v)
      (back v in_v (λ p. p.name < (unit_at others (place u)).name) (back u in_u (λ p. (unit_at units v).name < p.name) less)))

  each_other : (u : ℕ) → (P Q : ℕ → Type 0) → ((v : ℕ) → v < length units → P (place v) → Q v) → EachOther others (place u) P → EachOther units u Q
  each_other u P Q to each v in_v other = to v in_v (each (place v) (are.inside v in_v) (are.differ u v other))

  apart_here : (u v : ℕ) → u < length units → v < length units → (unit_at others (place v)).preferred ≢ (unit_at others (place u)).preferred
      → (unit_at units v).preferred ≢ (unit_at units u).preferred
  apart_here u v in_u in_v apart =
      over u in_u (λ p. (unit_at units v).preferred ≢ p.preferred) (over v in_v (λ p. p.preferred ≢ (unit_at others (place u)).preferred) apart)

  first_here : (u : ℕ) → u < length units → IsFirstThere others (place u) → IsFirstThere units u
  first_here u in_u = each_smaller u in_u (λ v. (unit_at others v).preferred ≢ (unit_at others (place u)).preferred)
      (λ v. (unit_at units v).preferred ≢ (unit_at units u).preferred) (λ v in_v. apart_here u v in_u in_v)

  outside_here : (u : ℕ) → u < length units → IsOutsidePool others (place u) → IsOutsidePool units u
  outside_here u in_u = over u in_u (λ p. in_pool p.preferred ≡ false)

  stays_here : (u : ℕ) → u < length units → Stays others (place u) → Stays units u
  stays_here u in_u stays = record {
    first = first_here u in_u stays.first;
    unmoved = elim stays.unmoved [
      | inl outside ↦ inl (outside_here u in_u outside)
      | inr each ↦ inr (each_smaller u in_u (λ v. is_arbitrary (unit_at others v).name ≡ true → IsFirstThere others v)
          (λ v. is_arbitrary (unit_at units v).name ≡ true → IsFirstThere units v)
          (λ v in_v first arbitrary. first_here v in_v (first (back v in_v (λ p. is_arbitrary p.name ≡ true) arbitrary))) each)
    ];
  }

  beside_here : (strangers u : ℕ) → u < length units → StaysBeside strangers others (place u) → StaysBeside strangers units u
  beside_here strangers u in_u (stays, none_or_fixed) = (
    stays_here u in_u stays,
    elim none_or_fixed [ inl none ↦ inl none | inr fixed ↦ inr (over u in_u (λ p. is_arbitrary p.name ≡ false) fixed) ],
  )

  alone_here : (keep_free : FinSet nat_cmp) (u : ℕ) → u < length units → IsAloneThere keep_free others (place u) → IsAloneThere keep_free units u
  alone_here keep_free u in_u alone = record {
    inside = in_u;
    planned = each_other u (λ v. (unit_at others v).preferred ≢ (unit_at others (place u)).preferred)
        (λ v. (unit_at units v).preferred ≢ (unit_at units u).preferred) (λ v in_v. apart_here u v in_u in_v) alone.planned;
    unreached = elim alone.unreached [
      | inl outside ↦ inl (outside_here u in_u outside)
      | inr (inl kept) ↦ inr (inl (over u in_u (λ p. contains keep_free p.preferred ≡ true) kept))
      | inr (inr each) ↦ inr (inr (each_other u (λ v. is_arbitrary (unit_at others v).name ≡ true → Stays others v)
          (λ v. is_arbitrary (unit_at units v).name ≡ true → Stays units v)
          (λ v in_v stays arbitrary. stays_here v in_v (stays (back v in_v (λ p. is_arbitrary p.name ≡ true) arbitrary))) each))
    ];
  }

  alone_beside_here : (strangers : ℕ) (keep_free : FinSet nat_cmp) (u : ℕ) → u < length units → IsAloneBeside strangers keep_free others (place u)
      → IsAloneBeside strangers keep_free units u
  alone_beside_here strangers keep_free u in_u (there, beside) = (
    alone_here keep_free u in_u there,
    elim beside [ inl none ↦ inl none | inr outside ↦ inr (outside_here u in_u outside) ],
  )

-- ---- the units of a part

-- at its place stands the unit as it is planned
pub planned_at : (kept : FinSet nat_cmp) (units : List UnitPlan) (u : ℕ) (unit : UnitPlan) → slice_get units u ≡ Some unit
    → unit_at (map (planned_unit kept) units) u ≡ planned_unit kept unit
planned_at kept units u unit at =
    let within = slice_get_within units u unit at in
    let (found, found_at, its) = placed kept units u (omega (arith, within, length-map units (planned_unit kept))) in
    its ∙ ap (planned_unit kept) (some_same (sym found_at ∙ at))
  where
    some_same : {x y : UnitPlan} → Some x ≡ Some y → x ≡ y
    some_same same = cc

module _ (at : Places) (part whole : Plan) (is : IsPartAt at part whole) where
  within_plan : (u : ℕ) → u < length (units_of part) → u < length part.units.items
  within_plan u within = let counted = length-map part.units.items (planned_unit part.keep_free) in omega (arith, within, counted)

  within_units : (u : ℕ) → u < length part.units.items → u < length (units_of part)
  within_units u within = let counted = length-map part.units.items (planned_unit part.keep_free) in omega (arith, within, counted)

  -- each unit as it claims
  same_unit : (u : ℕ) → u < length (units_of part) → unit_at (units_of whole) (at.unit u) ≡ unit_at (units_of part) u
  same_unit u within =
      let (unit, here, its) = placed part.keep_free part.units.items u within in
      let there = same_there at.unit part.units.items whole.units.items is.units u unit here in
      planned_at whole.keep_free whole.units.items (at.unit u) unit there ∙ ap (λ kept. planned_unit kept unit) (sym is.keep_free) ∙ sym its

  is_inside : (u : ℕ) → u < length (units_of part) → at.unit u < length (units_of whole)
  is_inside u within =
      let (unit, here, its) = placed part.keep_free part.units.items u within in
      let there = slice_get_within whole.units.items (at.unit u) unit (same_there at.unit part.units.items whole.units.items is.units u unit here) in
      let counted = length-map whole.units.items (planned_unit whole.keep_free) in
      omega (arith, there, counted)

  are_there : AreThere at.unit (units_of part) (units_of whole)
  are_there = record { same = same_unit; inside = is_inside; differ = apart at.unit IsSame part.units.items whole.units.items is.units }

  pub stay_there : StayThere at part whole
  stay_there = record {
    stays = λ u within. stays_here at.unit (units_of part) (units_of whole) are_there u (within_units u within);
    beside = λ u within there. subst (λ n. StaysBeside n (units_of part) u) (sym is.strangers)
        (beside_here at.unit (units_of part) (units_of whole) are_there whole.strangers u (within_units u within) there);
    alone = λ u within there. subst (λ n. IsAloneBeside n part.keep_free (units_of part) u) (sym is.strangers)
        (subst (λ kept. IsAloneBeside whole.strangers kept (units_of part) u) (sym is.keep_free)
        (alone_beside_here at.unit (units_of part) (units_of whole) are_there whole.strangers whole.keep_free u (within_units u within) there));
  }

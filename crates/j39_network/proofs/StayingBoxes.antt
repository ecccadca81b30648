-- Who stays in the plan stays in that of each vehicle, and the other way round, where no two units may be one.
use Rattle.std.proofs.Common.{◌≡◌, ◌≢◌, ℕ, zero, suc, ◌<◌, ◌≤◌, ◌⊎◌, true, nat_lt, List, [], ◌∷◌, length, map, Some, refl, sym, ◌∙◌, ap, inl, inr, arith}
use Rattle.std.specs.FinSet.{FinSet, contains, empty}
use Rattle.std.specs.List.{AllZip, slice_get}
use Rattle.std.specs.Ordering.{nat_cmp}
use Rattle.std.proofs.lemmas.Bool.Decides.{Decides-ltb}
use Rattle.std.proofs.lemmas.List.{length-map}
use Rattle.std.proofs.lemmas.Slice.Zip.{AllZip-long}
use Rattle.j39_id.specs.Addresses.{in_pool}
use Rattle.j39_id.specs.Name.{is_arbitrary}
use Rattle.j39_claim.specs.ClaimRule.{PlannedUnit}
use Rattle.j39_network.specs.Kinds.{AreDistinctUnits}
use Rattle.j39_network.specs.VehiclePlans.{IsBoxOf, IsVehicleOf}
use Rattle.j39_network.specs.declared.plan.Plan.{Plan}
use Rattle.j39_network.specs.declared.plan.unit_plan.UnitPlan.{UnitPlan}
use Rattle.j39_network.proofs.VehicleUnits.{box_chooses, ordered}
use Rattle.j39_network.specs.PlannedUnits.{planned_unit, units_of, unit_at}
use Rattle.j39_network.specs.Staying.{EachOther, EachSmaller, IsAloneThere, IsFirstThere, IsOutsidePool, StayAlike, Stays, StaysBeside}

-- ---- two lists of units whose places, choices and order of NAMEs are alike

-- what the second has of the first
record AreAlike (units others : List PlannedUnit) : Type 0 where
  count : length others ≡ length units
  places : (u : ℕ) → (unit_at others u).preferred ≡ (unit_at units u).preferred
  choices : (u : ℕ) → is_arbitrary (unit_at others u).name ≡ is_arbitrary (unit_at units u).name
  order : (u v : ℕ) → v < length others → (unit_at others v).name < (unit_at others u).name → (unit_at units v).name < (unit_at units u).name

module _ (units others : List PlannedUnit) (alike : AreAlike units others) where
  each_smaller : (u : ℕ) (P Q : ℕ → Type 0) → ((v : ℕ) → P v → Q v) → EachSmaller units u P → EachSmaller others u Q
  each_smaller u P Q over each v in_v less =
      let count = alike.count in
      let within : v < length units = omega (arith, in_v, count) in
      over v (each v within (alike.order u v in_v less))

  each_other : (u : ℕ) (P Q : ℕ → Type 0) → ((v : ℕ) → P v → Q v) → EachOther units u P → EachOther others u Q
  each_other u P Q over each v in_v other =
      let count = alike.count in
      let within : v < length units = omega (arith, in_v, count) in
      over v (each v within other)

  apart_there : (u v : ℕ) → (unit_at units v).preferred ≢ (unit_at units u).preferred → (unit_at others v).preferred ≢ (unit_at others u).preferred
  apart_there u v apart same = apart (sym (alike.places v) ∙ same ∙ alike.places u)

  chosen : (v : ℕ) → is_arbitrary (unit_at others v).name ≡ true → is_arbitrary (unit_at units v).name ≡ true
  chosen v arbitrary = sym (alike.choices v) ∙ arbitrary

  first_over : (u : ℕ) → IsFirstThere units u → IsFirstThere others u
  first_over u = each_smaller u (λ v. (unit_at units v).preferred ≢ (unit_at units u).preferred)
      (λ v. (unit_at others v).preferred ≢ (unit_at others u).preferred) (apart_there u)

  outside_over : (u : ℕ) → IsOutsidePool units u → IsOutsidePool others u
  outside_over u outside = ap in_pool (alike.places u) ∙ outside

  stays_over : (u : ℕ) → Stays units u → Stays others u
  stays_over u stays = record {
    first = first_over u stays.first;
    unmoved = elim stays.unmoved [
      | inl outside ↦ inl (outside_over u outside)
      | inr each ↦ inr (each_smaller u (λ v. is_arbitrary (unit_at units v).name ≡ true → IsFirstThere units v)
          (λ v. is_arbitrary (unit_at others v).name ≡ true → IsFirstThere others v)
          (λ v first arbitrary. first_over v (first (chosen v arbitrary))) each)
    ];
  }

  beside_over : (strangers u : ℕ) → StaysBeside strangers units u → StaysBeside strangers others u
  beside_over strangers u (stays, none_or_fixed) = (
    stays_over u stays,
    elim none_or_fixed [ inl none ↦ inl none | inr fixed ↦ inr (alike.choices u ∙ fixed) ],
  )

  alone_over : (keep_free : FinSet nat_cmp) (u : ℕ) → IsAloneThere keep_free units u → IsAloneThere keep_free others u
  alone_over keep_free u alone = record {
    inside = let count = alike.count in let within = alone.inside in omega (arith, count, within);
    planned = each_other u (λ v. (unit_at units v).preferred ≢ (unit_at units u).preferred)
        (λ v. (unit_at others v).preferred ≢ (unit_at others u).preferred) (apart_there u) alone.planned;
    unreached = elim alone.unreached [
      | inl outside ↦ inl (outside_over u outside)
      | inr (inl kept) ↦ inr (inl (ap (contains keep_free) (alike.places u) ∙ kept))
      | inr (inr each) ↦ inr (inr (each_other u (λ v. is_arbitrary (unit_at units v).name ≡ true → Stays units v)
          (λ v. is_arbitrary (unit_at others v).name ≡ true → Stays others v)
          (λ v stays arbitrary. stays_over v (stays (chosen v arbitrary))) each))
    ];
  }

-- ---- the units of a plan and those of a vehicle

abbrev nobody : PlannedUnit
nobody = record { name = 0; preferred = 0; kept = empty; claims = true }

-- what stands at a place in both
record AreBoxed (first second : FinSet nat_cmp) (xs ys : List UnitPlan) (k : ℕ) : Type 0 where
  unit : UnitPlan
  box : UnitPlan
  unit_is : slice_get xs k ≡ Some unit
  box_is : slice_get ys k ≡ Some box
  of : IsBoxOf unit box
  planned : unit_at (map (planned_unit first) xs) k ≡ planned_unit first unit
  boxed : unit_at (map (planned_unit second) ys) k ≡ planned_unit second box

-- or nothing does in either
record AreMissing (first second : FinSet nat_cmp) (xs ys : List UnitPlan) (k : ℕ) : Type 0 where
  beyond : length xs ≤ k
  planned : unit_at (map (planned_unit first) xs) k ≡ nobody
  boxed : unit_at (map (planned_unit second) ys) k ≡ nobody

at_place : (first second : FinSet nat_cmp) (xs ys : List UnitPlan) → AllZip IsBoxOf xs ys → (k : ℕ)
    → AreBoxed first second xs ys k ⊎ AreMissing first second xs ys k
at_place first second [] [] all k = inr (record { beyond = omega arith; planned = refl; boxed = refl })
at_place first second [] (y ∷ ys) all k = absurd all
at_place first second (x ∷ xs) [] all k = absurd all
at_place first second (x ∷ xs) (y ∷ ys) all zero =
    inl (record { unit = x; box = y; unit_is = refl; box_is = refl; of = all.0; planned = refl; boxed = refl })
at_place first second (x ∷ xs) (y ∷ ys) all (suc k) = elim (at_place first second xs ys all.1 k) [
  | inl here ↦ inl (record {
    unit = here.unit;
    box = here.box;
    unit_is = here.unit_is;
    box_is = here.box_is;
    of = here.of;
    planned = here.planned;
    boxed = here.boxed;
  })
  | inr none ↦ let beyond = none.beyond in inr (record { beyond = omega (arith, beyond); planned = none.planned; boxed = none.boxed })
]

module _ (plan vehicle : Plan) (is : IsVehicleOf plan vehicle) (apart : AreDistinctUnits plan) where
  abbrev us : List PlannedUnit
  us = units_of plan

  abbrev bs : List PlannedUnit
  bs = units_of vehicle

  abbrev Boxed : ℕ → Type 0
  Boxed = AreBoxed plan.keep_free vehicle.keep_free plan.units.items vehicle.units.items

  abbrev Missing : ℕ → Type 0
  Missing = AreMissing plan.keep_free vehicle.keep_free plan.units.items vehicle.units.items

  at : (u : ℕ) → Boxed u ⊎ Missing u
  at u = at_place plan.keep_free vehicle.keep_free plan.units.items vehicle.units.items is.boxes u

  same_count : length bs ≡ length us
  same_count =
      length-map vehicle.units.items (planned_unit vehicle.keep_free) ∙ AllZip-long IsBoxOf plan.units.items vehicle.units.items is.boxes
      ∙ sym (length-map plan.units.items (planned_unit plan.keep_free))

  same_place : (u : ℕ) → (unit_at bs u).preferred ≡ (unit_at us u).preferred
  same_place u = elim (at u) [
    | inl here ↦
        ap (λ (p : PlannedUnit). p.preferred) here.boxed ∙ here.of.address ∙ sym (ap (λ (p : PlannedUnit). p.preferred) here.planned)
    | inr none ↦ ap (λ (p : PlannedUnit). p.preferred) (none.boxed ∙ sym none.planned)
  ]

  same_choices : (u : ℕ) → is_arbitrary (unit_at bs u).name ≡ is_arbitrary (unit_at us u).name
  same_choices u = elim (at u) [
    | inl here ↦
        ap (λ (p : PlannedUnit). is_arbitrary p.name) here.boxed ∙ box_chooses here.unit here.box here.of
        ∙ sym (ap (λ (p : PlannedUnit). is_arbitrary p.name) here.planned)
    | inr none ↦ ap (λ (p : PlannedUnit). is_arbitrary p.name) (none.boxed ∙ sym none.planned)
  ]

  -- of two units at different places the NAMEs of the boxes are ordered as theirs
  same_orders : (u v : ℕ) → u ≢ v → Boxed u → Boxed v
      → nat_lt (unit_at bs v).name (unit_at bs u).name ≡ nat_lt (unit_at us v).name (unit_at us u).name
  same_orders u v differ one other =
      let alike = ordered plan vehicle is apart v u other.unit one.unit other.box one.box other.unit_is one.unit_is other.of one.of
      (λ same. differ (sym same)) in
      ap (λ (p : PlannedUnit). nat_lt p.name (unit_at bs u).name) other.boxed
      ∙ ap (λ (p : PlannedUnit). nat_lt other.box.name p.name) one.boxed
      ∙ alike.order
      ∙ sym (ap (λ (p : PlannedUnit). nat_lt other.unit.name p.name) one.planned)
      ∙ sym (ap (λ (p : PlannedUnit). nat_lt p.name (unit_at us u).name) other.planned)

  -- a smaller NAME in one is one in the other
  in_order : (xs ys : List PlannedUnit) → ((w : ℕ) → Missing w → (unit_at ys w).name ≡ 0) → length ys ≡ length us
      → ((u v : ℕ) → u ≢ v → Boxed u → Boxed v → nat_lt (unit_at ys v).name (unit_at ys u).name ≡ nat_lt (unit_at xs v).name (unit_at xs u).name)
      → (u v : ℕ) → v < length ys → (unit_at ys v).name < (unit_at ys u).name → (unit_at xs v).name < (unit_at xs u).name
  in_order xs ys missing count orders u v in_v less = elim (at u) [
    | inr none ↦ let zero_there = missing u none in absurd (omega (arith, zero_there, less))
    | inl one ↦ elim (at v) [
      | inr none ↦
          let beyond = none.beyond in
          let counted = length-map plan.units.items (planned_unit plan.keep_free) in
          absurd (omega (arith, beyond, in_v, count, counted))
      | inl other ↦
          let differ : u ≢ v = λ same. let one_name = ap (λ k. (unit_at ys k).name) same in absurd (omega (arith, less, one_name)) in
          (Decides-ltb (unit_at xs v).name (unit_at xs u).name).0
          (sym (orders u v differ one other) ∙ (Decides-ltb (unit_at ys v).name (unit_at ys u).name).1 less)
    ]
  ]

  to_vehicle : AreAlike us bs
  to_vehicle = record {
    count = same_count;
    places = same_place;
    choices = same_choices;
    order = in_order us bs (λ w none. ap (λ (p : PlannedUnit). p.name) none.boxed) same_count same_orders;
  }

  to_plan : AreAlike bs us
  to_plan = record {
    count = sym same_count;
    places = λ u. sym (same_place u);
    choices = λ u. sym (same_choices u);
    order = in_order bs us (λ w none. ap (λ (p : PlannedUnit). p.name) none.planned) refl (λ u v differ one other. sym (same_orders u v differ one other));
  }

  -- an address is outside the pool in both
  pub outside_alike : (u : ℕ) → IsOutsidePool us u → IsOutsidePool bs u
  outside_alike = outside_over us bs to_vehicle

  pub outside_back : (u : ℕ) → IsOutsidePool bs u → IsOutsidePool us u
  outside_back = outside_over bs us to_plan

  pub stay_alike : StayAlike plan.keep_free plan.strangers us bs
  stay_alike = record {
    stay = λ u. (stays_over us bs to_vehicle u, stays_over bs us to_plan u);
    beside = λ u. (beside_over us bs to_vehicle plan.strangers u, beside_over bs us to_plan plan.strangers u);
    alone = λ u. (alone_over us bs to_vehicle plan.keep_free u, alone_over bs us to_plan plan.keep_free u);
  }

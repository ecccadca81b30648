-- The units of a plan: a run's steps are theirs alone.
use Rattle.std.proofs.Common.{◌≡◌, ◌≢◌, ℕ, zero, suc, ◌+◌, ◌≤◌, ◌<◌, arith, Bool, true, false, not, ◌&&◌, eqb, List, [], ◌++◌, length, refl, sym}
use Rattle.std.proofs.Common.{subst, inl, inr}
use Rattle.std.proofs.lemmas.Bool.{cases_eq, cases_order, eqb-true, cond_both, and_parts, ltb-true}
use Rattle.std.proofs.lemmas.List.{length-map}
use Rattle.std.specs.List.{list_all, range_with_len}
use Rattle.j39_claim.specs.declared.item.Item.{Item}
use Rattle.j39_claim.specs.ClaimRule.{PlannedUnit, ClaimState}
use Rattle.j39_network.specs.declared.plan.Plan.{Plan}
use Rattle.j39_network.specs.PlannedUnits.{units_of, unit_at, planned_unit}
use Rattle.j39_world.specs.ClaimSteps.{sent_to_others, without_lists_to}
use Rattle.j39_world.specs.Opening.{AreNamesDistinct}
use Rattle.j39_world.specs.Run.{count_of, both}
use Rattle.j39_run_laws.proofs.Runs.Conditions.{is_unit}
use Rattle.j39_world.specs.World.{Stations, Undelivered, changed, is_other_on}
use Rattle.j39_run_laws.proofs.Runs.Changed.{changed_each}

-- ---- places of units

unit_below : (plan : Plan) (u : ℕ) → is_unit plan u ≡ true → u < count_of plan
unit_below plan u unit = ltb-true u (count_of plan) unit

pub in_units : (plan : Plan) (u : ℕ) → is_unit plan u ≡ true → u < length (units_of plan)
in_units plan u unit = let below : u < count_of plan = unit_below plan u unit in omega (arith, length-map plan.units.items (planned_unit plan.keep_free))

-- a test that all pass
range_all : (test : ℕ → Bool) (a n : ℕ) → list_all test (range_with_len a n) ≡ true → (x : ℕ) → a ≤ x → x < a + n → test x ≡ true
range_all test a zero all x from to = absurd (omega arith)
range_all test a (suc n) all x from to =
    let both = and_parts (test a) (list_all test (range_with_len (a + 1) n)) all in
    elim (cases_eq a x) [
      | inl same ↦ subst (λ k. test k ≡ true) same both.0
      | inr other ↦ range_all test (a + 1) n both.1 x (omega arith) (omega arith)
    ]

pub units_all : (plan : Plan) (test : ℕ → Bool) → list_all test (range_with_len 0 (count_of plan)) ≡ true → (u : ℕ) → is_unit plan u ≡ true → test u ≡ true
units_all plan test all u unit = let below : u < count_of plan = unit_below plan u unit in range_all test 0 (count_of plan) all u (omega arith) (omega arith)

pub names_differ : (units : List PlannedUnit) → AreNamesDistinct units → (u v : ℕ) → u < length units → v < length units → u ≢ v
    → (unit_at units u).name ≢ (unit_at units v).name
names_differ units distinct u v in_u in_v other same =
    elim (cases_order u v) [
      | inl is ↦ other is
      | inr (inl below) ↦ distinct u v (record { below = below; inside = in_v; same = same })
      | inr (inr above) ↦ distinct v u (record { below = above; inside = in_u; same = sym same })
    ]

-- ---- units alone are on, and send to each other

abbrev pub AreUnitsOn : Plan → Stations → Type 0
AreUnitsOn plan stations = (u : ℕ) → (stations u).on ≡ true → is_unit plan u ≡ true

abbrev pub AreBetweenUnits : Plan → Undelivered → Type 0
AreBetweenUnits plan claims = (s t : ℕ) → both (is_unit plan) s t ≡ false → claims s t ≡ []

pub units_on : (plan : Plan) (stations : Stations) (u : ℕ) (s : ClaimState) → is_unit plan u ≡ true → AreUnitsOn plan stations
    → AreUnitsOn plan (changed stations u s)
units_on plan stations u s unit old = changed_each (λ x y. y.on ≡ true → is_unit plan x ≡ true) stations u s (λ _. unit) old

-- no list is longer
abbrev pub AreEmptyStill : Undelivered → Undelivered → Type 0
AreEmptyStill claims less = (s t : ℕ) → claims s t ≡ [] → less s t ≡ []

pub without_lists_empty : (claims : Undelivered) (u : ℕ) → AreEmptyStill claims (without_lists_to u claims)
without_lists_empty claims u s t is = cond_both (eqb t u) [] (claims s t) (λ (xs : List Item). xs ≡ []) (λ _. refl) (λ _. is)

not_both : (a b : Bool) → a ≡ true → b ≡ true → (a && b) ≡ false → ⊥
not_both true true e f g = cc g
not_both true false e f g = cc f
not_both false b e f g = cc e

-- what a unit sends is between units
pub stated_between : (plan : Plan) (stations : Stations) → AreUnitsOn plan stations → (claims : Undelivered) → AreBetweenUnits plan claims
    → (u : ℕ) → is_unit plan u ≡ true → (items : List Item) → AreBetweenUnits plan (sent_to_others stations claims u items)
stated_between plan stations on claims between u unit items s t outside =
    cond_both (eqb s u && is_other_on stations u t) (claims s t ++ items) (claims s t) (λ (xs : List Item). xs ≡ [])
    (λ is. let parts = and_parts (eqb s u) (is_other_on stations u t) is in
    let hearing = and_parts (stations t).on (not (eqb t u)) parts.1 in
    let unit_s : is_unit plan s ≡ true = subst (λ k. is_unit plan k ≡ true) (sym (eqb-true s u parts.0)) unit in
    absurd (not_both (is_unit plan s) (is_unit plan t) unit_s (on t hearing.0) outside))
    (λ _. between s t outside)

-- Which units stay is reported by the least NAME at each address, and the least of those that may have to move.
use Rattle.std.proofs.Common.{◌≡◌, ◌⊎◌, ℕ, zero, suc, [], ◌∷◌, ◌+◌, ◌<◌, ◌≤◌, arith, Bool, true, false, not, cond, ◌&&◌, ◌||◌, ltb, map, List, length, get_or}
use Rattle.std.proofs.Common.{set, replicate, refl, sym, ap, ◌∙◌, subst, inl, inr, Option, Some, None}
use Rattle.std.proofs.lemmas.Bool.{cases_Bool, cases_eq, leb-true, leb-false, ltb-true, ltb-false, not-true, and_from, and_parts, true≢false}
use Rattle.std.proofs.lemmas.List.{get_or-replicate, get_or-set_same, get_or-set_other, length-map, length-replicate, length-set}
use Rattle.std.proofs.lemmas.Option.{same_Some, slice_get_within}
use Rattle.std.specs.Bool.{MatchBool}
use Rattle.std.specs.FinSet.{FinSet}
use Rattle.std.specs.List.{slice_get}
use Rattle.std.specs.Ordering.{nat_cmp}
use Rattle.j39_id.specs.Addresses.{in_pool}
use Rattle.j39_id.specs.Name.{is_arbitrary}
use Rattle.j39_claim.specs.ClaimRule.{PlannedUnit}
use Rattle.j39_network.specs.declared.plan.Plan.{Plan}
use Rattle.j39_network.specs.declared.plan.unit_plan.UnitPlan.{UnitPlan}
use Rattle.j39_network.specs.PlannedUnits.{planned_unit, units_of, unit_at}
use Rattle.j39_network.specs.Staying.{EachSmaller, IsFirstThere, IsOutsidePool, Stays}
use Rattle.j39_findings.specs.Standing.{AreFirsts, DecidesWhoStays, IsLeastName, IsMover, is_first_by, is_least, is_mover_by, is_settled, smaller, stays_by}

module _ (units : List UnitPlan) (count : ℕ) (Among : UnitPlan → Type 0) (least : Option ℕ) (old : IsLeastName units count Among least)
    (unit : UnitPlan) (at : slice_get units count ≡ Some unit) where
  -- it is one of these, or one before
  last_or_before : (R : Type 0) (u : ℕ) (x : UnitPlan) → u < count + 1 → slice_get units u ≡ Some x → (u < count → R) → (unit ≡ x → R) → R
  last_or_before R u x below is before last = elim (cases_eq u count) [
    | inl same ↦ last (same_Some _ _ (sym at ∙ ap (slice_get units) (sym same) ∙ is))
    | inr other ↦ before (omega (arith, other))
  ]

  -- the unit behind them is none of these
  pub least_skips : ¬ Among unit → IsLeastName units (count + 1) Among least
  least_skips none = record {
    one = λ n is. let (u, x, below, at_u, among, name) = old.one n is in (u, x, omega arith, at_u, among, name);
    below = λ u x inside is among. last_or_before ((n : ℕ) × (least ≡ Some n) × (n ≤ x.name)) u x inside is
        (λ before. old.below u x before is among) (λ same. absurd (none (subst Among (sym same) among)));
  }

  -- the unit behind them is one of these
  pub least_takes : Among unit → IsLeastName units (count + 1) Among (Some (smaller least unit.name))
  least_takes among = record { one = one least refl; below = below least refl }
    where
      one : (o : Option ℕ) → least ≡ o → (n : ℕ) → Some (smaller o unit.name) ≡ Some n
          → (u : ℕ) × (x : UnitPlan) × (u < count + 1) × (slice_get units u ≡ Some x) × Among x × (x.name ≡ n)
      one None is n e = (count, unit, omega arith, at, among, same_Some _ _ e)
      one (Some m) is n e = elim (cases_Bool (ltb m unit.name)) [
        | inl less ↦
            let same : m ≡ n = sym (ap (λ b. cond b m unit.name) less) ∙ same_Some _ _ e in
            let (u, x, inside, at_u, its, name) = old.one m is in
            (u, x, omega arith, at_u, its, name ∙ same)
        | inr more ↦ (count, unit, omega arith, at, among, sym (ap (λ b. cond b m unit.name) more) ∙ same_Some _ _ e)
      ]

      below : (o : Option ℕ) → least ≡ o → (u : ℕ) (x : UnitPlan) → u < count + 1 → slice_get units u ≡ Some x → Among x
          → (n : ℕ) × (Some (smaller o unit.name) ≡ Some n) × (n ≤ x.name)
      below None is u x inside at_u its = last_or_before _ u x inside at_u
          (λ before. let (n, has, _) = old.below u x before at_u its in absurd (let e = sym is ∙ has in cc))
          (λ same. (unit.name, refl, let e = ap (λ (w : UnitPlan). w.name) same in omega (arith, e)))
      below (Some m) is u x inside at_u its = elim (cases_Bool (ltb m unit.name)) [
        | inl less ↦ (
          m,
          ap (λ b. Some (cond b m unit.name)) less,
          last_or_before (m ≤ x.name) u x inside at_u
              (λ before. let (n, has, bound) = old.below u x before at_u its in let same : m ≡ n = same_Some _ _ (sym is ∙ has) in omega (arith, same, bound))
              (λ same. let e = ap (λ (w : UnitPlan). w.name) same in let l = ltb-true m unit.name less in omega (arith, e, l)),
        )
        | inr more ↦ (
          unit.name,
          ap (λ b. Some (cond b m unit.name)) more,
          last_or_before (unit.name ≤ x.name) u x inside at_u
              (λ before. let (n, has, bound) = old.below u x before at_u its in
              let same : m ≡ n = same_Some _ _ (sym is ∙ has) in let l = ltb-false m unit.name more in omega (arith, same, bound, l))
              (λ same. let e = ap (λ (w : UnitPlan). w.name) same in omega (arith, e)),
        )
      ]

pub none_least : (units : List UnitPlan) (Among : UnitPlan → Type 0) → IsLeastName units 0 Among None
none_least units Among = record { one = λ n e. absurd (let f = e in cc); below = λ u x inside. absurd (omega arith) }

-- one more unit is entered at its address
pub entered : (units : List UnitPlan) (count : ℕ) (firsts : List (Option ℕ)) → AreFirsts units count firsts
    → (unit : UnitPlan) → slice_get units count ≡ Some unit
    → AreFirsts units (count + 1) (set firsts unit.address (Some (smaller (get_or firsts unit.address None) unit.name)))
entered units count firsts old unit at =
    let new : List (Option ℕ) = set firsts unit.address (Some (smaller (get_or firsts unit.address None) unit.name)) in
    let place : unit.address < 256 = omega (arith, unit.address_range) in
    record {
      size = length-set firsts unit.address (Some (smaller (get_or firsts unit.address None) unit.name)) ∙ old.size;
      each = λ a inside. elim (cases_eq a unit.address) [
        | inl same ↦
            subst (λ k. IsLeastName units (count + 1) (λ x. x.address ≡ k) (get_or new k None)) (sym same)
            (subst (IsLeastName units (count + 1) (λ x. x.address ≡ unit.address))
            (sym (get_or-set_same firsts unit.address (Some (smaller (get_or firsts unit.address None) unit.name)) None (omega (arith, old.size, place))))
            (least_takes units count (λ x. x.address ≡ unit.address) (get_or firsts unit.address None) (old.each unit.address place) unit at refl))
        | inr other ↦
            subst (IsLeastName units (count + 1) (λ x. x.address ≡ a))
            (sym (get_or-set_other firsts unit.address a (Some (smaller (get_or firsts unit.address None) unit.name)) None other))
            (least_skips units count (λ x. x.address ≡ a) (get_or firsts a None) (old.each a inside) unit at (λ e. other (sym e)))
      ];
    }

pub none_entered : (units : List UnitPlan) → AreFirsts units 0 (replicate 256 None)
none_entered units = record {
  size = length-replicate {A = Option ℕ} 256 None;
  each = λ a inside. subst (IsLeastName units 0 (λ x. x.address ≡ a)) (sym (get_or-replicate 256 a None None inside)) (none_least units (λ x. x.address ≡ a));
}

-- ---- what they report

least-true : (least : Option ℕ) (name n : ℕ) → is_least least name ≡ true → least ≡ Some n → name ≤ n
least-true None name n is e = absurd (cc)
least-true (Some m) name n is e = let same : m ≡ n = same_Some _ _ e in let at_most = leb-true name m is in omega (arith, same, at_most)

least-false : (least : Option ℕ) (name : ℕ) → is_least least name ≡ false → (n : ℕ) × (least ≡ Some n) × (n < name)
least-false None name is = absurd (true≢false is)
least-false (Some m) name is = (m, refl, leb-false name m is)

pub stated_by : (b : Bool) (P Q : Type 0) → (b ≡ true → P) → (b ≡ false → Q) → MatchBool b P Q
stated_by true P Q is isnt = is refl
stated_by false P Q is isnt = isnt refl

both_stated : (a b : Bool) (P Q : Type 0) → MatchBool a P (¬ P) → MatchBool b Q (¬ Q) → MatchBool (a && b) (P × Q) (¬ (P × Q))
both_stated true true P Q p q = (p, q)
both_stated true false P Q p q = λ both. q both.1
both_stated false b P Q p q = λ both. p both.0

pub some_come : (strangers : ℕ) → MatchBool (ltb 0 strangers) (0 < strangers) (strangers ≡ 0)
some_come strangers =
    stated_by (ltb 0 strangers) _ _ (λ is. ltb-true 0 strangers is) (λ isnt. let most = ltb-false 0 strangers isnt in omega arith)

-- a place of a unit has its plan
pub placed : (kept : FinSet nat_cmp) (ps : List UnitPlan) (i : ℕ) → i < length (map (planned_unit kept) ps)
    → (p : UnitPlan) × (slice_get ps i ≡ Some p) × (unit_at (map (planned_unit kept) ps) i ≡ planned_unit kept p)
placed kept [] i inside = absurd (omega arith)
placed kept (p ∷ ps) zero inside = (p, refl, refl)
placed kept (p ∷ ps) (suc i) inside = placed kept ps i (omega arith)

pub planned_at : (kept : FinSet nat_cmp) (ps : List UnitPlan) (u : ℕ) (unit : UnitPlan) → slice_get ps u ≡ Some unit
    → (u < length (map (planned_unit kept) ps)) × (unit_at (map (planned_unit kept) ps) u ≡ planned_unit kept unit)
planned_at kept ps u unit at =
    let inside : u < length (map (planned_unit kept) ps) =
    let below = slice_get_within ps u unit at in omega (arith, below, length-map ps (planned_unit kept)) in
    let (p, at_p, is) = placed kept ps u inside in
    (inside, is ∙ ap (planned_unit kept) (same_Some _ _ (sym at_p ∙ at)))

module _ (plan : Plan) (firsts : List (Option ℕ)) (mover : Option ℕ) (are_firsts : AreFirsts plan.units.items (length plan.units.items) firsts)
    (is_mover : IsMover plan.units.items (length plan.units.items) firsts mover) where
  abbrev IsAt : ℕ → UnitPlan → Type 0
  IsAt u unit = slice_get plan.units.items u ≡ Some unit

  by_address : (unit : UnitPlan)
      → IsLeastName plan.units.items (length plan.units.items) (λ x. x.address ≡ unit.address) (get_or firsts unit.address None)
  by_address unit = are_firsts.each unit.address (omega (arith, unit.address_range))

  pub first_stated : (u : ℕ) (unit : UnitPlan) → IsAt u unit → is_first_by firsts unit ≡ true → IsFirstThere (units_of plan) u
  first_stated u unit at is v in_v smaller same =
      let (_, is_u) = planned_at plan.keep_free plan.units.items u unit at in
      let (p, at_v, is_v) = placed plan.keep_free plan.units.items v in_v in
      let one : p.address ≡ unit.address = sym (ap (λ (c : PlannedUnit). c.preferred) is_v) ∙ same ∙ ap (λ (c : PlannedUnit). c.preferred) is_u in
      let (n, least, below) = (by_address unit).below v p (slice_get_within plan.units.items v p at_v) at_v one in
      let at_most = least-true (get_or firsts unit.address None) unit.name n is least in
      let name_u = ap (λ (c : PlannedUnit). c.name) is_u in
      let name_v = ap (λ (c : PlannedUnit). c.name) is_v in
      omega (arith, at_most, below, smaller, name_u, name_v)

  pub not_first_stated : (u : ℕ) (unit : UnitPlan) → IsAt u unit → is_first_by firsts unit ≡ false → ¬ IsFirstThere (units_of plan) u
  not_first_stated u unit at isnt first =
      let (_, is_u) = planned_at plan.keep_free plan.units.items u unit at in
      let (n, least, below) = least-false (get_or firsts unit.address None) unit.name isnt in
      let (v, p, inside, at_v, one, name) = (by_address unit).one n least in
      let (in_v, is_v) = planned_at plan.keep_free plan.units.items v p at_v in
      let name_u = ap (λ (c : PlannedUnit). c.name) is_u in
      let name_v = ap (λ (c : PlannedUnit). c.name) is_v in
      first v in_v (omega (arith, below, name, name_u, name_v))
      (ap (λ (c : PlannedUnit). c.preferred) is_v ∙ one ∙ sym (ap (λ (c : PlannedUnit). c.preferred) is_u))

  none_moves_stated : (u : ℕ) (unit : UnitPlan) → IsAt u unit → is_least mover unit.name ≡ true
      → EachSmaller (units_of plan) u (λ v. is_arbitrary (unit_at (units_of plan) v).name ≡ true → IsFirstThere (units_of plan) v)
  none_moves_stated u unit at is v in_v smaller arbitrary =
      let (_, is_u) = planned_at plan.keep_free plan.units.items u unit at in
      let (p, at_v, is_v) = placed plan.keep_free plan.units.items v in_v in
      elim (cases_Bool (is_first_by firsts p)) [
        | inl first ↦ first_stated v p at_v first
        | inr second ↦
            let moves : is_mover_by firsts p ≡ true =
            and_from (is_arbitrary p.name) (not (is_first_by firsts p)) (sym (ap (λ (c : PlannedUnit). is_arbitrary c.name) is_v) ∙ arbitrary)
            (ap not second) in
            let (n, least, below) = is_mover.below v p (slice_get_within plan.units.items v p at_v) at_v moves in
            let at_most = least-true mover unit.name n is least in
            let name_u = ap (λ (c : PlannedUnit). c.name) is_u in
            let name_v = ap (λ (c : PlannedUnit). c.name) is_v in
            absurd (omega (arith, at_most, below, smaller, name_u, name_v))
      ]

  one_moves_stated : (u : ℕ) (unit : UnitPlan) → IsAt u unit → is_least mover unit.name ≡ false
      → ¬ EachSmaller (units_of plan) u (λ v. is_arbitrary (unit_at (units_of plan) v).name ≡ true → IsFirstThere (units_of plan) v)
  one_moves_stated u unit at isnt none =
      let (_, is_u) = planned_at plan.keep_free plan.units.items u unit at in
      let (n, least, below) = least-false mover unit.name isnt in
      let (v, p, inside, at_v, moves, name) = is_mover.one n least in
      let (in_v, is_v) = planned_at plan.keep_free plan.units.items v p at_v in
      let parts = and_parts (is_arbitrary p.name) (not (is_first_by firsts p)) moves in
      let name_u = ap (λ (c : PlannedUnit). c.name) is_u in
      let name_v = ap (λ (c : PlannedUnit). c.name) is_v in
      not_first_stated v p at_v (not-true (is_first_by firsts p) parts.1)
      (none v in_v (omega (arith, below, name, name_u, name_v)) (ap (λ (c : PlannedUnit). is_arbitrary c.name) is_v ∙ parts.0))

  -- the address is outside, or none moves
  unmoved_stated : (u : ℕ) (unit : UnitPlan) → IsAt u unit → (pool : Bool) → in_pool (unit_at (units_of plan) u).preferred ≡ pool
      → (not pool || is_least mover unit.name) ≡ true
      → IsOutsidePool (units_of plan) u
      ⊎ EachSmaller (units_of plan) u (λ v. is_arbitrary (unit_at (units_of plan) v).name ≡ true → IsFirstThere (units_of plan) v)
  unmoved_stated u unit at false outside stated = inl outside
  unmoved_stated u unit at true inside stated = inr (none_moves_stated u unit at stated)

  moved_stated : (u : ℕ) (unit : UnitPlan) → IsAt u unit → (pool : Bool) → in_pool (unit_at (units_of plan) u).preferred ≡ pool
      → (not pool || is_least mover unit.name) ≡ false → ¬ Stays (units_of plan) u
  moved_stated u unit at false outside stated stays = true≢false stated
  moved_stated u unit at true inside stated stays = elim (stays.unmoved) [
    | inl outside ↦ true≢false (sym inside ∙ outside)
    | inr none ↦ one_moves_stated u unit at stated none
  ]

  stays_reported : (u : ℕ) (unit : UnitPlan) → IsAt u unit → MatchBool (stays_by firsts mover unit) (Stays (units_of plan) u) (¬ Stays (units_of plan) u)
  stays_reported u unit at =
      let (_, is_u) = planned_at plan.keep_free plan.units.items u unit at in
      let pool : in_pool (unit_at (units_of plan) u).preferred ≡ in_pool unit.address = ap (λ (c : PlannedUnit). in_pool c.preferred) is_u in
      stated_by (stays_by firsts mover unit) _ _
      (λ is. let parts = and_parts (is_first_by firsts unit) (not (in_pool unit.address) || is_least mover unit.name) is in
      record {
        first = first_stated u unit at parts.0;
        unmoved = unmoved_stated u unit at (in_pool unit.address) pool parts.1;
      })
      (λ isnt stays. elim (cases_Bool (is_first_by firsts unit)) [
        | inr second ↦ not_first_stated u unit at second stays.first
        | inl one ↦ moved_stated u unit at (in_pool unit.address) pool
            (sym (ap (λ b. b && (not (in_pool unit.address) || is_least mover unit.name)) one) ∙ isnt) stays
      ])

  -- none comes, or it may not choose
  settled_stated : (strangers : Bool) → MatchBool strangers (0 < plan.strangers) (plan.strangers ≡ 0) → (u : ℕ) (unit : UnitPlan) → IsAt u unit
      → MatchBool (is_settled strangers unit) ((plan.strangers ≡ 0) ⊎ (is_arbitrary (unit_at (units_of plan) u).name ≡ false))
      (¬ ((plan.strangers ≡ 0) ⊎ (is_arbitrary (unit_at (units_of plan) u).name ≡ false)))
  settled_stated false none u unit at = inl none
  settled_stated true some u unit at =
      let (_, is_u) = planned_at plan.keep_free plan.units.items u unit at in
      let name : is_arbitrary (unit_at (units_of plan) u).name ≡ is_arbitrary unit.name = ap (λ (c : PlannedUnit). is_arbitrary c.name) is_u in
      stated_by (not (is_arbitrary unit.name)) _ _
      (λ fixed. inr (name ∙ not-true (is_arbitrary unit.name) fixed))
      (λ chooses either. elim either [
        | inl none ↦ absurd (let more : 0 < plan.strangers = some in omega arith)
        | inr fixed ↦ true≢false (sym (ap not (sym name ∙ fixed)) ∙ chooses)
      ])

  pub stated : (strangers : Bool) → MatchBool strangers (0 < plan.strangers) (plan.strangers ≡ 0)
      → DecidesWhoStays plan (λ unit. stays_by firsts mover unit && is_settled strangers unit)
  stated strangers come u unit at =
      both_stated (stays_by firsts mover unit) (is_settled strangers unit) _ _ (stays_reported u unit at) (settled_stated strangers come u unit at)

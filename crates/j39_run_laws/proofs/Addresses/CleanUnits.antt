-- What a plan without findings has of its units.
use Rattle.std.proofs.Common.{◌≡◌, ◌≢◌, ℕ, zero, suc, ◌+◌, ◌^◌, ◌<◌, ◌≤◌, ◌⊎◌, Bool, true, false, cond, ◌&&◌, ◌||◌, List, [], ◌∷◌, length, map, inl, inr, Some}
use Rattle.std.proofs.Common.{refl, sym}
use Rattle.std.proofs.Common.{ap, ◌∙◌, arith}
use Rattle.std.proofs.lemmas.Bool.{cases_Bool, cases_lt, cases_order}
use Rattle.std.proofs.lemmas.List.Sums.{sum_by-cons}
use Rattle.std.specs.List.{count_by, slice_get}
use Rattle.std.specs.Ordering.{nat_cmp}
use Rattle.std.specs.FinSet.{FinSet, contains}
use Rattle.j39_claim.specs.AddressSets.{is_free, free_count}
use Rattle.j39_claim.specs.ClaimRule.{PlannedUnit}
use Rattle.j39_id.specs.Name.{is_arbitrary}
use Rattle.j39_id.specs.Addresses.{in_pool}
use Rattle.j39_findings.specs.Findings.{Clean, Holds}
use Rattle.j39_findings.specs.Found.{needed_addresses, needs_pool_address}
use Rattle.j39_findings.proofs.Deciding.{Decides-needs_pool_address}
use Rattle.j39_search.proofs.Deciding.{passing_meet}
use Rattle.j39_findings.specs.declared.checking.finding.Finding.TheVariants.{SameName, SameFixedAddress, TooFewAddresses, KeptAddress, SilentAddress}
use Rattle.j39_findings.specs.declared.checking.finding.Finding.TheVariants.{SilentInPool}
use Rattle.j39_findings.proofs.WhoStays.{placed}
use Rattle.j39_network.specs.Kinds.{kind_of_name}
use Rattle.j39_network.specs.declared.plan.Plan.{Plan}
use Rattle.j39_network.specs.declared.plan.unit_plan.UnitPlan.{UnitPlan}
use Rattle.j39_network.specs.PlannedUnits.{planned_unit, units_of, unit_at}
use Rattle.j39_world.specs.Opening.{AreNamesDistinct}

-- it may hold an address of 128..247 that isn't kept free
abbrev pub needs_pool : PlannedUnit → Bool
needs_pool p = is_arbitrary p.name || (in_pool p.preferred && is_free p.kept p.preferred)

-- no two fixed units have one address
abbrev pub AreFixedApart : List PlannedUnit → Type 0
AreFixedApart units =
    (i j : ℕ) → i < j → j < length units → is_arbitrary (unit_at units i).name ≡ false → is_arbitrary (unit_at units j).name ≡ false
    → (unit_at units i).preferred ≢ (unit_at units j).preferred

pub record IsClean (units : List PlannedUnit) : Type 0 where
  -- NAMEs have 64 bits
  pub range : (i : ℕ) → i < length units → (unit_at units i).name < 2 ^ 64
  -- no two units have one NAME
  pub names : AreNamesDistinct units
  pub fixed : AreFixedApart units
  -- the same addresses are kept free of each unit
  pub kept_free : FinSet nat_cmp
  pub kept : (i : ℕ) → i < length units → (unit_at units i).kept ≡ kept_free
  -- 128..247 has an address that isn't kept free for each unit that may hold one there
  pub room : count_by needs_pool units ≤ free_count kept_free
  -- no arbitrary unit prefers one that is kept free
  pub unkept : (i : ℕ) → i < length units → is_arbitrary (unit_at units i).name ≡ true
      → contains (unit_at units i).kept (unit_at units i).preferred ≡ false
  -- no other unit has the address of one that doesn't claim, and this is none to which units move
  pub silent_apart : (s u : ℕ) → s < length units → u < length units → u ≢ s → (unit_at units s).claims ≡ false
      → (unit_at units u).preferred ≢ (unit_at units s).preferred
  pub silent_kept : (s : ℕ) → s < length units → (unit_at units s).claims ≡ false → in_pool (unit_at units s).preferred ≡ true
      → contains (unit_at units s).kept (unit_at units s).preferred ≡ true

-- a unit of a list stands at its place
pub stands : (kept : FinSet nat_cmp) (ps : List UnitPlan) (i : ℕ) (p : UnitPlan) → slice_get ps i ≡ Some p
    → (i < length ps) × (unit_at (map (planned_unit kept) ps) i ≡ planned_unit kept p)
stands kept [] i p is = absurd (cc)
stands kept (q ∷ ps) zero p is = let same : q ≡ p = cc in (omega arith, ap (planned_unit kept) same)
stands kept (q ∷ ps) (suc i) p is = let rest = stands kept ps i p is in (omega (arith, rest.0), rest.1)

pub count : (kept : FinSet nat_cmp) (ps : List UnitPlan) → count_by needs_pool (map (planned_unit kept) ps) ≡ count_by (needs_pool_address kept) ps
count kept [] = refl
count kept (p ∷ ps) =
    let one = sum_by-cons (λ x. cond (needs_pool x) 1 0) (planned_unit kept p) (map (planned_unit kept) ps) in
    let planned = sum_by-cons (λ x. cond (needs_pool_address kept x) 1 0) p ps in
    rw (one, planned) (omega (arith, count kept ps))

-- NAMEs have 64 bits
pub names_in_range : (plan : Plan) (i : ℕ) → i < length (units_of plan) → (unit_at (units_of plan) i).name < 2 ^ 64
names_in_range plan i inside =
    let (p, is, at) = placed plan.keep_free plan.units.items i inside in
    rw at p.name_range

-- where that is no finding
silent_in_order : (plan : Plan) → ((i j : ℕ) → ¬ Holds plan (SilentAddress i j)) → (i j : ℕ) → i < j → j < length (units_of plan)
    → ((unit_at (units_of plan) i).claims ≡ false) ⊎ ((unit_at (units_of plan) j).claims ≡ false)
    → (unit_at (units_of plan) i).preferred ≢ (unit_at (units_of plan) j).preferred
silent_in_order plan none i j below inside silent same =
    let (p, p_is, at_i) = placed plan.keep_free plan.units.items i (omega arith) in
    let (q, q_is, at_j) = placed plan.keep_free plan.units.items j inside in
    none i j (record {
      first = p;
      second = q;
      below = below;
      first_is = p_is;
      second_is = q_is;
      related = (
        sym (ap (λ (c : PlannedUnit). c.preferred) at_i) ∙ same ∙ ap (λ (c : PlannedUnit). c.preferred) at_j,
        elim silent [
          | inl one ↦ inl (sym (ap (λ (c : PlannedUnit). c.claims) at_i) ∙ one)
          | inr other ↦ inr (sym (ap (λ (c : PlannedUnit). c.claims) at_j) ∙ other)
        ],
      );
    })

silent_anywhere : (plan : Plan) → ((i j : ℕ) → ¬ Holds plan (SilentAddress i j)) → (s u : ℕ) → s < length (units_of plan) → u < length (units_of plan)
    → u ≢ s → (unit_at (units_of plan) s).claims ≡ false → (unit_at (units_of plan) u).preferred ≢ (unit_at (units_of plan) s).preferred
silent_anywhere plan none s u in_s in_u other silent same = elim (cases_order u s) [
  | inl is ↦ other is
  | inr (inl below) ↦ silent_in_order plan none u s below in_s (inr silent) same
  | inr (inr above) ↦ silent_in_order plan none s u above in_u (inl silent) (sym same)
]

pub fixed_in_order : (plan : Plan) → ((i j : ℕ) → ¬ Holds plan (SameFixedAddress i j)) → ((i j : ℕ) → ¬ Holds plan (SilentAddress i j))
    → AreFixedApart (units_of plan)
fixed_in_order plan none silent i j below inside fixed_i fixed_j same =
    let (p, p_is, at_i) = placed plan.keep_free plan.units.items i (omega arith) in
    let (q, q_is, at_j) = placed plan.keep_free plan.units.items j inside in
    elim (cases_Bool (unit_at (units_of plan) i).claims) [
      | inr one ↦ silent_in_order plan silent i j below inside (inl one) same
      | inl claims_i ↦ elim (cases_Bool (unit_at (units_of plan) j).claims) [
        | inr other ↦ silent_in_order plan silent i j below inside (inr other) same
        | inl claims_j ↦ none i j (record {
          first = p;
          second = q;
          below = below;
          first_is = p_is;
          second_is = q_is;
          related = (
            sym (ap (λ (c : PlannedUnit). is_arbitrary c.name) at_i) ∙ fixed_i,
            sym (ap (λ (c : PlannedUnit). is_arbitrary c.name) at_j) ∙ fixed_j,
            sym (ap (λ (c : PlannedUnit). c.preferred) at_i) ∙ same ∙ ap (λ (c : PlannedUnit). c.preferred) at_j,
            sym (ap (λ (c : PlannedUnit). c.claims) at_i) ∙ claims_i,
            sym (ap (λ (c : PlannedUnit). c.claims) at_j) ∙ claims_j,
          );
        })
      ]
    ]

-- a unit of the pool that doesn't claim stands at an address that is kept free, and no strangers come
pub unreached : (plan : Plan) → Clean plan → (s : ℕ) → s < length (units_of plan) → (unit_at (units_of plan) s).claims ≡ false
    → in_pool (unit_at (units_of plan) s).preferred ≡ true
    → (contains plan.keep_free (unit_at (units_of plan) s).preferred ≡ true) × (plan.strangers ≡ 0)
unreached plan clean s inside silent pool =
    let (p, is, at) = placed plan.keep_free plan.units.items s inside in
    let silent_p : p.claims ≡ false = sym (ap (λ (c : PlannedUnit). c.claims) at) ∙ silent in
    let pool_p : in_pool p.address ≡ true = sym (ap (λ (c : PlannedUnit). in_pool c.preferred) at) ∙ pool in
    let kept : contains plan.keep_free p.address ≡ true = elim (cases_Bool (contains plan.keep_free p.address)) [
      | inl kept ↦ kept
      | inr free ↦ absurd (clean (SilentInPool s) (record { value = p; value_is = is; meets = (silent_p, pool_p, inl free) }))
    ] in
    let known : plan.strangers ≡ 0 = elim (cases_lt 0 plan.strangers) [
      | inl some ↦ absurd (clean (SilentInPool s) (record { value = p; value_is = is; meets = (silent_p, pool_p, inr some) }))
      | inr none ↦ omega (arith, none)
    ] in
    (ap (λ (c : PlannedUnit). contains plan.keep_free c.preferred) at ∙ kept, known)

-- no arbitrary unit prefers an address that is kept free
pub unkept : (plan : Plan) → Clean plan → (i : ℕ) → i < length (units_of plan) → is_arbitrary (unit_at (units_of plan) i).name ≡ true
    → contains plan.keep_free (unit_at (units_of plan) i).preferred ≡ false
unkept plan clean i inside arbitrary =
    let (p, is, at) = placed plan.keep_free plan.units.items i inside in
    let free : contains plan.keep_free p.address ≡ false =
    elim (cases_Bool (contains plan.keep_free p.address)) [
      | inl kept ↦ absurd (clean (KeptAddress i) (record {
        value = p;
        value_is = is;
        meets = (sym (ap (λ (c : PlannedUnit). is_arbitrary c.name) at) ∙ arbitrary, kept);
      }))
      | inr free ↦ free
    ] in
    ap (λ (c : PlannedUnit). contains plan.keep_free c.preferred) at ∙ free

-- the pool has an address that isn't kept free for each that needs one, and for each stranger
pub room_stated : (plan : Plan) → Clean plan → count_by (needs_pool_address plan.keep_free) plan.units.items + plan.strangers ≤ free_count plan.keep_free
room_stated plan clean =
    let needed = needed_addresses plan.keep_free plan.strangers plan.units.items in
    let planned = count_by (needs_pool_address plan.keep_free) plan.units.items in
    elim (cases_lt (free_count plan.keep_free) needed) [
      | inl too_many ↦
          absurd (clean (TooFewAddresses needed) ((planned, passing_meet (Decides-needs_pool_address plan.keep_free) plan.units.items, refl), too_many))
      | inr few ↦ few
    ]

pub clean_units : (plan : Plan) → Clean plan → IsClean (units_of plan)
clean_units plan clean = record {
  range = names_in_range plan;
  names = λ i j one.
      let below : i < j = one.below in
      let inside : j < length (units_of plan) = one.inside in
      let (p, p_is, at_i) = placed plan.keep_free plan.units.items i (omega arith) in
      let (q, q_is, at_j) = placed plan.keep_free plan.units.items j inside in
      let same : p.name ≡ q.name = sym (ap (λ (c : PlannedUnit). c.name) at_i) ∙ one.same ∙ ap (λ (c : PlannedUnit). c.name) at_j in
      clean (SameName i j) (record {
        first = p;
        second = q;
        below = below;
        first_is = p_is;
        second_is = q_is;
        related = (ap kind_of_name same, inl same);
      });
  fixed = fixed_in_order plan (λ i j. clean (SameFixedAddress i j)) (λ i j. clean (SilentAddress i j));
  kept_free = plan.keep_free;
  kept = λ i inside.
      let (p, is, at) = placed plan.keep_free plan.units.items i inside in
      ap (λ (c : PlannedUnit). c.kept) at;
  room = omega (arith, count plan.keep_free plan.units.items, room_stated plan clean);
  unkept = λ i inside arbitrary.
      let (p, is, at) = placed plan.keep_free plan.units.items i inside in
      ap (λ (c : PlannedUnit). contains c.kept (unit_at (units_of plan) i).preferred) at ∙ unkept plan clean i inside arbitrary;
  silent_apart = silent_anywhere plan (λ i j. clean (SilentAddress i j));
  silent_kept = λ s inside silent pool.
      let (p, is, at) = placed plan.keep_free plan.units.items s inside in
      ap (λ (c : PlannedUnit). contains c.kept (unit_at (units_of plan) s).preferred) at ∙ (unreached plan clean s inside silent pool).0;
}

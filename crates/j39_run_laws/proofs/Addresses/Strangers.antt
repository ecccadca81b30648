-- With strangers: a clean plan has room for so many as it has, and a unit that may not choose stays.
use Rattle.std.proofs.Common.{◌≡◌, ◌≢◌, ℕ, zero, suc, ◌+◌, ◌<◌, ◌≤◌, Bool, true, false, cond, not, ◌&&◌, List, [], ◌∷◌, ◌++◌, length, map, get_or, All, refl}
use Rattle.std.proofs.Common.{sym, ap, ◌∙◌, subst, inl, inr}
use Rattle.std.proofs.Common.{arith, leb, Some, None, ◌⊎◌}
use Rattle.std.proofs.lemmas.Bool.{and_parts, and_from, cases_Bool, cases_lt, leb-true, or_left, or_parts, or_right, true≢false, not-true}
use Rattle.std.proofs.lemmas.List.{length-append, length-map}
use Rattle.std.proofs.lemmas.List.FromFn.{length-range_with_len}
use Rattle.std.proofs.lemmas.List.Sums.{count_by-le-length, sum_by-append}
use Rattle.std.proofs.lemmas.Option.{slice_get-get_or}
use Rattle.std.specs.FinMap.{get}
use Rattle.std.specs.FinSet.{FinSet, contains, contains-empty, empty}
use Rattle.std.specs.List.{count_by, range_with_len, slice_get}
use Rattle.std.specs.Ordering.{nat_cmp}
use Rattle.j39_id.specs.Addresses.{in_pool}
use Rattle.j39_id.specs.Name.{is_arbitrary}
use Rattle.j39_claim.specs.AddressSets.{free_count, is_free}
use Rattle.j39_claim.specs.ClaimRule.{ClaimState, IsFree, PlannedUnit}
use Rattle.j39_findings.specs.Findings.{Clean}
use Rattle.j39_findings.specs.Found.{is_fixed, needs_pool_address}
use Rattle.j39_findings.specs.declared.checking.finding.Finding.TheVariants.{SameFixedAddress, SilentAddress}
use Rattle.j39_findings.proofs.WhoStays.{placed}
use Rattle.j39_network.specs.declared.plan.Plan.{Plan}
use Rattle.j39_network.specs.declared.plan.unit_plan.UnitPlan.{UnitPlan}
use Rattle.j39_network.specs.PlannedUnits.{planned_unit, units_of, unit_at}
use Rattle.j39_world.specs.Sound.{AreAddressesDifferent, AreAddressesSound, IsQuiet}
use Rattle.j39_world.specs.SoundPlan.{AlwaysBeside}
use Rattle.j39_network.specs.Staying.{Stays, StaysBeside}
use Rattle.j39_world.specs.HeldAddresses.{HoldsPlanned}
use Rattle.j39_world.specs.Strangers.{HasStrangers}
use Rattle.j39_run_laws.proofs.Addresses.AddressInvariant.{AllNoted, IsOwn}
use Rattle.j39_run_laws.proofs.Addresses.CleanUnits.{IsClean, clean_units, count, names_in_range, needs_pool, room_stated, unreached}
use Rattle.j39_run_laws.proofs.Addresses.Counting.{count_all, count_either, count_none, count_range}
use Rattle.j39_run_laws.proofs.Addresses.FreeAddress.{one_left}
use Rattle.j39_run_laws.proofs.Addresses.SoundAddresses.{addresses_sound, invariant, quiet_apart}
use Rattle.j39_run_laws.proofs.Addresses.Staying.{stand, stay}
use Rattle.j39_run_laws.proofs.Addresses.Turns.{fixed_below, no_own}

-- ---- the units at their places

-- a planned unit stands where it stood, whatever is kept free of it
pub same_at : (k l : FinSet nat_cmp) (ps ss : List UnitPlan) (u : ℕ) → u < length ps
    → ((unit_at (map (planned_unit k) (ps ++ ss)) u).name ≡ (unit_at (map (planned_unit l) ps) u).name)
    × ((unit_at (map (planned_unit k) (ps ++ ss)) u).preferred ≡ (unit_at (map (planned_unit l) ps) u).preferred)
    × ((unit_at (map (planned_unit k) (ps ++ ss)) u).claims ≡ (unit_at (map (planned_unit l) ps) u).claims)
same_at k l [] ss u inside = absurd (omega arith)
same_at k l (p ∷ ps) ss zero inside = (refl, refl, refl)
same_at k l (p ∷ ps) ss (suc u) inside = same_at k l ps ss u (omega arith)

arbitrary_at : (k : FinSet nat_cmp) (ss : List UnitPlan) → All (λ s. is_arbitrary s.name ≡ true) ss → (u : ℕ) → u < length ss
    → is_arbitrary (unit_at (map (planned_unit k) ss) u).name ≡ true
arbitrary_at k [] choose u inside = absurd (omega arith)
arbitrary_at k (s ∷ ss) choose zero inside = choose zero s (omega arith)
arbitrary_at k (s ∷ ss) choose (suc u) inside = arbitrary_at k ss (λ i d less. choose (suc i) d (omega arith)) u (omega arith)

-- what is kept free of a unit changes nothing else of it
pub same_but_kept : (k l : FinSet nat_cmp) (ps : List UnitPlan) (u : ℕ)
    → ((unit_at (map (planned_unit k) ps) u).name ≡ (unit_at (map (planned_unit l) ps) u).name)
    × ((unit_at (map (planned_unit k) ps) u).preferred ≡ (unit_at (map (planned_unit l) ps) u).preferred)
same_but_kept k l [] u = (refl, refl)
same_but_kept k l (p ∷ ps) zero = (refl, refl)
same_but_kept k l (p ∷ ps) (suc u) = same_but_kept k l ps u

-- behind them stand the strangers
behind_at : (k : FinSet nat_cmp) (ps ss : List UnitPlan) → All (λ s. is_arbitrary s.name ≡ true) ss → (u : ℕ) → length ps ≤ u → u < length (ps ++ ss)
    → is_arbitrary (unit_at (map (planned_unit k) (ps ++ ss)) u).name ≡ true
behind_at k [] ss choose u past inside = arbitrary_at k ss choose u inside
behind_at k (p ∷ ps) ss choose zero past inside = absurd (omega arith)
behind_at k (p ∷ ps) ss choose (suc u) past inside = behind_at k ps ss choose u (omega arith) (omega arith)

-- what holds of all of the first units holds of each, and what holds of all behind them of each behind them
module _ (P : UnitPlan → Type 0) where
  of_all : (ss : List UnitPlan) → All P ss → (u : ℕ) (p : UnitPlan) → slice_get ss u ≡ Some p → P p
  of_all [] all u p is = absurd (cc is)
  of_all (s ∷ ss) all zero p is = let same : s ≡ p = cc in subst P same (all zero s (omega arith))
  of_all (s ∷ ss) all (suc u) p is = of_all ss (λ i d less. all (suc i) d (omega arith)) u p is

  of_first : (ps ss : List UnitPlan) → All P ps → (u : ℕ) → u < length ps → (p : UnitPlan) → slice_get (ps ++ ss) u ≡ Some p → P p
  of_first [] ss all u inside p is = absurd (omega arith)
  of_first (q ∷ ps) ss all zero inside p is = let same : q ≡ p = cc in subst P same (all zero q (omega arith))
  of_first (q ∷ ps) ss all (suc u) inside p is = of_first ps ss (λ i d less. all (suc i) d (omega arith)) u (omega arith) p is

  of_behind : (ps ss : List UnitPlan) → All P ss → (u : ℕ) → length ps ≤ u → (p : UnitPlan) → slice_get (ps ++ ss) u ≡ Some p → P p
  of_behind [] ss all u past p is = of_all ss all u p is
  of_behind (q ∷ ps) ss all zero past p is = absurd (omega arith)
  of_behind (q ∷ ps) ss all (suc u) past p is = of_behind ps ss all u (omega arith) p is

-- ---- room

-- a fixed unit at an address that is kept free
abbrev is_kept_there : FinSet nat_cmp → UnitPlan → Bool
is_kept_there kept p = is_fixed p && (in_pool p.address && contains kept p.address)

-- a unit needs an address where nothing is kept free that doesn't where these are, only if it is fixed at one of them
needs_or_kept : (kept : FinSet nat_cmp) (p : UnitPlan) → needs_pool_address empty p ≡ true → needs_pool_address kept p ≡ false → is_kept_there kept p ≡ true
needs_or_kept kept p needs doesnt =
    let apart = or_parts (is_arbitrary p.name) (in_pool p.address && is_free kept p.address) doesnt in
    let fixed : is_fixed p ≡ true = ap not apart.0 in
    let there : (in_pool p.address && is_free empty p.address) ≡ true = rw apart.0 at needs in
    let pool = (and_parts (in_pool p.address) (is_free empty p.address) there).0 in
    elim (cases_Bool (contains kept p.address)) [
      | inl is ↦ and_from (is_fixed p) (in_pool p.address && contains kept p.address) fixed (and_from (in_pool p.address) (contains kept p.address) pool is)
      | inr isnt ↦ absurd (true≢false (sym (and_from (in_pool p.address) (is_free kept p.address) pool (ap not isnt)) ∙ apart.1))
    ]

count_free : (kept : FinSet nat_cmp) → count_by (contains kept) (range_with_len 128 120) + free_count kept ≡ 120
unfolding free_count
count_free kept = count_all (contains kept) (range_with_len 128 120) ∙ length-range_with_len 128 120

all_free : free_count empty ≡ 120
all_free =
    let none = count_none (contains (empty {R = nat_cmp})) (λ b is. true≢false (sym is ∙ contains-empty nat_cmp b)) (range_with_len 128 120) in
    omega (arith, none, count_free empty)

-- units that are kept there, of which no two have one address, are at most as many as addresses are kept free
count_kept : (kept : FinSet nat_cmp) (ps : List UnitPlan)
    → ((i j : ℕ) (d : UnitPlan) → i < j → j < length ps → is_kept_there kept (get_or ps i d) ≡ true → is_kept_there kept (get_or ps j d) ≡ true
    → (get_or ps i d).address ≢ (get_or ps j d).address)
    → count_by (is_kept_there kept) ps ≤ count_by (contains kept) (range_with_len 128 120)
count_kept kept [] apart = omega arith
count_kept kept (p ∷ ps) apart =
    let test : UnitPlan → Bool = is_kept_there kept in
    let pool_of : (x : UnitPlan) → test x ≡ true → in_pool x.address ≡ true =
    λ x is. (and_parts (in_pool x.address) (contains kept x.address) (and_parts (is_fixed x) (in_pool x.address && contains kept x.address) is).1).0 in
    let kept_of : (x : UnitPlan) → test x ≡ true → contains kept x.address ≡ true =
    λ x is. (and_parts (in_pool x.address) (contains kept x.address) (and_parts (is_fixed x) (in_pool x.address && contains kept x.address) is).1).1 in
    let most : (x : UnitPlan) → test x ≡ true → x.address < 128 + 120 =
    λ x is. let high = leb-true x.address 247 (and_parts (leb 128 x.address) (leb x.address 247) (pool_of x is)).1 in omega arith in
    let each_from : (x : UnitPlan) → test x ≡ true → (test x && leb 128 x.address) ≡ false → false ≡ true =
    λ x is isnt. sym isnt ∙ and_from (test x) (leb 128 x.address) is (and_parts (leb 128 x.address) (leb x.address 247) (pool_of x is)).0 in
    let above = count_either test (λ x. test x && leb 128 x.address) (λ x. false) each_from (p ∷ ps) in
    let none = count_none {A = UnitPlan} (λ x. false) (λ x is. true≢false (sym is)) (p ∷ ps) in
    let range = count_range test (λ x. x.address) (contains kept) p (p ∷ ps) (λ i j below inside. apart i j p below inside) kept_of 128 120 most in
    omega (arith, above, none, range)

module _ (plan : Plan) (clean : Clean plan) where
  -- no two fixed units stand at one address
  fixed_apart : (i j : ℕ) (d : UnitPlan) → i < j → j < length plan.units.items
      → is_kept_there plan.keep_free (get_or plan.units.items i d) ≡ true → is_kept_there plan.keep_free (get_or plan.units.items j d) ≡ true
      → (get_or plan.units.items i d).address ≢ (get_or plan.units.items j d).address
  fixed_apart i j d below inside one other same =
      let fixed : (x : UnitPlan) → is_kept_there plan.keep_free x ≡ true → is_arbitrary x.name ≡ false =
      λ x is. not-true (is_arbitrary x.name) (and_parts (is_fixed x) (in_pool x.address && contains plan.keep_free x.address) is).0 in
      let first : UnitPlan = get_or plan.units.items i d in
      let second : UnitPlan = get_or plan.units.items j d in
      let first_is = slice_get-get_or plan.units.items i d (omega arith) in
      let second_is = slice_get-get_or plan.units.items j d inside in
      let silent : (first.claims ≡ false) ⊎ (second.claims ≡ false) → ⊥ =
      λ none. clean (SilentAddress i j) (record {
        first = first;
        second = second;
        below = below;
        first_is = first_is;
        second_is = second_is;
        related = (same, none);
      }) in
      let claims : (x : UnitPlan) → (x.claims ≡ false → ⊥) → x.claims ≡ true =
      λ x never. elim (cases_Bool x.claims) [ inl is ↦ is | inr none ↦ absurd (never none) ] in
      clean (SameFixedAddress i j) (record {
        first = first;
        second = second;
        below = below;
        first_is = first_is;
        second_is = second_is;
        related = (fixed first one, fixed second other, same, claims first (λ none. silent (inl none)), claims second (λ none. silent (inr none)));
      })

  -- where nothing is kept free there is room for all of them, and for so many others
  pub room_for_few : (ss : List UnitPlan) → count_by (needs_pool_address empty) ss ≤ plan.strangers
      → count_by (needs_pool_address empty) (plan.units.items ++ ss) ≤ free_count empty
  room_for_few ss few =
      let kept = plan.keep_free in
      let both = sum_by-append (λ x. cond (needs_pool_address empty x) 1 0) plan.units.items ss in
      let split = count_either (needs_pool_address empty) (needs_pool_address kept) (is_kept_there kept) (needs_or_kept kept) plan.units.items in
      let at_kept = count_kept kept plan.units.items fixed_apart in
      omega (arith, both, few, split, at_kept, count_free kept, all_free, room_stated plan clean)

  room_for_all : (ss : List UnitPlan) → length ss ≤ plan.strangers → count_by (needs_pool_address empty) (plan.units.items ++ ss) ≤ free_count empty
  room_for_all ss few = room_for_few ss (let others = count_by-le-length (needs_pool_address empty) ss in omega (arith, few, others))

module _ (plan joined : Plan) (ss : List UnitPlan) (come : HasStrangers plan joined ss) where
  abbrev planned : List UnitPlan
  planned = plan.units.items

  count_units : length (units_of joined) ≡ length planned + length ss
  count_units = rw (length-map, come.behind, length-append)

  named : (u : ℕ) → u < length planned → (unit_at (units_of joined) u).name ≡ (unit_at (units_of plan) u).name
  named u inside = rw come.behind ((same_at joined.keep_free plan.keep_free planned ss u inside).0)

  preferring : (u : ℕ) → u < length planned → (unit_at (units_of joined) u).preferred ≡ (unit_at (units_of plan) u).preferred
  preferring u inside = rw come.behind ((same_at joined.keep_free plan.keep_free planned ss u inside).1)

  claiming : (u : ℕ) → u < length planned → (unit_at (units_of joined) u).claims ≡ (unit_at (units_of plan) u).claims
  claiming u inside = rw come.behind ((same_at joined.keep_free plan.keep_free planned ss u inside).2)

  -- what stands at a place of all of them
  at_place : (u : ℕ) → u < length (units_of joined)
      → (p : UnitPlan) × (slice_get (planned ++ ss) u ≡ Some p) × (unit_at (units_of joined) u ≡ planned_unit joined.keep_free p)
  at_place u inside =
      let (p, is, at) = placed joined.keep_free joined.units.items u inside in
      (p, ap (λ (xs : List UnitPlan). slice_get xs u) (sym come.behind) ∙ is, at)

  -- a unit that doesn't claim is planned
  is_planned_silent : (u : ℕ) → u < length (units_of joined) → (unit_at (units_of joined) u).claims ≡ false → u < length planned
  is_planned_silent u inside silent = elim (cases_lt u (length planned)) [
    | inl there ↦ there
    | inr past ↦
        let (p, is, at) = at_place u inside in
        let claims : p.claims ≡ true = of_behind (λ s. s.claims ≡ true) planned ss come.claim u past p is in
        absurd (true≢false (sym claims ∙ sym (ap (λ (c : PlannedUnit). c.claims) at) ∙ silent))
  ]

  choosing : (u : ℕ) → length planned ≤ u → u < length (units_of joined) → is_arbitrary (unit_at (units_of joined) u).name ≡ true
  choosing u past inside =
      rw come.behind (behind_at joined.keep_free planned ss come.choose u past (omega (arith, inside, count_units, length-append planned ss)))

  -- a unit that may not choose is planned
  is_planned : (u : ℕ) → u < length (units_of joined) → is_arbitrary (unit_at (units_of joined) u).name ≡ false → u < length planned
  is_planned u inside fixed = elim (cases_lt u (length planned)) [
    | inl there ↦ there
    | inr past ↦ absurd (true≢false (sym (choosing u past inside) ∙ fixed))
  ]

  in_plan : (u : ℕ) → u < length planned → u < length (units_of plan)
  in_plan u inside = omega (arith, length-map planned (planned_unit plan.keep_free))

  is_fixed_there : (u : ℕ) → u < length planned → is_arbitrary (unit_at (units_of joined) u).name ≡ false
      → is_arbitrary (unit_at (units_of plan) u).name ≡ false
  is_fixed_there u inside fixed = ap is_arbitrary (sym (named u inside)) ∙ fixed

  -- ---- addresses

  silent_beside : Clean plan → (s u : ℕ) → s < length (units_of joined) → u < length (units_of joined) → u ≢ s
      → (unit_at (units_of joined) s).claims ≡ false → (unit_at (units_of joined) u).preferred ≢ (unit_at (units_of joined) s).preferred
  silent_beside clean s u in_s in_u other silent same =
      let there = is_planned_silent s in_s silent in
      elim (cases_lt u (length planned)) [
        | inl planned_u ↦
            (clean_units plan clean).silent_apart s u (in_plan s there) (in_plan u planned_u) other (sym (claiming s there) ∙ silent)
            (sym (preferring u planned_u) ∙ same ∙ preferring s there)
        | inr past ↦
            let (p, p_is, at_s) = at_place s in_s in
            let (q, q_is, at_u) = at_place u in_u in
            let apart = of_behind (λ t. All (λ x. x.claims ≡ false → x.address ≢ t.address) planned) planned ss come.apart u past q q_is in
            of_first (λ x. x.claims ≡ false → x.address ≢ q.address) planned ss apart s there p p_is
            (sym (ap (λ (c : PlannedUnit). c.claims) at_s) ∙ silent)
            (sym (ap (λ (c : PlannedUnit). c.preferred) at_s) ∙ sym same ∙ ap (λ (c : PlannedUnit). c.preferred) at_u)
      ]

  pub clean_beside : Clean plan → IsClean (units_of joined)
  clean_beside clean = record {
    range = names_in_range joined;
    names = come.names;
    fixed = λ i j below inside fixed_i fixed_j same.
        let in_i = is_planned i (omega arith) fixed_i in
        let in_j = is_planned j inside fixed_j in
        (clean_units plan clean).fixed i j below (in_plan j in_j) (is_fixed_there i in_i fixed_i) (is_fixed_there j in_j fixed_j)
        (sym (preferring i in_i) ∙ same ∙ preferring j in_j);
    kept_free = joined.keep_free;
    kept = λ i inside.
        let (p, is, at) = placed joined.keep_free joined.units.items i inside in
        ap (λ (c : PlannedUnit). c.kept) at;
    room = rw (count joined.keep_free joined.units.items, come.behind, come.unaware) (room_for_all plan clean ss come.few);
    unkept = λ i inside arbitrary.
        let (p, is, at) = placed joined.keep_free joined.units.items i inside in
        ap (λ (c : PlannedUnit). contains c.kept (unit_at (units_of joined) i).preferred) at
        ∙ ap (λ k. contains k (unit_at (units_of joined) i).preferred) come.unaware ∙ contains-empty nat_cmp (unit_at (units_of joined) i).preferred;
    silent_apart = silent_beside clean;
    silent_kept = λ s inside silent pool.
        let there = is_planned_silent s inside silent in
        let none = (unreached plan clean s (in_plan s there) (sym (claiming s there) ∙ silent) (ap in_pool (sym (preferring s there)) ∙ pool)).1 in
        let some = come.stated in
        absurd (omega (arith, none, some));
  }

  -- ---- room for planned units that choose none that is kept free

  -- all units, as they are where nobody chooses these
  abbrev keeping : List PlannedUnit
  keeping = map (planned_unit plan.keep_free) joined.units.items

  kept_name : (u : ℕ) → (unit_at keeping u).name ≡ (unit_at (units_of joined) u).name
  kept_name u = (same_but_kept plan.keep_free joined.keep_free joined.units.items u).0

  kept_preferred : (u : ℕ) → (unit_at keeping u).preferred ≡ (unit_at (units_of joined) u).preferred
  kept_preferred u = (same_but_kept plan.keep_free joined.keep_free joined.units.items u).1

  kept_of : (u : ℕ) → u < length keeping → (unit_at keeping u).kept ≡ plan.keep_free
  kept_of u inside = let (p, is, at) = placed plan.keep_free joined.units.items u inside in ap (λ (c : PlannedUnit). c.kept) at

  room_for_keeping : Clean plan → count_by needs_pool keeping ≤ free_count plan.keep_free
  room_for_keeping clean = rw (count plan.keep_free joined.units.items, come.behind) (
      let both = sum_by-append (λ x. cond (needs_pool_address plan.keep_free x) 1 0) planned ss in
      let others = count_by-le-length (needs_pool_address plan.keep_free) ss in
      let few = come.few in
      omega (arith, both, others, room_stated plan clean)
      )

  -- a unit that has an address of the pool which isn't kept free needs one
  needs_own : (u b : ℕ) → u < length keeping → IsOwn (unit_at (units_of joined) u) b → in_pool b ≡ true → contains plan.keep_free b ≡ false
      → needs_pool (unit_at keeping u) ≡ true
  needs_own u b inside own pool free =
      let p : PlannedUnit = unit_at keeping u in
      elim (cases_Bool (is_arbitrary (unit_at keeping u).name)) [
        | inl arbitrary ↦ or_left (is_arbitrary p.name) (in_pool p.preferred && is_free p.kept p.preferred) arbitrary
        | inr fixed ↦
            let same : b ≡ p.preferred = own.fixed (ap is_arbitrary (sym (kept_name u)) ∙ fixed) ∙ sym (kept_preferred u) in
            let there : in_pool p.preferred ≡ true = ap in_pool (sym same) ∙ pool in
            let unkept : contains p.kept p.preferred ≡ false =
            ap (λ k. contains k p.preferred) (kept_of u inside) ∙ ap (contains plan.keep_free) (sym same) ∙ free in
            or_right (is_arbitrary p.name) (in_pool p.preferred && is_free p.kept p.preferred)
            (and_from (in_pool p.preferred) (is_free p.kept p.preferred) there (ap not unkept))
      ]

  pub finds : Clean plan → (v : ℕ) → v < length planned → is_arbitrary (unit_at (units_of plan) v).name ≡ true
      → (s : ClaimState) → AllNoted (units_of joined) v s.notes → (b : ℕ) × IsFree (unit_at (units_of plan) v) s b
  finds clean v in_v arbitrary s all =
      let in_joined : v < length (units_of joined) = omega (arith, in_v, count_units) in
      let lengths : length keeping ≡ length (units_of joined) =
      length-map joined.units.items (planned_unit plan.keep_free) ∙ sym (length-map joined.units.items (planned_unit joined.keep_free)) in
      let chooses : is_arbitrary (unit_at keeping v).name ≡ true = ap is_arbitrary (kept_name v ∙ named v in_v) ∙ arbitrary in
      let q : PlannedUnit = unit_at keeping v in
      let needed : needs_pool q ≡ true = or_left (is_arbitrary q.name) (in_pool q.preferred && is_free q.kept q.preferred) chooses in
      let none : get s.notes q.name ≡ None = ap (get s.notes) (kept_name v) ∙ no_own (units_of joined) (clean_beside clean) v in_joined s.notes all in
      let (b, pool, free, left) = one_left plan.keep_free s.notes keeping v (room_for_keeping clean) (omega (arith, in_joined, lengths)) needed none in (
        b,
        record {
          pool = pool;
          unnoted = λ n is.
              let known = all n b is in
              let inside : known.place < length keeping = let there = known.inside in omega (arith, there, lengths) in
              left known.place inside (needs_own known.place b inside known.own pool free)
              (ap (get s.notes) (kept_name known.place ∙ known.name) ∙ is);
          unkept =
              let (p, is, at) = placed plan.keep_free planned v (in_plan v in_v) in
              ap (λ (c : PlannedUnit). contains c.kept b) at ∙ free;
        },
      )

  -- ---- who stays

  pub stays_beside : (u : ℕ) → u < length planned → StaysBeside plan.strangers (units_of plan) u → Stays (units_of joined) u
  stays_beside u inside (stays, inl none) = let some = come.stated in absurd (omega arith)
  stays_beside u inside (stays, inr fixed) =
      let in_u : u < length (units_of joined) = omega (arith, inside, count_units) in
      let fixed_u : is_arbitrary (unit_at (units_of joined) u).name ≡ false = ap is_arbitrary (named u inside) ∙ fixed in
      let fixed_v : (v : ℕ) → (unit_at (units_of joined) v).name < (unit_at (units_of joined) u).name
      → is_arbitrary (unit_at (units_of joined) v).name ≡ false =
      λ v smaller. fixed_below (unit_at (units_of joined) v).name (unit_at (units_of joined) u).name smaller (names_in_range joined u in_u) fixed_u in
      record {
        first = λ v in_v smaller same.
            let there = is_planned v in_v (fixed_v v smaller) in
            let below : (unit_at (units_of plan) v).name < (unit_at (units_of plan) u).name = omega (arith, smaller, named u inside, named v there) in
            stays.first v (in_plan v there) below (sym (preferring v there) ∙ same ∙ preferring u inside);
        unmoved = inr (λ v in_v smaller arbitrary. absurd (true≢false (sym arbitrary ∙ fixed_v v smaller)));
      }

pub sound_beside : (plan : Plan) → Clean plan → AlwaysBeside plan AreAddressesSound
sound_beside plan clean joined ss come = addresses_sound joined (clean_beside plan joined ss come clean)

pub quiet_beside : (plan : Plan) → Clean plan → AlwaysBeside plan (λ joined w. IsQuiet w.claims → AreAddressesDifferent w)
quiet_beside plan clean joined ss come steps w run = quiet_apart joined w (sound_beside plan clean joined ss come steps w run)

-- a planned unit that may choose has an address to move to that the plan doesn't keep free
pub finds_beside : (plan : Plan) → Clean plan → AlwaysBeside plan (λ joined w. (u : ℕ) → u < length plan.units.items
    → is_arbitrary (unit_at (units_of plan) u).name ≡ true → (b : ℕ) × IsFree (unit_at (units_of plan) u) (w.stations u) b)
finds_beside plan clean joined ss come steps w run u inside arbitrary =
    finds plan joined ss come clean u inside arbitrary (w.stations u) ((invariant joined (clean_beside plan joined ss come clean) steps w run).notes u)

pub held_beside : (plan : Plan) (u : ℕ) → u < length plan.units.items → StaysBeside plan.strangers (units_of plan) u
    → AlwaysBeside plan (λ joined w. HoldsPlanned (units_of joined) w u)
held_beside plan u inside stays joined ss come steps w run = stay joined steps w run u (stays_beside plan joined ss come u inside stays)

-- what a planned unit holds is its planned address, or one of the pool where it may choose and doesn't stay
pub stand_beside : (plan : Plan) → AlwaysBeside plan (λ joined w. (u a : ℕ) → u < length plan.units.items → (w.stations u).on ≡ true
    → (w.stations u).address ≡ Some a → (a ≡ (unit_at (units_of plan) u).preferred)
    ⊎ ((in_pool a ≡ true) × (is_arbitrary (unit_at (units_of plan) u).name ≡ true) × ¬ StaysBeside plan.strangers (units_of plan) u))
stand_beside plan joined ss come steps w run u a inside on is = elim (stand joined steps w run u a on is) [
  | inl preferred ↦ inl (preferred ∙ preferring plan joined ss come u inside)
  | inr (pool, arbitrary, leaves) ↦ inr (
    pool,
    ap is_arbitrary (sym (named plan joined ss come u inside)) ∙ arbitrary,
    λ stays. leaves (stays_beside plan joined ss come u inside stays),
  )
]

-- Which units are alone at their addresses: it is reported by the arrays of a search as by the test on the list of units.
use Rattle.std.proofs.Common.{◌≡◌, ◌≢◌, ◌⊎◌, ℕ, [], ◌<◌, arith, Bool, true, false, not, ◌&&◌, ◌||◌, ◌==◌, nat_lt, List, length, get_or, refl, sym, ap, ◌∙◌}
use Rattle.std.proofs.Common.{subst, inl, inr, Option, Some, None, is_none, is_some, if◌then◌else◌, Decides}
use Rattle.std.proofs.lemmas.Bool.{cases_Bool, cases_eq, cases_lt, true≢false, false≢true, and_from, not-true}
use Rattle.std.proofs.lemmas.Bool.Decides.{Decides-eqb, Decides-and, Decides-like, Decides-ltb, Decides-or}
use Rattle.std.proofs.lemmas.Option.{none-some, slice_get_within}
use Rattle.std.specs.Bool.{MatchBool}
use Rattle.std.specs.FinSet.{FinSet, contains}
use Rattle.std.specs.List.{list_any, slice_get}
use Rattle.std.specs.Option.{option_map_or}
use Rattle.std.specs.Ordering.{nat_cmp}
use Rattle.j39_id.specs.Addresses.{in_pool}
use Rattle.j39_id.specs.Name.{is_arbitrary}
use Rattle.j39_claim.specs.ClaimRule.{PlannedUnit}
use Rattle.j39_network.specs.declared.plan.Plan.{Plan}
use Rattle.j39_network.specs.declared.plan.flow_plan.FlowPlan.{FlowPlan}
use Rattle.j39_network.specs.declared.plan.to.To.{To}
use Rattle.j39_network.specs.declared.plan.to.To.TheVariants.{All, One}
use Rattle.j39_network.specs.declared.plan.unit_plan.UnitPlan.{UnitPlan}
use Rattle.j39_findings.specs.Findings.{IsAloneInPlan, IsFlowContested}
use Rattle.j39_findings.specs.declared.checking.finding.Finding.TheVariants.{FlowContested}
use Rattle.j39_findings.specs.Found.{contested_findings, has_to_move, is_unit_alone, is_contested, is_end_contested, is_receiver_contested, is_shared}
use Rattle.j39_search.specs.ListPlaces.{each, SomeMeets}
use Rattle.j39_network.specs.PlannedUnits.{units_of, unit_at}
use Rattle.j39_network.specs.Staying.{EachOther, IsFirstThere, Stays}
use Rattle.j39_findings.specs.Standing.{AreFirsts, DecidesAtEach, AreTwoThere, IsMover, DecidesWhoIsAlone, is_alone_by, is_first_by, is_mover_by}
use Rattle.j39_network.proofs.Served.{some_decides}
use Rattle.j39_search.proofs.PlaceLemmas.{each_same}
use Rattle.j39_findings.proofs.WhoStays.{first_stated, not_first_stated, placed, planned_at, some_come, stated_by}
use Rattle.j39_findings.proofs.SharedAddresses.{shared_stated}

-- ---- who is alone

-- some unit of the plan may have to move
abbrev SomeMoves : Plan → Type 0
SomeMoves plan = (v : ℕ) × (v < length (units_of plan)) × (is_arbitrary (unit_at (units_of plan) v).name ≡ true) × (¬ IsFirstThere (units_of plan) v)

module _ (plan : Plan) where
  abbrev At : ℕ → UnitPlan → Type 0
  At u unit = slice_get plan.units.items u ≡ Some unit

  abbrev us : List PlannedUnit
  us = units_of plan

  abbrev Two : ℕ → Type 0
  Two a = AreTwoThere plan.units.items (length plan.units.items) a

  -- where none moves each that may choose stays
  none_moves : ¬ SomeMoves plan → (v : ℕ) → v < length us → is_arbitrary (unit_at us v).name ≡ true → Stays us v
  none_moves none v in_v arbitrary = record {
    first = first v in_v arbitrary;
    unmoved = inr (λ w in_w less chooses. first w in_w chooses);
  }
    where
      first : (w : ℕ) → w < length us → is_arbitrary (unit_at us w).name ≡ true → IsFirstThere us w
      first w in_w chooses x in_x less same = none (w, in_w, chooses, λ is. is x in_x less same)

  -- another unit that is planned at the address is a second one
  second_there : (u v : ℕ) (unit other : UnitPlan) → At u unit → At v other → u ≢ v → other.address ≡ unit.address → Two unit.address
  second_there u v unit other at at_v differ same = elim (cases_lt u v) [
    | inl below ↦ record {
      first = u;
      second = v;
      apart = below;
      inside = slice_get_within plan.units.items v other at_v;
      one = unit;
      one_is = at;
      one_there = refl;
      other = other;
      other_is = at_v;
      other_there = same;
    }
    | inr above ↦ record {
      first = v;
      second = u;
      apart = omega (arith, above, differ);
      inside = slice_get_within plan.units.items u unit at;
      one = other;
      one_is = at_v;
      one_there = same;
      other = unit;
      other_is = at;
      other_there = refl;
    }
  ]

  only_there : (u : ℕ) (unit : UnitPlan) → At u unit → ¬ Two unit.address
      → EachOther us u (λ v. (unit_at us v).preferred ≢ (unit_at us u).preferred)
  only_there u unit at none v in_v differ same =
      let (_, is_u) = planned_at plan.keep_free plan.units.items u unit at in
      let (p, at_v, is_v) = placed plan.keep_free plan.units.items v in_v in
      none (second_there u v unit p at at_v differ
      (sym (ap (λ (c : PlannedUnit). c.preferred) is_v) ∙ same ∙ ap (λ (c : PlannedUnit). c.preferred) is_u))

  not_only : (u : ℕ) (unit : UnitPlan) → At u unit → Two unit.address → ¬ IsAloneInPlan plan u
  not_only u unit at two alone =
      let (_, is_u) = planned_at plan.keep_free plan.units.items u unit at in
      let here = ap (λ (c : PlannedUnit). c.preferred) is_u in
      let (in_first, is_first) = planned_at plan.keep_free plan.units.items two.first two.one two.one_is in
      let (in_second, is_second) = planned_at plan.keep_free plan.units.items two.second two.other two.other_is in
      elim (cases_eq u two.first) [
        | inr differ ↦ alone.0.planned two.first in_first differ (ap (λ (c : PlannedUnit). c.preferred) is_first ∙ two.one_there ∙ sym here)
        | inl same ↦
            let apart = two.apart in
            alone.0.planned two.second in_second (λ is. absurd (omega (arith, is, same, apart)))
            (ap (λ (c : PlannedUnit). c.preferred) is_second ∙ two.other_there ∙ sym here)
      ]

  -- a unit moves, and it is another one
  moved_to : (u : ℕ) (alone : IsAloneInPlan plan u) → SomeMoves plan → in_pool (unit_at us u).preferred ≡ true
      → contains plan.keep_free (unit_at us u).preferred ≡ false → ⊥
  moved_to u alone (v, in_v, arbitrary, moves) pool free = elim alone.0.unreached [
    | inl outside ↦ true≢false (sym pool ∙ outside)
    | inr (inl kept) ↦ true≢false (sym kept ∙ free)
    | inr (inr stay) ↦ elim (cases_eq u v) [
      | inl same ↦ moves (subst (IsFirstThere us) same (λ w in_w less. alone.0.planned w in_w
          (λ is. let e = ap (λ k. (unit_at us k).name) is in absurd (omega (arith, less, e)))))
      | inr differ ↦ moves (stay v in_v differ arbitrary).first
    ]
  ]

  module _ (shared : ℕ → Bool) (are_shared : (a : ℕ) → a < 256 → MatchBool (shared a) (Two a) (¬ Two a))
      (moves : Bool) (some_move : MatchBool moves (SomeMoves plan) (¬ SomeMoves plan))
      (come : Bool) (some_stranger : MatchBool come (0 < plan.strangers) (plan.strangers ≡ 0)) where
    reached : (u : ℕ) (unit : UnitPlan) → At u unit → ¬ Two unit.address → (pool : Bool) → in_pool (unit_at us u).preferred ≡ pool
        → (coming : Bool) → MatchBool coming (0 < plan.strangers) (plan.strangers ≡ 0)
        → (kept : Bool) → contains plan.keep_free (unit_at us u).preferred ≡ kept
        → (moving : Bool) → MatchBool moving (SomeMoves plan) (¬ SomeMoves plan)
        → MatchBool (not pool || (not coming && (kept || not moving))) (IsAloneInPlan plan u) (¬ IsAloneInPlan plan u)
    reached u unit at one false outside coming come_stated kept kept_is moving move_stated =
        let (inside, _) = planned_at plan.keep_free plan.units.items u unit at in (
          record { inside = inside; planned = only_there u unit at one; unreached = inl outside },
          inr outside,
        )
    reached u unit at one true pool true come_stated kept kept_is moving move_stated = λ alone. elim alone.1 [
      | inl none ↦ absurd (let more : 0 < plan.strangers = come_stated in omega (arith, none, more))
      | inr outside ↦ true≢false (sym pool ∙ outside)
    ]
    reached u unit at one true pool false none true kept_is moving move_stated =
        let (inside, _) = planned_at plan.keep_free plan.units.items u unit at in (
          record { inside = inside; planned = only_there u unit at one; unreached = inr (inl kept_is) },
          inl none,
        )
    reached u unit at one true pool false none false kept_is true move_stated = λ alone. moved_to u alone move_stated pool kept_is
    reached u unit at one true pool false none false kept_is false move_stated =
        let (inside, _) = planned_at plan.keep_free plan.units.items u unit at in (
          record { inside = inside; planned = only_there u unit at one; unreached = inr (inr (λ v in_v differ. none_moves move_stated v in_v)) },
          inl none,
        )

    pub alone_stated : DecidesWhoIsAlone plan
        (λ unit. not (shared unit.address) && (not (in_pool unit.address) || (not come && (contains plan.keep_free unit.address || not moves))))
    alone_stated u unit at =
        let (_, is_u) = planned_at plan.keep_free plan.units.items u unit at in
        let address = ap (λ (c : PlannedUnit). c.preferred) is_u in
        go (shared unit.address) (are_shared unit.address (omega (arith, unit.address_range)))
        (ap in_pool address) (ap (contains plan.keep_free) address)
      where
        go : (b : Bool) → MatchBool b (Two unit.address) (¬ Two unit.address)
            → in_pool (unit_at us u).preferred ≡ in_pool unit.address
            → contains plan.keep_free (unit_at us u).preferred ≡ contains plan.keep_free unit.address
            → MatchBool (not b && (not (in_pool unit.address) || (not come && (contains plan.keep_free unit.address || not moves))))
            (IsAloneInPlan plan u) (¬ IsAloneInPlan plan u)
        go true two pool kept = not_only u unit at two
        go false one pool kept =
            reached u unit at one (in_pool unit.address) pool come some_stranger (contains plan.keep_free unit.address) kept moves some_move

-- ---- by the arrays

pub alone_by_arrays : (plan : Plan) (firsts : List (Option ℕ)) (mover : Option ℕ) (shared : List Bool)
    → AreFirsts plan.units.items (length plan.units.items) firsts → IsMover plan.units.items (length plan.units.items) firsts mover
    → DecidesAtEach (AreTwoThere plan.units.items (length plan.units.items)) shared
    → DecidesWhoIsAlone plan (is_alone_by shared mover (nat_lt 0 plan.strangers) plan.keep_free)
alone_by_arrays plan firsts mover shared are_firsts is_mover are_shared =
    let stated = alone_stated plan (λ a. get_or shared a false) are_shared.each (is_some mover) (move_stated mover refl)
    (nat_lt 0 plan.strangers) (some_come plan.strangers) in
    λ u unit at. subst (λ b. MatchBool (not (get_or shared unit.address false)
    && (not (in_pool unit.address) || (not (nat_lt 0 plan.strangers) && (contains plan.keep_free unit.address || b)))) (IsAloneInPlan plan u)
    (¬ IsAloneInPlan plan u))
    (none_is mover) (stated u unit at)
  where
    none_is : (o : Option ℕ) → not (is_some o) ≡ is_none o
    none_is None = refl
    none_is (Some n) = refl

    units : List UnitPlan
    units = plan.units.items

    move_stated : (o : Option ℕ) → mover ≡ o → MatchBool (is_some o) (SomeMoves plan) (¬ SomeMoves plan)
    move_stated (Some n) is =
        let (v, p, inside, at_v, moves, name) = is_mover.one n is in
        let (in_v, is_v) = planned_at plan.keep_free plan.units.items v p at_v in
        let parts = mover_parts p moves in
        (v, in_v, ap (λ (c : PlannedUnit). is_arbitrary c.name) is_v ∙ parts.0, not_first_stated plan firsts mover are_firsts is_mover v p at_v parts.1)
      where
        mover_parts : (p : UnitPlan) → is_mover_by firsts p ≡ true → (is_arbitrary p.name ≡ true) × (is_first_by firsts p ≡ false)
        mover_parts p moves = elim (cases_Bool (is_arbitrary p.name)) [
          | inr fixed ↦ absurd (false≢true (sym (ap (λ b. b && not (is_first_by firsts p)) fixed) ∙ moves))
          | inl chooses ↦ (chooses, not-true (is_first_by firsts p) (sym (ap (λ b. b && not (is_first_by firsts p)) chooses) ∙ moves))
        ]
    move_stated None is = λ (v, in_v, arbitrary, moves).
        let (p, at_v, is_v) = placed plan.keep_free plan.units.items v in_v in
        let chooses = sym (ap (λ (c : PlannedUnit). is_arbitrary c.name) is_v) ∙ arbitrary in
        elim (cases_Bool (is_first_by firsts p)) [
          | inl first ↦ moves (first_stated plan firsts mover are_firsts is_mover v p at_v first)
          | inr second ↦
              let moving : is_mover_by firsts p ≡ true = and_from (is_arbitrary p.name) (not (is_first_by firsts p)) chooses (ap not second) in
              let (n, has, _) = is_mover.below v p (slice_get_within plan.units.items v p at_v) at_v moving in
              none-some n (sym is ∙ has)
        ]

-- ---- by the list of units

-- another unit of smaller NAME is planned there, and for that a unit has to move
abbrev IsSmaller : UnitPlan → UnitPlan → Type 0
IsSmaller unit other = (other.address ≡ unit.address) × (other.name < unit.name)

abbrev Moves : List UnitPlan → UnitPlan → Type 0
Moves units unit = (is_arbitrary unit.name ≡ true) × SomeMeets (IsSmaller unit) units

pub alone_by_list : (plan : Plan) → DecidesWhoIsAlone plan (is_unit_alone plan.keep_free plan.strangers plan.units.items)
alone_by_list plan =
    alone_stated plan (is_shared plan.units.items) (λ a inside. shared_stated plan.units.items a) (list_any (has_to_move plan.units.items) plan.units.items)
    (stated_by (list_any (has_to_move plan.units.items) plan.units.items) _ _ (λ is. one_moves (decided.0 is))
    (λ isnt some. true≢false (sym (decided.1 (moving some)) ∙ isnt)))
    (nat_lt 0 plan.strangers) (some_come plan.strangers)
  where
    smaller_decides : (unit : UnitPlan) → Decides (list_any (λ (other : UnitPlan). other.address == unit.address
        && nat_lt other.name unit.name) plan.units.items)
        (SomeMeets (IsSmaller unit) plan.units.items)
    smaller_decides unit = some_decides (IsSmaller unit)
        (λ other. Decides-and _ _ (Decides-eqb other.address unit.address) (Decides-ltb other.name unit.name)) plan.units.items

    move_decides : (unit : UnitPlan) → Decides (has_to_move plan.units.items unit) (Moves plan.units.items unit)
    move_decides unit = Decides-and _ _ (λ e. e, λ e. e) (smaller_decides unit)

    decided : Decides (list_any (has_to_move plan.units.items) plan.units.items) (SomeMeets (Moves plan.units.items) plan.units.items)
    decided = some_decides (Moves plan.units.items) move_decides plan.units.items

    one_moves : SomeMeets (Moves plan.units.items) plan.units.items → SomeMoves plan
    one_moves (v, at) =
        let (w, less) = at.meets.1 in
        let (in_v, is_v) = planned_at plan.keep_free plan.units.items v at.value at.value_is in
        let (in_w, is_w) = planned_at plan.keep_free plan.units.items w less.value less.value_is in
        let name_v = ap (λ (c : PlannedUnit). c.name) is_v in
        let name_w = ap (λ (c : PlannedUnit). c.name) is_w in
        let below = less.meets.1 in (
          v,
          in_v,
          ap (λ (c : PlannedUnit). is_arbitrary c.name) is_v ∙ at.meets.0,
          λ first. first w in_w (omega (arith, name_v, name_w, below))
              (ap (λ (c : PlannedUnit). c.preferred) is_w ∙ less.meets.0 ∙ sym (ap (λ (c : PlannedUnit). c.preferred) is_v)),
        )

    moving : SomeMoves plan → SomeMeets (Moves plan.units.items) plan.units.items
    moving (v, in_v, arbitrary, moves) =
        let (p, at_v, is_v) = placed plan.keep_free plan.units.items v in_v in
        let chooses = sym (ap (λ (c : PlannedUnit). is_arbitrary c.name) is_v) ∙ arbitrary in
        let name_v = ap (λ (c : PlannedUnit). c.name) is_v in
        elim (cases_Bool (list_any (λ (other : UnitPlan). other.address == p.address && nat_lt other.name p.name) plan.units.items)) [
          | inl some ↦ (v, record { value = p; value_is = at_v; meets = (chooses, (smaller_decides p).0 some) })
          | inr none ↦ absurd (moves (λ w in_w less same.
              let (q, at_w, is_w) = placed plan.keep_free plan.units.items w in_w in
              let name_w = ap (λ (c : PlannedUnit). c.name) is_w in
              let below : q.name < p.name = omega (arith, less, name_v, name_w) in
              let there : q.address ≡ p.address = sym (ap (λ (c : PlannedUnit). c.preferred) is_w) ∙ same ∙ ap (λ (c : PlannedUnit). c.preferred) is_v in
              true≢false (sym ((smaller_decides p).1 (w, record { value = q; value_is = at_w; meets = (there, below) })) ∙ none)))
        ]

-- ---- ends of flows

-- tests of statements that say the same
pub Decides-both : (a b : Bool) (P Q : Type 0) → Decides a P → Decides b Q → (P → Q) → (Q → P) → a ≡ b
Decides-both true true P Q p q over back = refl
Decides-both true false P Q p q over back = sym (q.1 (over (p.0 refl)))
Decides-both false true P Q p q over back = p.1 (back (q.0 refl))
Decides-both false false P Q p q over back = refl

-- whether it is so of an option of a unit
abbrev not_alone : (UnitPlan → Bool) → Option UnitPlan → Bool
not_alone alone unit = option_map_or (λ unit. not (alone unit)) unit true

module _ (plan : Plan) (alone : UnitPlan → Bool) (states : DecidesWhoIsAlone plan alone) where
  Decides-end : (u : ℕ) → Decides (is_end_contested alone plan.units.items u) (¬ IsAloneInPlan plan u)
  Decides-end u = go (slice_get plan.units.items u) refl where
    stated : (b : Bool) → MatchBool b (IsAloneInPlan plan u) (¬ IsAloneInPlan plan u) → Decides (not b) (¬ IsAloneInPlan plan u)
    stated true is = (λ e. absurd (false≢true e), λ none. absurd (none is))
    stated false isnt = (λ e. isnt, λ none. refl)

    go : (o : Option UnitPlan) → slice_get plan.units.items u ≡ o → Decides (is_end_contested alone plan.units.items u) (¬ IsAloneInPlan plan u)
    go (Some unit) is =
        subst (λ o. Decides (not_alone alone o) (¬ IsAloneInPlan plan u)) (sym is) (stated (alone unit) (states u unit is))
    go None is =
        let nowhere : ¬ IsAloneInPlan plan u = λ there.
        let (p, at, _) = placed plan.keep_free plan.units.items u there.0.inside in
        none-some p (sym is ∙ at) in
        subst (λ o. Decides (not_alone alone o) (¬ IsAloneInPlan plan u)) (sym is) (λ e. nowhere, λ none. refl)

  Decides-receiver : (to : To) → Decides (is_receiver_contested alone plan.units.items to) ((r : ℕ) × (to ≡ One r) × (¬ IsAloneInPlan plan r))
  Decides-receiver All = (λ e. absurd (false≢true e), λ (r, is, none). cc)
  Decides-receiver (One receiver) = Decides-like _ (λ none. (receiver, refl, none))
      (λ (r, is, none). subst (λ k. ¬ IsAloneInPlan plan k) (sym (one_same receiver r is)) none) (Decides-end receiver)
    where
      one_same : (r s : ℕ) → One r ≡ One s → r ≡ s
      one_same r s is = cc

  pub Decides-contested : plan.live ≡ true → (flow : FlowPlan) → Decides (is_contested alone plan.units.items flow) (IsFlowContested plan flow)
  Decides-contested live flow =
      Decides-like _ (λ either. (live, either)) (λ contested. contested.1)
      (Decides-or _ _ (Decides-end flow.sender) (Decides-receiver flow.to))

-- two tests decide it alike
pub contested_alike : (plan : Plan) (alone other : UnitPlan → Bool) → DecidesWhoIsAlone plan alone → DecidesWhoIsAlone plan other
    → plan.live ≡ true → (flow : FlowPlan) → is_contested alone plan.units.items flow ≡ is_contested other plan.units.items flow
contested_alike plan alone other one two live flow =
    Decides-both _ _ (IsFlowContested plan flow) (IsFlowContested plan flow) (Decides-contested plan alone one live flow)
    (Decides-contested plan other two live flow) (λ is. is) (λ is. is)

-- the findings by any test that reports who is alone are those of the list
pub contested_by : (plan : Plan) (alone : UnitPlan → Bool) → DecidesWhoIsAlone plan alone → plan.live ≡ true
    → each (is_contested alone plan.units.items) FlowContested 0 plan.flows.items
    ≡ contested_findings plan.live plan.keep_free plan.strangers plan.units.items plan.flows.items
unfolding contested_findings
contested_by plan alone states live =
    let by_list : UnitPlan → Bool = is_unit_alone plan.keep_free plan.strangers plan.units.items in
    each_same (is_contested by_list plan.units.items) (is_contested alone plan.units.items)
    (contested_alike plan alone by_list states (alone_by_list plan) live) FlowContested 0 plan.flows.items
    ∙ ap (λ b. if b then each (is_contested by_list plan.units.items) FlowContested 0 plan.flows.items else []) (sym live)

pub not_live : (live : Bool) (kept : FinSet nat_cmp) (strangers : ℕ) (units : List UnitPlan) (flows : List FlowPlan) → live ≡ false
    → contested_findings live kept strangers units flows ≡ []
unfolding contested_findings
not_live live kept strangers units flows none =
    ap (λ b. if b then each (is_contested (is_unit_alone kept strangers units) units) FlowContested 0 flows else []) none

-- whether a unit is alone is decided
pub Decides-alone : (plan : Plan) (u : ℕ)
    → Decides (not (is_end_contested (is_unit_alone plan.keep_free plan.strangers plan.units.items) plan.units.items u)) (IsAloneInPlan plan u)
Decides-alone plan u =
    let contested : Bool = is_end_contested (is_unit_alone plan.keep_free plan.strangers plan.units.items) plan.units.items u in
    go contested (Decides-end plan (is_unit_alone plan.keep_free plan.strangers plan.units.items) (alone_by_list plan) u) (is_or_isnt u)
  where
    is_or_isnt : (u : ℕ) → IsAloneInPlan plan u ⊎ (¬ IsAloneInPlan plan u)
    is_or_isnt u = here (slice_get plan.units.items u) refl where
      either : (b : Bool) → MatchBool b (IsAloneInPlan plan u) (¬ IsAloneInPlan plan u) → IsAloneInPlan plan u ⊎ (¬ IsAloneInPlan plan u)
      either true is = inl is
      either false isnt = inr isnt

      here : (o : Option UnitPlan) → slice_get plan.units.items u ≡ o → IsAloneInPlan plan u ⊎ (¬ IsAloneInPlan plan u)
      here (Some unit) is =
          either (is_unit_alone plan.keep_free plan.strangers plan.units.items unit) (alone_by_list plan u unit is)
      here None is = inr (λ there.
          let (p, at, _) = placed plan.keep_free plan.units.items u there.0.inside in
          none-some p (sym is ∙ at))

    go : (b : Bool) → Decides b (¬ IsAloneInPlan plan u) → IsAloneInPlan plan u ⊎ (¬ IsAloneInPlan plan u) → Decides (not b) (IsAloneInPlan plan u)
    go true none either = (λ e. absurd (false≢true e), λ is. absurd (none.0 refl is))
    go false some (inl is) = (λ e. is, λ is. refl)
    go false some (inr isnt) = absurd (false≢true (some.1 isnt))

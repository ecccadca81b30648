-- A message that is of a flow doesn't differ from the plan, and one that differs has the number of a group of its unit.
use Rattle.std.proofs.Common.{◌≡◌, ◌⊎◌, ℕ, zero, suc, ◌+◌, ◌<◌, ◌≤◌, ◌==◌, ◌&&◌, ◌||◌, ◌∷◌, [], List, Bool, true, false, not, length, get_or}
use Rattle.std.proofs.Common.{inl, inr, refl, sym, ap, ◌∙◌, subst, arith, eqb-true, Option, Some, None, if◌then◌else◌}
use Rattle.std.specs.Prelude.{nat_le}
use Rattle.std.specs.FinSet.{contains}
use Rattle.std.specs.List.{list_any, position, position_from, slice_get}
use Rattle.std.specs.Option.{is_some, option_map_or, option_or}
use Rattle.std.proofs.lemmas.Bool.{MatchBool-at_true, and_from, and_parts, cases_Bool, cases_lt, cond-false, cond-true, eq-eqb, false_from_ne_true, le-leb}
use Rattle.std.proofs.lemmas.Bool.{lt-ltb, ne_eqb, not-true, not_from_false, or_cases, or_left, or_right, true≢false}
use Rattle.std.proofs.lemmas.Iterator.Adapters.{position_from-zero}
use Rattle.std.proofs.lemmas.List.Quantifiers.{position-Some}
use Rattle.std.proofs.lemmas.Option.{none-some, same_Some, slice_get-get_or, slice_get_within}
use Rattle.j39_id.specs.Addresses.{global_address, in_pool}
use Rattle.j39_id.specs.Name.{is_arbitrary}
use Rattle.j39_signal.specs.Selectors.{is_selected}
use Rattle.j39_network.specs.PlannedUnits.{units_of}
use Rattle.j39_network.specs.Staying.{StaysBeside}
use Rattle.j39_network.specs.declared.plan.flow_plan.FlowPlan.{FlowPlan}
use Rattle.j39_network.specs.declared.plan.group_plan.GroupPlan.{GroupPlan}
use Rattle.j39_network.specs.declared.plan.to.To.{To}
use Rattle.j39_network.specs.declared.plan.to.To.TheVariants.{All as ToAll, One as ToOne}
use Rattle.j39_network.specs.declared.plan.unit_plan.UnitPlan.{UnitPlan}
use Rattle.j39_audit.specs.Below.{first_below}
use Rattle.j39_audit.specs.Claiming.{Knowledge, has_strangers, is_address_of, is_at, is_free_for}
use Rattle.j39_audit.specs.Looking.{is_claiming}
use Rattle.j39_audit.specs.SentMessages.{SentMessage, deviates, deviation, first_group, fits_group, flow_group, goes, has_flow_of, has_priority, is_fit}
use Rattle.j39_audit.specs.SentMessages.{is_fit_group, is_group, is_of, is_own, may_hear, passes, with_fit_flow, without_flow}
use Rattle.j39_audit.specs.Settings.{AreMoving, Settings, moves}
use Rattle.j39_audit.specs.declared.mark.Mark.{Mark}
use Rattle.j39_audit.specs.declared.mark.Word.TheVariants.{Priority}
use Rattle.j39_audit.specs.declared.messages.Test.{Test}
use Rattle.j39_audit.specs.declared.messages.Test.TheVariants.{Fitting, Selected, Any}
use Rattle.j39_audit_laws.specs.OwnPart.{ClaimsAddresses, GoesAsPlanned, IsItsAddress, IsItsNumber, IsOfFlowPlanned}

-- ---- lists

pub any_at : {X : Type 0} (test : X → Bool) (xs : List X) (n : ℕ) (x : X) → slice_get xs n ≡ Some x → test x ≡ true → list_any test xs ≡ true
any_at {X} test [] n x at is = absurd (none-some x at)
any_at {X} test (y ∷ xs) zero x at is = or_left (test y) (list_any test xs) (ap test (same_Some y x at) ∙ is)
any_at {X} test (y ∷ xs) (suc n) x at is = or_right (test y) (list_any test xs) (any_at test xs n x at is)

pub any_found : {X : Type 0} (test : X → Bool) (xs : List X) → list_any test xs ≡ true → (n : ℕ) × (x : X) × (slice_get xs n ≡ Some x) × (test x ≡ true)
any_found {X} test [] is = absurd (true≢false (sym is))
any_found {X} test (y ∷ xs) is = elim (or_cases (test y) (list_any test xs) is) [
  | inl here ↦ (0, y, refl, here)
  | inr more ↦ (let (n, x, at, passes) = any_found test xs more in (suc n, x, at, passes))
]

none_before : {X : Type 0} (test : X → Bool) (i : ℕ) (xs : List X) → position_from test i xs ≡ None → (n : ℕ) (x : X) → slice_get xs n ≡ Some x
    → test x ≡ true → ⊥
none_before {X} test i [] none n x at is = none-some x at
none_before {X} test i (y ∷ xs) none zero x at is =
    let here : test y ≡ true = ap test (same_Some y x at) ∙ is in
    none-some i (sym none ∙ cond-true (test y) (Some i) (position_from test (i + 1) xs) here)
none_before {X} test i (y ∷ xs) none (suc n) x at is = elim (cases_Bool (test y)) [
  | inl here ↦ none-some i (sym none ∙ cond-true (test y) (Some i) (position_from test (i + 1) xs) here)
  | inr other ↦ none_before test (i + 1) xs (sym (cond-false (test y) (Some i) (position_from test (i + 1) xs) other) ∙ none) n x at is
]

no_position : {X : Type 0} (test : X → Bool) (xs : List X) → position test xs ≡ None → (n : ℕ) (x : X) → slice_get xs n ≡ Some x → test x ≡ true → ⊥
no_position {X} test xs none n x at is = none_before test 0 xs (sym (position_from-zero test xs) ∙ none) n x at is

pub position_passes : {X : Type 0} (test : X → Bool) (xs : List X) (n : ℕ) → position test xs ≡ Some n
    → (x : X) × (slice_get xs n ≡ Some x) × (test x ≡ true)
position_passes {X} test [] n e = absurd (none-some n e)
position_passes {X} test (y ∷ xs) n e =
    let at = position-Some test (y ∷ xs) n y e in
    (get_or (y ∷ xs) n y, slice_get-get_or (y ∷ xs) n y at.0, at.1)

pub first_passes : (test : ℕ → Bool) (n g : ℕ) → first_below test n ≡ Some g → test g ≡ true
unfolding first_below
first_passes test zero g e = absurd (none-some g e)
first_passes test (suc n) g e =
    elim (first_below test n) as (λ o. first_below test n ≡ o → option_or o (if test n then Some n else None) ≡ Some g → test g ≡ true) [
      | Some k ↦ λ before is. first_passes test n g (before ∙ is)
      | None ↦ λ _ is. elim (cases_Bool (test n)) [
        | inl here ↦
            let same : n ≡ g = same_Some n g (sym (cond-true (test n) (Some n) None here) ∙ is) in
            subst (λ (i : ℕ). test i ≡ true) same here
        | inr other ↦ absurd (none-some g (sym (cond-false (test n) (Some n) None other) ∙ is))
      ]
    ] refl e

pub some_below : (test : ℕ → Bool) (k n : ℕ) → test k ≡ true → k < n → is_some (first_below test n) ≡ true
unfolding first_below
some_below test k zero passes less = absurd (omega (arith, less))
some_below test k (suc n) passes less =
    elim (first_below test n) as (λ o. first_below test n ≡ o → is_some (option_or o (if test n then Some n else None)) ≡ true) [
      | Some g ↦ λ _. refl
      | None ↦ λ before. elim (cases_lt k n) [
        | inl below ↦ absurd (true≢false (sym (some_below test k n passes below) ∙ ap is_some before))
        | inr above ↦
            let same : k ≡ n = omega (arith, less, above) in
            ap is_some (cond-true (test n) (Some n) None (subst (λ (i : ℕ). test i ≡ true) same passes))
      ]
    ] refl

-- what a test says of the element at a place, where it passes
pub at_place : {X : Type 0} (test : X → Bool) (o : Option X) → option_map_or test o false ≡ true → (x : X) × (o ≡ Some x) × (test x ≡ true)
at_place {X} test None is = absurd (true≢false (sym is))
at_place {X} test (Some x) is = (x, refl, is)

pub place_at : {X : Type 0} (test : X → Bool) (o : Option X) (x : X) → o ≡ Some x → test x ≡ true → option_map_or test o false ≡ true
place_at {X} test o x at is = ap (λ (p : Option X). option_map_or test p false) at ∙ is

-- ---- addresses

module _ (s : Settings) (moving : AreMoving s.plan s.moving) (u a : ℕ) where
  -- one that may choose and doesn't stay is reported to move
  moves_so : (unit : UnitPlan) → slice_get s.plan.units.items u ≡ Some unit → is_arbitrary unit.name ≡ true
      → (¬ StaysBeside s.plan.strangers (units_of s.plan) u) → moves s u ≡ true
  moves_so unit at arbitrary leaves =
      let stay : moving.stays unit ≡ false =
      false_from_ne_true (moving.stays unit) (λ stays. leaves (MatchBool-at_true _ _ stays (moving.decides u unit at))) in
      moving.each u unit at ∙ and_from (is_arbitrary unit.name) (not (moving.stays unit)) arbitrary (not_from_false (moving.stays unit) stay)

  free_so : in_pool a ≡ true → ((0 < s.plan.strangers) ⊎ (contains s.plan.keep_free a ≡ false)) → is_free_for s a ≡ true
  free_so pool free =
      and_from (in_pool a) (has_strangers s || not (contains s.plan.keep_free a)) pool (elim free [
        | inl come ↦ or_left (has_strangers s) (not (contains s.plan.keep_free a)) (lt-ltb 0 s.plan.strangers come)
        | inr open_one ↦ or_right (has_strangers s) (not (contains s.plan.keep_free a)) (not_from_false (contains s.plan.keep_free a) open_one)
      ])

  pub its_address : IsItsAddress s.plan u a → is_address_of s u a ≡ true
  unfolding is_address_of
  its_address is =
      place_at (λ (unit : UnitPlan). unit.address == a || (moves s u && is_free_for s a)) (slice_get s.plan.units.items u) is.unit is.unit_is
      (elim is.planned_or_free [
        | inl planned ↦ or_left (is.unit.address == a) (moves s u && is_free_for s a) (eq-eqb is.unit.address a planned)
        | inr (arbitrary, leaves, pool, free) ↦
            or_right (is.unit.address == a) (moves s u && is_free_for s a)
            (and_from (moves s u) (is_free_for s a) (moves_so is.unit is.unit_is arbitrary leaves) (free_so pool free))
      ])

pub claims_so : (s : Settings) (u : ℕ) → ClaimsAddresses s.plan u → is_claiming s u ≡ true
claims_so s u is = place_at (λ (unit : UnitPlan). unit.claims) (slice_get s.plan.units.items u) is.unit is.unit_is is.claims

-- ---- numbers of groups

-- one of the unit's groups
own_number : (s : Settings) (m : SentMessage) (g : ℕ) (group : GroupPlan) → slice_get s.plan.groups.items g ≡ Some group
    → is_own s m g group ≡ true → IsItsNumber s.plan m.unit m.number
own_number s m g group at own =
    let parts = and_parts (group.pgn == m.number) (not group.private || has_flow_of s m.unit g) own in
    record {
      place = g;
      group = group;
      group_is = at;
      number_is = eqb-true group.pgn m.number parts.0;
      own = elim (or_cases (not group.private) (has_flow_of s m.unit g) parts.1) [
        | inl open_one ↦ inl (not-true group.private open_one)
        | inr some ↦
            let (n, flow, there, is) = any_found (λ (f : FlowPlan). f.group == g && f.sender == m.unit) s.plan.flows.items some in
            let both = and_parts (flow.group == g) (flow.sender == m.unit) is in
            inr (n, flow, there, eqb-true flow.group g both.0, eqb-true flow.sender m.unit both.1)
      ];
    }

group_number : (s : Settings) (m : SentMessage) (test : Test) (g : ℕ) → first_group s m test ≡ Some g → IsItsNumber s.plan m.unit m.number
unfolding first_group is_group
group_number s m test g e =
    let passes_there = first_passes (is_group s m test) (length s.plan.groups.items) g e in
    let (group, at, is) = at_place (λ (x : GroupPlan). is_own s m g x && passes m test x) (slice_get s.plan.groups.items g) passes_there in
    own_number s m g group at (and_parts (is_own s m g group) (passes m test group) is).0

-- and a group of the unit with the number is found
pub some_group : (s : Settings) (m : SentMessage) → IsItsNumber s.plan m.unit m.number → is_some (first_group s m Any) ≡ true
unfolding first_group is_group
some_group s m is =
    let flow_of_it : (not is.group.private || has_flow_of s m.unit is.place) ≡ true = elim is.own [
      | inl open_one ↦ or_left (not is.group.private) (has_flow_of s m.unit is.place) (not_from_false is.group.private open_one)
      | inr (n, flow, there, group, sender) ↦
          or_right (not is.group.private) (has_flow_of s m.unit is.place)
          (any_at (λ (f : FlowPlan). f.group == is.place && f.sender == m.unit) s.plan.flows.items n flow there
          (and_from (flow.group == is.place) (flow.sender == m.unit) (eq-eqb flow.group is.place group) (eq-eqb flow.sender m.unit sender)))
    ] in
    let owned : is_own s m is.place is.group ≡ true =
    and_from (is.group.pgn == m.number) (not is.group.private || has_flow_of s m.unit is.place) (eq-eqb is.group.pgn m.number is.number_is) flow_of_it in
    some_below (is_group s m Any) is.place (length s.plan.groups.items)
    (place_at (λ (x : GroupPlan). is_own s m is.place x && passes m Any x) (slice_get s.plan.groups.items is.place) is.group is.group_is
    (and_from (is_own s m is.place is.group) (passes m Any is.group) owned refl))
    (slice_get_within s.plan.groups.items is.place is.group is.group_is)

fit_number : (s : Settings) (k : Knowledge) (m : SentMessage) (n : ℕ) (f : FlowPlan) → slice_get s.plan.flows.items n ≡ Some f
    → is_fit s k m f ≡ true → IsItsNumber s.plan m.unit m.number
unfolding is_fit is_fit_group
fit_number s k m n f there is =
    let parts = and_parts (f.sender == m.unit) (is_fit_group s m f.group && goes s k m f.to) is in
    let fits = (and_parts (is_fit_group s m f.group) (goes s k m f.to) parts.1).0 in
    let (group, at, both) = at_place (λ (x : GroupPlan). x.pgn == m.number && fits_group m x) (slice_get s.plan.groups.items f.group) fits in
    record {
      place = f.group;
      group = group;
      group_is = at;
      number_is = eqb-true group.pgn m.number (and_parts (group.pgn == m.number) (fits_group m group) both).0;
      own = inr (n, f, there, refl, eqb-true f.sender m.unit parts.0);
    }

-- ---- a message that differs has such a number

module _ (s : Settings) (k : Knowledge) (m : SentMessage) (d : Mark) where
  without : (a b : Option ℕ) → ((g : ℕ) → a ≡ Some g → IsItsNumber s.plan m.unit m.number)
      → ((g : ℕ) → b ≡ Some g → IsItsNumber s.plan m.unit m.number) → without_flow s m a b ≡ Some d → IsItsNumber s.plan m.unit m.number
  without (Some g) b first second e = first g refl
  without None (Some g) first second e = second g refl
  without None None first second e = absurd (none-some d e)

  either : (a b : Option ℕ) → ((g : ℕ) → a ≡ Some g → IsItsNumber s.plan m.unit m.number)
      → ((g : ℕ) → b ≡ Some g → IsItsNumber s.plan m.unit m.number) → (g : ℕ) → option_or a b ≡ Some g → IsItsNumber s.plan m.unit m.number
  either (Some h) b first second g e = first h refl
  either None b first second g e = second g e

  with_flow : (o : Option ℕ) → position (is_fit s k m) s.plan.flows.items ≡ o → with_fit_flow s k m o ≡ Some d → IsItsNumber s.plan m.unit m.number
  with_flow (Some n) is e =
      let (f, at, fits) = position_passes (is_fit s k m) s.plan.flows.items n is in
      fit_number s k m n f at fits
  with_flow None is e =
      without (first_group s m Fitting) (option_or (first_group s m Selected) (first_group s m Any)) (group_number s m Fitting)
      (either (first_group s m Selected) (first_group s m Any) (group_number s m Selected) (group_number s m Any)) e

  pub differing_number : deviation s k m ≡ Some d → IsItsNumber s.plan m.unit m.number
  unfolding deviation
  differing_number e = with_flow (position (is_fit s k m) s.plan.flows.items) refl e

-- ---- one that is of a flow doesn't differ

fits_so : (m : SentMessage) (group : GroupPlan) → group.length ≤ m.size → m.size ≤ group.most
    → ((bytes : List ℕ) → m.bytes ≡ Some bytes → is_selected group.when bytes ≡ true) → fits_group m group ≡ true
fits_so m group least most selected =
    and_from (nat_le group.length m.size && nat_le m.size group.most) (option_map_or (λ bytes. is_selected group.when bytes) m.bytes true)
    (and_from (nat_le group.length m.size) (nat_le m.size group.most) (le-leb group.length m.size least) (le-leb m.size group.most most))
    (elim (m.bytes) as (λ o. m.bytes ≡ o → option_map_or (λ bytes. is_selected group.when bytes) o true ≡ true) [
      | None ↦ λ _. refl
      | Some bytes ↦ λ is. selected bytes is
    ] refl)

module _ (s : Settings) (moving : AreMoving s.plan s.moving) (k : Knowledge) (m : SentMessage) where
  goes_so : (to : To) → GoesAsPlanned s.plan k m to → goes s k m to ≡ true
  unfolding may_hear
  goes_so ToAll (inl open_one) = or_left m.unaddressed (m.destination == global_address) open_one
  goes_so ToAll (inr all) = or_right m.unaddressed (m.destination == global_address) (eq-eqb m.destination global_address all)
  goes_so (ToOne v) (inl open_one) = or_left m.unaddressed (not (m.destination == global_address) && may_hear s k v m.destination) open_one
  goes_so (ToOne v) (inr (other, there)) =
      or_right m.unaddressed (not (m.destination == global_address) && may_hear s k v m.destination)
      (and_from (not (m.destination == global_address)) (may_hear s k v m.destination)
      (not_from_false (m.destination == global_address) (ne_eqb m.destination global_address other)) (hears v there))
    where
      hears : (v : ℕ) → IsItsAddress s.plan v m.destination ⊎ (k.last v ≡ Some m.destination) → may_hear s k v m.destination ≡ true
      hears v (inl its) = or_left (is_address_of s v m.destination) (is_at (k.last v) m.destination) (its_address s moving v m.destination its)
      hears v (inr last) =
          or_right (is_address_of s v m.destination) (is_at (k.last v) m.destination)
          (ap (λ (o : Option ℕ). is_at o m.destination) last ∙ eq-eqb m.destination m.destination refl)

  priority_so : (g : ℕ) (group : GroupPlan) → slice_get s.plan.groups.items g ≡ Some group
      → ((priority : ℕ) → m.priority ≡ Some priority → group.priority ≡ priority) → has_priority s m g ≡ true
  unfolding has_priority
  priority_so g group at same =
      elim (m.priority) as (λ o. m.priority ≡ o → option_map_or (λ priority.
      option_map_or (λ (x : GroupPlan). x.priority == priority) (slice_get s.plan.groups.items g) false) o true ≡ true) [
        | None ↦ λ _. refl
        | Some priority ↦ λ is.
            place_at (λ (x : GroupPlan). x.priority == priority) (slice_get s.plan.groups.items g) group at
            (eq-eqb group.priority priority (same priority is))
      ] refl

  pub of_flow : (p : IsOfFlowPlanned s.plan k m) → is_of s k m p.flow ≡ true
  unfolding is_of is_fit is_fit_group
  of_flow p =
      let fits : is_fit_group s m p.flow.group ≡ true =
      place_at (λ (x : GroupPlan). x.pgn == m.number && fits_group m x) (slice_get s.plan.groups.items p.flow.group) p.group p.group_is
      (and_from (p.group.pgn == m.number) (fits_group m p.group) (eq-eqb p.group.pgn m.number p.number)
      (fits_so m p.group p.at_least p.at_most p.selected)) in
      and_from (p.flow.sender == m.unit && (is_fit_group s m p.flow.group && goes s k m p.flow.to)) (has_priority s m p.flow.group)
      (and_from (p.flow.sender == m.unit) (is_fit_group s m p.flow.group && goes s k m p.flow.to) (eq-eqb p.flow.sender m.unit p.sender)
      (and_from (is_fit_group s m p.flow.group) (goes s k m p.flow.to) fits (goes_so p.flow.to p.goes)))
      (priority_so p.flow.group p.group p.group_is p.priority)

  fit_of : (f : FlowPlan) → is_of s k m f ≡ true → is_fit s k m f ≡ true
  unfolding is_of
  fit_of f is = (and_parts (is_fit s k m f) (has_priority s m f.group) is).0

  pub planned_alike : IsOfFlowPlanned s.plan k m → deviation s k m ≡ None
  unfolding deviation
  planned_alike p =
      let is = of_flow p in
      elim (position (is_fit s k m) s.plan.flows.items) as (λ o. position (is_fit s k m) s.plan.flows.items ≡ o → with_fit_flow s k m o ≡ None) [
        | None ↦ λ none. absurd (no_position (is_fit s k m) s.plan.flows.items none p.place p.flow p.flow_is (fit_of p.flow is))
        | Some f ↦ λ _. cond-true (list_any (is_of s k m) s.plan.flows.items) None (deviates m.unit Priority (flow_group s f))
            (any_at (is_of s k m) s.plan.flows.items p.place p.flow p.flow_is is)
      ] refl

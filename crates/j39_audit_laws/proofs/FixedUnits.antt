-- Where no unit moves and each claim is of its unit's own address, each frame is some unit's, or nobody's.
use Rattle.std.proofs.Common.{◌≡◌, ◌⊎◌, ℕ, zero, suc, ◌+◌, ◌==◌, ◌&&◌, ◌||◌, ◌∷◌, [], List, Bool, true, false, not}
use Rattle.std.proofs.Common.{inl, inr, refl, sym, ap, ◌∙◌, subst, arith, eqb-true, Option, Some, None, if◌then◌else◌}
use Rattle.std.specs.Prelude.{is_none}
use Rattle.std.specs.List.{AllByRecursion, list_any, slice_get}
use Rattle.std.specs.Option.{is_some}
use Rattle.std.proofs.lemmas.Bool.{MatchBool-at_false, and_parts, cases_Bool, cond-false, cond-true, eq-eqb, false_from_ne_true, le-ltb, not-true, or_cases}
use Rattle.std.proofs.lemmas.Bool.{or_left, true≢false}
use Rattle.std.proofs.lemmas.Option.{none-some, same_Some, slice_get_within}
use Rattle.j39_id.specs.Addresses.{is_address}
use Rattle.j39_id.specs.Lines.{Line, Short as ShortLine}
use Rattle.j39_id.specs.Name.{is_arbitrary}
use Rattle.j39_id.specs.declared.frame.Frame.{Frame}
use Rattle.j39_network.specs.declared.plan.unit_plan.UnitPlan.{UnitPlan}
use Rattle.j39_tp.specs.declared.packet.Packet.{Packet}
use Rattle.j39_audit.specs.AuditPasts.{AuditPast, claims_before, past_with_frame, noted_newly}
use Rattle.j39_audit.specs.Below.{any_below}
use Rattle.j39_audit.specs.Breaks.{breaks, line_time}
use Rattle.j39_audit.specs.Claiming.{Heard, HeardClaims, Knowledge, broken_off, first_there, has_strangers, is_address_of, is_another_there, is_at}
use Rattle.j39_audit.specs.Claiming.{is_claimed_last, is_free_for, is_strange, is_strangers, knowledge, may_be, may_stand, newest_of, sender_at, sure_sender}
use Rattle.j39_audit.specs.Claiming.{with_claim, with_requests}
use Rattle.j39_id.specs.Addresses.{in_pool}
use Rattle.j39_audit.specs.Looking.{claimant, claims_behind, is_claim}
use Rattle.j39_audit.specs.Settings.{AreMoving, Settings, moves, units_planned}
use Rattle.j39_audit.specs.declared.senders.SureSender.TheVariants.{Unit as OfUnit, Nobody, Unknown}
use Rattle.j39_audit_laws.specs.FoundForSure.{ClaimsArePlanned, HasFixedUnits, IsPlannedAt, NoneIsUnsure}
use Rattle.j39_audit_laws.specs.FoundLines.{IsFrameAt}
use Rattle.j39_audit_laws.proofs.Planned.{at_place, first_passes, place_at, some_below}
use Rattle.j39_audit_laws.proofs.Walk.{IsNext, at_line}
use Rattle.j39_audit.specs.MessageStreams.{nothing_sighted, sighted_behind}

none_pass : (test : ℕ → Bool) → ((k : ℕ) → test k ≡ false) → (n : ℕ) → any_below test n ≡ false
unfolding any_below
none_pass test none zero = refl
none_pass test none (suc n) = ap (λ (b : Bool). b || test n) (none_pass test none n) ∙ none n

module _ (s : Settings) (log : List Line) (moving : AreMoving s.plan s.moving) (fixed : HasFixedUnits s.plan) where
  -- ---- addresses

  stays_there : (u : ℕ) (unit : UnitPlan) → slice_get s.plan.units.items u ≡ Some unit → moves s u ≡ true → ⊥
  stays_there u unit at moves_on =
      let parts = and_parts (is_arbitrary unit.name) (not (moving.stays unit)) (sym (moving.each u unit at) ∙ moves_on) in
      MatchBool-at_false _ _ (not-true (moving.stays unit) parts.1) (moving.decides u unit at) (fixed.still u unit at parts.0)

  planned_there : (u a : ℕ) → is_address_of s u a ≡ true → IsPlannedAt s.plan u a
  unfolding is_address_of
  planned_there u a is =
      let (unit, at, test) = at_place (λ (x : UnitPlan). x.address == a || (moves s u && is_free_for s a)) (slice_get s.plan.units.items u) is in
      elim (or_cases (unit.address == a) (moves s u && is_free_for s a) test) [
        | inl same ↦ record { unit = unit; unit_is = at; address = eqb-true unit.address a same }
        | inr free ↦ absurd (stays_there u unit at (and_parts (moves s u) (is_free_for s a) free).0)
      ]

  there_by_plan : (u a : ℕ) → IsPlannedAt s.plan u a → is_address_of s u a ≡ true
  unfolding is_address_of
  there_by_plan u a is =
      place_at (λ (x : UnitPlan). x.address == a || (moves s u && is_free_for s a)) (slice_get s.plan.units.items u) is.unit is.unit_is
      (or_left (is.unit.address == a) (moves s u && is_free_for s a) (eq-eqb is.unit.address a is.address))

  one_address : (u a b : ℕ) → IsPlannedAt s.plan u a → IsPlannedAt s.plan u b → a ≡ b
  one_address u a b one other =
      let unit : one.unit ≡ other.unit = same_Some one.unit other.unit (sym one.unit_is ∙ other.unit_is) in
      sym one.address ∙ ap (λ (x : UnitPlan). x.address) unit ∙ other.address

  no_strangers_come : has_strangers s ≡ false
  no_strangers_come = (let none = fixed.no_strangers in le-ltb 0 s.plan.strangers (omega (arith, none)))

  -- ---- claims

  -- of a unit's own address
  abbrev IsOwnClaim : Heard → Type 0
  IsOwnClaim h = (u : ℕ) × (h.unit ≡ Some u) × IsPlannedAt s.plan u h.source

  abbrev AreOwn : HeardClaims → Type 0
  AreOwn claims = AllByRecursion IsOwnClaim claims.all × AllByRecursion IsOwnClaim claims.recent

  own_unbroken : (broken : Bool) (claims : HeardClaims) → AreOwn claims → AreOwn (broken_off broken claims)
  own_unbroken true claims own = (own.0, tt)
  own_unbroken false claims own = own

  own_more : (f : Frame) (claims : HeardClaims) → (is_claim f ≡ true → IsOwnClaim (claimant s f)) → AreOwn claims → AreOwn (claims_behind s f claims)
  own_more f claims here own =
      elim (is_claim f) as (λ b. (b ≡ true → IsOwnClaim (claimant s f)) → AreOwn (if b then with_claim (claimant s f) claims else claims)) [
        | true ↦ λ one. ((one refl, own.0), (one refl, own.1))
        | false ↦ λ _. own
      ] here

  claims_next : (past : AuditPast) (time : Option ℕ) (named : Option (List ℕ)) (f : Frame) (packet : Option Packet)
      → (past_with_frame s past time named f packet).claims
      ≡ with_requests s.plan time f (sighted_behind nothing_sighted (noted_newly s past time f packet)).request (claims_behind s f (claims_before s past time))
  unfolding past_with_frame
  claims_next past time named f packet = refl

  newest_own : (u b : ℕ) (l : List Heard) → AllByRecursion IsOwnClaim l → newest_of u l ≡ Some b → IsPlannedAt s.plan u b
  unfolding newest_of
  newest_own u b [] all e = absurd (none-some b e)
  newest_own u b (h ∷ l) all e = elim (cases_Bool (is_at h.unit u)) [
    | inl its ↦
        let (v, unit, planned) = all.0 in
        let same : v ≡ u = eqb-true v u (sym (ap (λ (o : Option ℕ). is_at o u) unit) ∙ its) in
        let source : h.source ≡ b = same_Some h.source b (sym (cond-true (is_at h.unit u) (Some h.source) (newest_of u l) its) ∙ e) in
        subst (IsPlannedAt s.plan u) source (subst (λ (w : ℕ). IsPlannedAt s.plan w h.source) same planned)
    | inr other ↦ newest_own u b l all.1 (sym (cond-false (is_at h.unit u) (Some h.source) (newest_of u l) other) ∙ e)
  ]

  none_taken : (a : ℕ) (l : List Heard) → AllByRecursion IsOwnClaim l → list_any (λ (h : Heard). is_none h.unit && h.source == a) l ≡ false
  none_taken a [] all = refl
  none_taken a (h ∷ l) all =
      let (u, unit, planned) = all.0 in
      ap (λ (o : Option ℕ). (is_none o && h.source == a) || list_any (λ (x : Heard). is_none x.unit && x.source == a) l) unit ∙ none_taken a l all.1

  module _ (claims : HeardClaims) (own : AreOwn claims) (a : ℕ) where
    abbrev k : Knowledge
    k = knowledge s claims

    last_own : (u b : ℕ) → k.last u ≡ Some b → IsPlannedAt s.plan u b
    last_own u b e =
        elim (s.part) as (λ p. (if p then None else newest_of u (if moves s u then claims.recent else claims.all)) ≡ Some b → IsPlannedAt s.plan u b) [
          | true ↦ λ is. absurd (none-some b is)
          | false ↦ elim (moves s u) as (λ m. newest_of u (if m then claims.recent else claims.all) ≡ Some b → IsPlannedAt s.plan u b) [
            | true ↦ λ is. newest_own u b claims.recent own.1 is
            | false ↦ λ is. newest_own u b claims.all own.0 is
          ]
        ] e

    may_be_planned : (u : ℕ) → may_be s k u a ≡ true → IsPlannedAt s.plan u a
    unfolding may_be
    may_be_planned u is = elim (k.last u) as (λ o. k.last u ≡ o → may_stand s u a o ≡ true → IsPlannedAt s.plan u a) [
      | None ↦ λ _ there. planned_there u a there
      | Some b ↦ λ last there. subst (IsPlannedAt s.plan u) (eqb-true b a there) (last_own u b last)
    ] refl is

    planned_may_be : (u : ℕ) → IsPlannedAt s.plan u a → may_be s k u a ≡ true
    unfolding may_be
    planned_may_be u is = elim (k.last u) as (λ o. k.last u ≡ o → may_stand s u a o ≡ true) [
      | None ↦ λ _. there_by_plan u a is
      | Some b ↦ λ last. eq-eqb b a (one_address u b a (last_own u b last) is)
    ] refl

    not_strange : is_strange s k a ≡ false
    unfolding is_strange
    not_strange =
        let free : is_strangers claims a ≡ false =
        ap (λ (b : Bool). is_address a && b) (none_taken a claims.all own.0) ∙ elim (is_address a) as
        (λ b. (b && false) ≡ false) [ true ↦ refl | false ↦ refl ] in
        ap (λ (b : Bool). b || (has_strangers s && (in_pool a && not (is_claimed_last s k a)))) free
        ∙ ap (λ (b : Bool). b && (in_pool a && not (is_claimed_last s k a))) no_strangers_come

    abbrev IsSure : Type 0
    IsSure = ((u : ℕ) × IsPlannedAt s.plan u a × (sender_at s k a ≡ OfUnit u))
        ⊎ (((u : ℕ) → ¬ IsPlannedAt s.plan u a) × (sender_at s k a ≡ Nobody))

    unknown_not : (o : Option ℕ) → first_there s k a ≡ o → sender_at s k a ≡ sure_sender s k a o
    unfolding sender_at
    unknown_not o e = cond-false (is_strange s k a) Unknown (sure_sender s k a (first_there s k a)) not_strange ∙ ap (sure_sender s k a) e

    none_there : first_there s k a ≡ None → (u : ℕ) → ¬ IsPlannedAt s.plan u a
    unfolding first_there
    none_there none u planned =
        true≢false (sym (some_below (λ v. may_be s k v a) u (units_planned s) (planned_may_be u planned)
        (slice_get_within s.plan.units.items u planned.unit planned.unit_is)) ∙ ap is_some none)

    first_planned : (u : ℕ) → first_there s k a ≡ Some u → IsPlannedAt s.plan u a
    unfolding first_there
    first_planned u e = may_be_planned u (first_passes (λ v. may_be s k v a) (units_planned s) u e)

    alone_there : (u : ℕ) → IsPlannedAt s.plan u a → is_another_there s k a u ≡ false
    unfolding is_another_there
    alone_there u planned =
        none_pass (λ v. may_be s k v a && not (v == u)) (λ v. false_from_ne_true _ (λ both.
        let parts = and_parts (may_be s k v a) (not (v == u)) both in
        let same : v ≡ u = fixed.apart v u a (may_be_planned v parts.0) planned in
        true≢false (sym (eq-eqb v u same) ∙ not-true (v == u) parts.1))) (units_planned s)

    pub is_sure : IsSure
    is_sure = elim (first_there s k a) as (λ o. first_there s k a ≡ o → IsSure) [
      | None ↦ λ none. inr (none_there none, unknown_not None none ∙ cond-false (has_strangers s) Unknown Nobody no_strangers_come)
      | Some u ↦ λ first.
          let planned = first_planned u first in
          inl (u, planned, unknown_not (Some u) first ∙ cond-false (is_another_there s k a u) Unknown (OfUnit u) (alone_there u planned))
    ] refl

  -- ---- lines

  module _ (planned : ClaimsArePlanned s log) where
    abbrev Holds : ℕ → AuditPast → Type 0
    Holds number past = AreOwn past.claims

    more : (number : ℕ) (past next : AuditPast) → Holds number past → IsNext s log (number + 1) past next → Holds (number + 1) next
    more number past next own (count, inl passed) = subst AreOwn (sym passed.claims_are) own
    more number past next own (count, inr (inl gap)) = subst AreOwn (sym gap.claims_are) own
    more number past next own (count, inr (inr (inl bad))) = subst AreOwn (sym (ap (λ (p : AuditPast). p.claims) bad.next_is)) own
    more number past next own (count, inr (inr (inr (inr again)))) = subst AreOwn (sym again.claims_are) own
    more number past next own (count, inr (inr (inr (inl one)))) =
        let begun : AuditPast = one.at.past in
        let t : Option ℕ = line_time s.plan one.at.time in
        let before : AreOwn begun.claims = subst AreOwn (sym (ap (λ (p : AuditPast). p.claims) one.past_is)) own in
        subst AreOwn (sym (ap (λ (p : AuditPast). p.claims) one.next_is ∙ claims_next begun t one.at.named one.f one.packet))
        (own_more one.f (claims_before s begun t) (λ claim. planned (number + 1) one.claims one.f one.packet one.at claim)
        (own_unbroken (breaks s.stamps begun.newest t) begun.claims before))

    pub own_there : (number : ℕ) (claims : HeardClaims) (f : Frame) (packet : Option Packet) → IsFrameAt s log number claims f packet → AreOwn claims
    own_there number claims f packet at =
        let just : AreOwn at.line_is.just.claims = at_line s log Holds more number at.past (ShortLine at.line) at.line_is (tt, tt) in
        let there : AreOwn at.past.claims = subst AreOwn (sym (ap (λ (p : AuditPast). p.claims) at.line_is.past_is)) just in
        subst AreOwn (sym at.claims_are) (own_unbroken (breaks s.stamps at.past.newest (line_time s.plan at.time)) at.past.claims there)

pub none_is_unsure : NoneIsUnsure
none_is_unsure s log moving fixed planned number claims f packet at other address =
    elim (is_sure s log moving fixed claims (own_there s log moving fixed planned number claims f packet at) f.ident.sa) [
      | inl (u, here, sender) ↦ inl (u, here, record { other = other; address = address; sender_is = sender })
      | inr (none, sender) ↦
          inr (none, inr (claims, f, packet, at, (record { other = other; address = address; sender_is = sender }, refl, refl)))
    ]

-- Who is at an address by the claims of a log, and which addresses are a unit's.
use Rattle.std.proofs.Common.{◌≡◌, ◌≢◌, ℕ, zero, suc, ◌<◌, ◌==◌, ◌&&◌, ◌||◌, ◌++◌, ◌∷◌, [], All, Any, List, Bool, true, false, not, length}
use Rattle.std.proofs.Common.{Option, Some, None, inl, inr, refl, sym, ap, ◌∙◌, subst, arith, eqb-true}
use Rattle.std.specs.FinSet.{contains}
use Rattle.std.specs.List.{list_any, slice_get}
use Rattle.std.specs.Prelude.{is_none}
use Rattle.std.proofs.lemmas.Bool.{MatchBool-at_false, and_from, and_parts, cond-false, cond-true, eq-eqb, false_from_ne_true, ne_eqb}
use Rattle.std.proofs.lemmas.Bool.{ltb-true, not-true, or_cases, or_left, true≢false}
use Rattle.std.proofs.lemmas.List.Elements.{All-head, All-tail}
use Rattle.std.proofs.lemmas.List.Folds.{Any-from_list_any, list_any-from_Any}
use Rattle.j39_id.specs.Addresses.{in_pool, is_address}
use Rattle.j39_id.specs.Name.{is_arbitrary}
use Rattle.j39_network.specs.declared.plan.unit_plan.UnitPlan.{UnitPlan}
use Rattle.j39_audit.specs.Below.{any_below, first_below}
use Rattle.j39_audit.specs.Claiming.{Heard, HeardClaims, Knowledge, first_there, has_strangers, is_address_of, is_another_there, is_at, is_claimed_last}
use Rattle.j39_audit.specs.Claiming.{is_free_for, is_strange, knowledge, may_be, may_stand, newest_of, sender_at, sure_sender}
use Rattle.j39_audit.specs.Looking.{is_claiming}
use Rattle.j39_audit.specs.Settings.{AreMoving, Settings, moves, units_planned}
use Rattle.j39_audit.specs.declared.senders.SureSender.TheVariants.{Unit as OfUnit, Unknown}
use Rattle.j39_audit.proofs.Below.{any_here, first_here}
use Rattle.j39_audit_laws.specs.FoundLines.{ClaimsRightly}
use Rattle.j39_audit_laws.specs.KnownSenders.{AloneIsTheSender, IsNewestClaim, IsClaimedByOthers, CannotBeThere, IsUnheard, OthersAreUnsure}
use Rattle.j39_audit_laws.specs.KnownSenders.{RightClaimsAreByThePlan, counting_claims}
use Rattle.j39_audit_laws.specs.OwnPart.{ClaimsAddresses, IsItsAddress}
use Rattle.j39_audit_laws.proofs.Planned.{at_place, claims_so, its_address}

-- ---- places

none_first : (test : ℕ → Bool) (n : ℕ) → ((v : ℕ) → v < n → test v ≡ false) → first_below test n ≡ None
unfolding first_below
none_first test zero all = refl
none_first test (suc n) all = rw (none_first test n (λ v less. all v (omega (arith, less))), all n (omega arith)) refl

none_any : (test : ℕ → Bool) (n : ℕ) → ((v : ℕ) → v < n → test v ≡ false) → any_below test n ≡ false
unfolding any_below
none_any test zero all = refl
none_any test (suc n) all = rw (none_any test n (λ v less. all v (omega (arith, less))), all n (omega arith)) refl

-- ---- claims

not_at : (o : Option ℕ) (u : ℕ) → o ≢ Some u → is_at o u ≡ false
not_at None u differs = refl
not_at (Some v) u differs = ne_eqb v u (λ same. differs (ap Some same))

-- of another unit, or of none
abbrev IsNotOf : ℕ → Heard → Type 0
IsNotOf u h = h.unit ≢ Some u

newest_in : (u a : ℕ) (claims : List Heard) → IsNewestClaim u a claims → newest_of u claims ≡ Some a
unfolding newest_of
newest_in u a claims last = subst (λ all. newest_of u all ≡ Some a) (sym last.are) (go last.later last.newest)
  where
    go : (later : List Heard) → All (λ (h : Heard). h.unit ≢ Some u) later → newest_of u (later ++ last.claim ∷ last.older) ≡ Some a
    go [] none =
        cond-true (is_at last.claim.unit u) (Some last.claim.source) (newest_of u last.older) (ap (λ o. is_at o u) last.unit ∙ eq-eqb u u refl)
        ∙ ap Some last.address
    go (h ∷ later) none =
        cond-false (is_at h.unit u) (Some h.source) (newest_of u (later ++ last.claim ∷ last.older))
        (not_at h.unit u (All-head (IsNotOf u) h later none)) ∙ go later (All-tail (IsNotOf u) h later none)

none_in : (u : ℕ) (claims : List Heard) → IsUnheard u claims → newest_of u claims ≡ None
unfolding newest_of
none_in u [] none = refl
none_in u (h ∷ older) none =
    cond-false (is_at h.unit u) (Some h.source) (newest_of u older) (not_at h.unit u (All-head (IsNotOf u) h older none))
    ∙ none_in u older (All-tail (IsNotOf u) h older none)

-- ---- addresses by the plan

module _ (s : Settings) (moving : AreMoving s.plan s.moving) (u a : ℕ) where
  by_plan : is_address_of s u a ≡ true → IsItsAddress s.plan u a
  unfolding is_address_of
  by_plan is =
      let (unit, at, found) = at_place (λ (unit : UnitPlan). unit.address == a || (moves s u && is_free_for s a)) (slice_get s.plan.units.items u) is in
      record {
        unit = unit;
        unit_is = at;
        planned_or_free = elim (or_cases (unit.address == a) (moves s u && is_free_for s a) found) [
          | inl planned ↦ inl (eqb-true unit.address a planned)
          | inr both ↦
              let (moving_there, free) = and_parts (moves s u) (is_free_for s a) both in
              let (arbitrary, leaves) = and_parts (is_arbitrary unit.name) (not (moving.stays unit)) (sym (moving.each u unit at) ∙ moving_there) in
              let (pool, unkept) = and_parts (in_pool a) (has_strangers s || not (contains s.plan.keep_free a)) free in
              inr (
                arbitrary,
                MatchBool-at_false _ _ (not-true (moving.stays unit) leaves) (moving.decides u unit at),
                pool,
                elim (or_cases (has_strangers s) (not (contains s.plan.keep_free a)) unkept) [
                  | inl come ↦ inl (ltb-true 0 s.plan.strangers come)
                  | inr kept ↦ inr (not-true (contains s.plan.keep_free a) kept)
                ],
              )
        ];
      }

claimer : (s : Settings) (u : ℕ) → is_claiming s u ≡ true → ClaimsAddresses s.plan u
claimer s u is =
    let (unit, at, claims) = at_place (λ (unit : UnitPlan). unit.claims) (slice_get s.plan.units.items u) is in
    record { unit = unit; unit_is = at; claims = claims }

pub right_by_plan : RightClaimsAreByThePlan
right_by_plan s moving u a = (
  λ (right : ClaimsRightly s u a). (claimer s u right.claims, by_plan s moving u a right.own),
  λ its. record { claims = claims_so s u its.0; own = its_address s moving u a its.1 },
)

-- ---- the sender

abbrev is_other : ℕ → Heard → Bool
is_other a h = is_none h.unit && h.source == a

other_of : (a : ℕ) (claims : List Heard) → Any (λ (h : Heard). is_other a h ≡ true) claims → Any (λ (h : Heard). (h.unit ≡ None) × (h.source ≡ a)) claims
other_of a claims (k, h, inside, at, is) =
    let (stranger, there) = and_parts (is_none h.unit) (h.source == a) is in (k, h, inside, at, (none_of h.unit stranger, eqb-true h.source a there))
  where
    none_of : (o : Option ℕ) → is_none o ≡ true → o ≡ None
    none_of None is = refl
    none_of (Some u) is = absurd (true≢false (sym is))

of_other : (a : ℕ) (claims : List Heard) → Any (λ (h : Heard). (h.unit ≡ None) × (h.source ≡ a)) claims → Any (λ (h : Heard). is_other a h ≡ true) claims
of_other a claims (k, h, inside, at, (stranger, there)) =
    (k, h, inside, at, and_from (is_none h.unit) (h.source == a) (ap is_none stranger) (eq-eqb h.source a there))

pub others_unsure : OthersAreUnsure
unfolding sender_at is_strange
others_unsure s claims a address others =
    let k = knowledge s claims in
    let taken : k.taken a ≡ true =
    and_from (is_address a) (list_any (is_other a) claims.all) address
    (list_any-from_Any (is_other a) claims.all (of_other a claims.all others)) in
    cond-true (is_strange s k a) Unknown (sure_sender s k a (first_there s k a))
    (or_left (k.taken a) (has_strangers s && (in_pool a && not (is_claimed_last s k a))) taken)

-- no stranger is there where none claimed it and a unit did last
not_strange : (taken come pool last : Bool) → taken ≡ false → last ≡ true → (taken || (come && (pool && not last))) ≡ false
not_strange true come pool last none is = absurd (true≢false none)
not_strange false false pool last none is = refl
not_strange false true false last none is = refl
not_strange false true true true none is = refl
not_strange false true true false none is = absurd (true≢false (sym is))

no_other : (there same : Bool) → ((same ≡ false) → there ≡ false) → (there && not same) ≡ false
no_other true true none = refl
no_other true false none = none refl
no_other false same none = refl

module _ (s : Settings) (moving : AreMoving s.plan s.moving) (whole : s.part ≡ false) (claims : HeardClaims) (a : ℕ) where
  abbrev k : Knowledge
  k = knowledge s claims

  last_is : (v : ℕ) → k.last v ≡ newest_of v (counting_claims s claims v)
  last_is v = cond-false s.part None (newest_of v (counting_claims s claims v)) whole

  elsewhere : (v : ℕ) → CannotBeThere s claims v a → may_be s k v a ≡ false
  unfolding may_be
  elsewhere v (inl (b, last, differs)) = ap (may_stand s v a) (last_is v ∙ newest_in v b (counting_claims s claims v) last) ∙ ne_eqb b a differs
  elsewhere v (inr (unheard, foreign)) =
      ap (may_stand s v a) (last_is v ∙ none_in v (counting_claims s claims v) unheard)
      ∙ false_from_ne_true (is_address_of s v a) (λ is. foreign (by_plan s moving v a is))

  module _ (u : ℕ) (inside : u < length s.plan.units.items) (last : IsNewestClaim u a (counting_claims s claims u)) (nobody : ¬ IsClaimedByOthers claims a)
      (others : (v : ℕ) → v < length s.plan.units.items → v ≢ u → CannotBeThere s claims v a) where
    claimed : k.last u ≡ Some a
    claimed = last_is u ∙ newest_in u a (counting_claims s claims u) last

    here : may_be s k u a ≡ true
    unfolding may_be
    here = ap (may_stand s u a) claimed ∙ eq-eqb a a refl

    not_taken : k.taken a ≡ false
    not_taken = false_from_ne_true (k.taken a) (λ taken.
        nobody (other_of a claims.all (Any-from_list_any (is_other a) claims.all (and_parts (is_address a) (list_any (is_other a) claims.all) taken).1)))

    known : is_strange s k a ≡ false
    unfolding is_strange is_claimed_last
    known = not_strange (k.taken a) (has_strangers s) (in_pool a) (any_below (λ v. is_at (k.last v) a) (units_planned s)) not_taken
        (any_here (λ v. is_at (k.last v) a) u (units_planned s) (ap (λ o. is_at o a) claimed ∙ eq-eqb a a refl) inside)

    first_is : first_there s k a ≡ Some u
    unfolding first_there
    first_is = first_here (λ v. may_be s k v a) u (units_planned s)
        (none_first (λ v. may_be s k v a) u (λ v less. elsewhere v (others v (omega (arith, less, inside)) (λ same. below same less)))) here inside
      where
        below : {v : ℕ} → v ≡ u → v < u → ⊥
        below same less = omega (arith, same, less)

    alone_there : is_another_there s k a u ≡ false
    unfolding is_another_there
    alone_there = none_any (λ v. may_be s k v a && not (v == u)) (units_planned s) (λ v less.
        no_other (may_be s k v a) (v == u) (λ differs. elsewhere v (others v less (λ same. true≢false (sym (eq-eqb v u same) ∙ differs)))))

    alone : sender_at s k a ≡ OfUnit u
    unfolding sender_at
    alone = cond-false (is_strange s k a) Unknown (sure_sender s k a (first_there s k a)) known
        ∙ ap (sure_sender s k a) first_is ∙ cond-false (is_another_there s k a u) Unknown (OfUnit u) alone_there

pub alone_sends : AloneIsTheSender
alone_sends s moving whole claims u a inside last nobody others = alone s moving whole claims a u inside last nobody others

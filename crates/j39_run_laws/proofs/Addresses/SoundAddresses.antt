-- Each world of a run of a clean plan has sound addresses, and none that is kept free is held.
use Rattle.std.proofs.Common.{◌≡◌, ◌≢◌, ◌<◌, ℕ, zero, suc, true, map, List, [], ◌∷◌, length, refl, sym, ap, ◌∙◌, subst, Option, Some, None, inl, inr, false}
use Rattle.std.proofs.lemmas.Bool.{true≢false}
use Rattle.std.proofs.lemmas.Option.{same_Some}
use Rattle.std.specs.FinMap.{get-empty}
use Rattle.std.specs.FinSet.{FinSet, contains}
use Rattle.std.specs.Ordering.{nat_cmp}
use Rattle.std.proofs.lemmas.List.Elements.{All-contains, All-from_recursion}
use Rattle.std.specs.List.{AllByRecursion, Contains}
use Rattle.j39_claim.specs.declared.item.Item.{Item}
use Rattle.j39_claim.specs.declared.item.Item.TheVariants.{AddressClaimed}
use Rattle.j39_claim.specs.declared.item.Say.TheVariants.{Claim}
use Rattle.j39_claim.specs.declared.item.Say.{Say}
use Rattle.j39_claim.specs.ClaimRule.{PlannedUnit, ClaimState, Answers, started}
use Rattle.j39_id.specs.Name.{is_arbitrary}
use Rattle.j39_network.specs.declared.plan.Plan.{Plan}
use Rattle.j39_network.specs.declared.plan.unit_plan.UnitPlan.{UnitPlan}
use Rattle.j39_world.specs.ClaimSteps.{sent_to_others, without_lists_to}
use Rattle.j39_network.specs.PlannedUnits.{planned_unit, units_of, unit_at}
use Rattle.j39_world.specs.Sound.{AreAddressesSound, AreAddressesDifferent, AreKeptFree, IsQuiet}
use Rattle.j39_world.specs.SoundPlan.{Always}
use Rattle.j39_world.specs.HeldAddresses.{HoldsAlone}
use Rattle.j39_world.specs.World.{World, Stations, Undelivered, all_off, changed, changed_pair}
use Rattle.j39_run_laws.proofs.Addresses.AddressInvariant.{AddressInvariant, IsOwn, IsSaid}
use Rattle.j39_run_laws.proofs.Addresses.AddressSteps.{up_keeps, up_silently, down_keeps, ask_keeps, give_keeps}
use Rattle.j39_run_laws.proofs.Addresses.CleanUnits.{IsClean}
use Rattle.j39_run_laws.proofs.Addresses.Turns.{alone_there, passes_over, turn}
use Rattle.j39_run_laws.proofs.Runs.Always.{always}
use Rattle.j39_run_laws.proofs.Runs.ClaimInvariants.{IsKeptByClaimSteps, stations_given, claims_given, claim_steps_keep, still, stated_nothing}
use Rattle.j39_run_laws.proofs.Runs.Units.{in_units}

at_first : (units : List PlannedUnit) → AddressInvariant units all_off.stations all_off.claims
at_first units = record {
  inside = λ u on. absurd (true≢false (sym on));
  holds = λ u on. absurd (true≢false (sym on));
  apart = λ u v a other on_u on_v. absurd (true≢false (sym on_u));
  said = λ u v. tt;
  itself = λ u. refl;
  notes = λ v n a is. absurd (let e = sym (get-empty {X = ℕ} nat_cmp n) ∙ is in cc);
}

-- v hears the oldest item of u
given : (units : List PlannedUnit) → IsClean units → (stations : Stations) (claims : Undelivered) → AddressInvariant units stations claims
    → (u v : ℕ) → u < length units → v < length units → (stations v).on ≡ true → (unit_at units v).claims ≡ true → (item : Item) (rest : List Item)
    → claims u v ≡ item ∷ rest
    → (says : Option Say) (new : ClaimState) → Answers (unit_at units v) (stations v) (unit_at units u).name item says new
    → AddressInvariant units (stations_given stations v new) (claims_given stations claims u v rest says new)
given units clean stations claims inv u v in_u in_v on claiming item rest list says new answers =
    let other : u ≢ v = λ same. let none : item ∷ rest ≡ [] = sym list ∙ ap (claims u) (sym same) ∙ inv.itself u in cc in
    let said : AllByRecursion (IsSaid (unit_at units u)) (item ∷ rest) = subst (AllByRecursion (IsSaid (unit_at units u))) list (inv.said u v) in
    let t = turn units clean u v in_u in_v other (stations v) (inv.holds v on) (inv.notes v) claiming item said.0 says new answers in
    give_keeps units stations claims inv u v other on item rest list says new t

-- v does nothing about it
passed_over : (units : List PlannedUnit) → IsClean units → (stations : Stations) (claims : Undelivered) → AddressInvariant units stations claims
    → (u v : ℕ) → u < length units → v < length units → (stations v).on ≡ true → (unit_at units v).claims ≡ false → (item : Item) (rest : List Item)
    → claims u v ≡ item ∷ rest → AddressInvariant units stations (changed_pair claims u v rest)
passed_over units clean stations claims inv u v in_u in_v on silent item rest list =
    let other : u ≢ v = λ same. let none : item ∷ rest ≡ [] = sym list ∙ ap (claims u) (sym same) ∙ inv.itself u in cc in
    let said : AllByRecursion (IsSaid (unit_at units u)) (item ∷ rest) = subst (AllByRecursion (IsSaid (unit_at units u))) list (inv.said u v) in
    let t = passes_over units clean u v in_u in_v other (stations v) (inv.holds v on) (inv.notes v) silent item said.0 in
    let left : Undelivered = changed_pair claims u v rest in
    let stated = give_keeps units stations claims inv u v other on item rest list None (stations v) t in
    subst (AddressInvariant units stations) (stated_nothing stations left v)
    (subst (λ f. AddressInvariant units f (sent_to_others f left v [])) (still stations v) stated)

-- a unit may hold the address that it prefers
prefers_own : (units : List PlannedUnit) → IsClean units → (u : ℕ) → u < length units → IsOwn (unit_at units u) (unit_at units u).preferred
prefers_own units clean u inside = record { fixed = λ _. refl; unkept = clean.unkept u inside; planned = inl refl; silent = λ _. refl }

claim_steps : (plan : Plan) → IsClean (units_of plan) → IsKeptByClaimSteps plan (AddressInvariant (units_of plan))
claim_steps plan clean = record {
  switched_on = λ stations claims inv u unit _. up_keeps (units_of plan) stations claims inv u (in_units plan u unit)
      (prefers_own (units_of plan) clean u (in_units plan u unit));
  switched_on_silently = λ stations claims inv u unit silent.
      let new : Stations = changed stations u (started (unit_at (units_of plan) u)) in
      subst (AddressInvariant (units_of plan) new) (stated_nothing new (without_lists_to u claims) u)
      (up_silently (units_of plan) stations claims inv u (in_units plan u unit) (prefers_own (units_of plan) clean u (in_units plan u unit))
      (λ z a in_z other. alone_there (units_of plan) clean u (in_units plan u unit) silent z a in_z other));
  switched_off = λ stations claims inv u. down_keeps (units_of plan) stations claims inv u;
  asked = λ stations claims inv u unit _ on. ask_keeps (units_of plan) stations claims inv u on;
  given = λ stations claims inv u v unit_u unit_v. given (units_of plan) clean stations claims inv u v (in_units plan u unit_u) (in_units plan v unit_v);
  passed_over = λ stations claims inv u v unit_u unit_v.
      passed_over (units_of plan) clean stations claims inv u v (in_units plan u unit_u) (in_units plan v unit_v);
}

pub invariant : (plan : Plan) → IsClean (units_of plan) → Always plan (λ w. AddressInvariant (units_of plan) w.stations w.claims)
invariant plan clean =
    always plan (λ x. AddressInvariant (units_of plan) x.stations x.claims) (at_first (units_of plan))
    (claim_steps_keep plan (AddressInvariant (units_of plan)) (claim_steps plan clean))

pub addresses_sound : (plan : Plan) → IsClean (units_of plan) → Always plan (AreAddressesSound plan)
addresses_sound plan clean steps w run =
    let inv = invariant plan clean steps w run in
    record {
      holds = λ u on. let (a, is, own) = inv.holds u on in (a, is, own.fixed);
      apart = inv.apart;
    }

-- a unit that doesn't claim holds its planned address, and no other one does
pub silent_held : (plan : Plan) → IsClean (units_of plan) → Always plan (λ w. (u : ℕ) → u < length (units_of plan)
    → (unit_at (units_of plan) u).claims ≡ false → HoldsAlone (units_of plan) w u)
silent_held plan clean steps w run u in_u silent =
    let inv = invariant plan clean steps w run in
    record {
      held = λ on. let (a, is, own) = inv.holds u on in is ∙ ap Some (own.silent silent);
      alone = λ v in_v other on is.
          let (a, holds, own) = inv.holds v on in
          alone_there (units_of plan) clean u in_u silent v a in_v (λ e. other (sym e)) own (same_Some _ _ (sym holds ∙ is));
    }

-- what an arbitrary unit of a plan may not choose
kept_at : (kept : FinSet nat_cmp) (ps : List UnitPlan) (u : ℕ) → is_arbitrary (unit_at (map (planned_unit kept) ps) u).name ≡ true
    → (unit_at (map (planned_unit kept) ps) u).kept ≡ kept
kept_at kept [] u arbitrary = absurd (true≢false (sym arbitrary))
kept_at kept (p ∷ ps) zero arbitrary = refl
kept_at kept (p ∷ ps) (suc u) arbitrary = kept_at kept ps u arbitrary

pub kept_free : (plan : Plan) → IsClean (units_of plan) → Always plan (AreKeptFree plan)
kept_free plan clean steps w run u a on arbitrary is =
    let (b, holds, own) = (invariant plan clean steps w run).holds u on in
    let same : b ≡ a = same_Some _ _ (sym holds ∙ is) in
    sym (ap (λ k. contains k a) (kept_at plan.keep_free plan.units.items u arbitrary))
    ∙ (ap (contains (unit_at (units_of plan) u).kept) (sym same) ∙ own.unkept arbitrary)

-- nor is any claimed
pub kept_unclaimed : (plan : Plan) → IsClean (units_of plan) → Always plan (λ w. (u v a : ℕ) → Contains (w.claims u v) (AddressClaimed (Claim a))
    → is_arbitrary (unit_at (units_of plan) u).name ≡ true → contains plan.keep_free a ≡ false)
kept_unclaimed plan clean steps w run u v a claim arbitrary =
    let own : IsOwn (unit_at (units_of plan) u) a =
    All-contains (IsSaid (unit_at (units_of plan) u)) (w.claims u v) (AddressClaimed (Claim a))
    (All-from_recursion (IsSaid (unit_at (units_of plan) u)) (w.claims u v) ((invariant plan clean steps w run).said u v)) claim in
    sym (ap (λ k. contains k a) (kept_at plan.keep_free plan.units.items u arbitrary)) ∙ own.unkept arbitrary

-- where no claim is undelivered, no two hold one address
pub quiet_apart : (plan : Plan) (w : World) → AreAddressesSound plan w → IsQuiet w.claims → AreAddressesDifferent w
quiet_apart plan w sound quiet u v other on_u on_v same =
    let (a, holds, own) = sound.holds u on_u in
    elim (sound.apart u v a other on_u on_v holds (sym same ∙ holds)) [
      | inl to_v ↦ (quiet u v).0 a to_v
      | inr to_u ↦ (quiet v u).0 a to_u
    ]

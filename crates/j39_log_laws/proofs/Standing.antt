-- Units alone are on, what they hold is an address, and what they answer is what they hold.
use Rattle.std.proofs.Common.{◌≡◌, ◌≢◌, ◌⊎◌, ℕ, ◌<◌, true, false, Option, Some, None, inl, inr, refl, sym, ap, subst, ◌∙◌, arith, nat_le}
use Rattle.std.proofs.lemmas.Bool.{and_parts, leb-true, true≢false}
use Rattle.std.specs.Bool.{MatchBool}
use Rattle.std.proofs.lemmas.Option.{same_Some}
use Rattle.j39_id.specs.Addresses.{in_pool, null_address}
use Rattle.j39_claim.specs.declared.item.Item.{Item}
use Rattle.j39_claim.specs.declared.item.Item.TheVariants.{AddressClaimed, Request}
use Rattle.j39_claim.specs.declared.item.Say.{Say}
use Rattle.j39_claim.specs.declared.item.Say.TheVariants.{Claim, Cannot}
use Rattle.j39_claim.specs.ClaimRule.{Answers, ClaimState, PlannedUnit, Reacts, claim_of, off, started}
use Rattle.j39_network.specs.declared.plan.Plan.{Plan}
use Rattle.j39_network.specs.PlannedUnits.{unit_at, units_of}
use Rattle.j39_world.specs.Sent.{source_of}
use Rattle.j39_world.specs.World.{Stations, Undelivered, all_off, changed}
use Rattle.j39_run_laws.proofs.Addresses.Notes.{claim_cases}
use Rattle.j39_run_laws.proofs.Runs.Changed.{changed_each}
use Rattle.j39_run_laws.proofs.Runs.ClaimInvariants.{IsKeptByClaimSteps}
use Rattle.j39_run_laws.proofs.Runs.Conditions.{is_unit}
use Rattle.j39_run_laws.proofs.Runs.Units.{AreUnitsOn, in_units, units_on}
use Rattle.j39_findings.proofs.WhoStays.{placed}

-- ---- what a unit answers

-- either it says nothing and holds what it held, which the item doesn't claim, or it says what it then holds
abbrev pub IsSilentTurn : ClaimState → Item → Option Say → ClaimState → Type 0
IsSilentTurn s item says new = (says ≡ None) × (new.address ≡ s.address) × ((a : ℕ) → s.address ≡ Some a → item ≢ AddressClaimed (Claim a))

abbrev pub IsSaidTurn : ClaimState → Option Say → ClaimState → Type 0
IsSaidTurn s says new =
    (says ≡ Some (claim_of new.address)) × ((a : ℕ) → new.address ≡ Some a → (s.address ≡ Some a) ⊎ (in_pool a ≡ true))

some_none : {A : Type 0} (a : ℕ) → None ≡ Some a → A
some_none a e = absurd (cc e)

claimed_same : (a b : ℕ) → AddressClaimed (Claim a) ≡ AddressClaimed (Claim b) → a ≡ b
claimed_same a b e = cc

cannot_claim : (a : ℕ) → AddressClaimed Cannot ≢ AddressClaimed (Claim a)
cannot_claim a e = cc

pub turn : (p : PlannedUnit) (s : ClaimState) (n : ℕ) (item : Item) (says : Option Say) (new : ClaimState) → Answers p s n item says new
    → IsSilentTurn s item says new ⊎ IsSaidTurn s says new
turn p s n Request says new answers =
    inr (
      answers.0 ∙ sym (ap (λ (t : ClaimState). Some (claim_of t.address)) answers.1),
      λ a e. inl (sym (ap (λ (t : ClaimState). t.address) answers.1) ∙ e),
    )
turn p s n (AddressClaimed Cannot) says new answers =
    inl (answers.0, ap (λ (t : ClaimState). t.address) answers.1, λ a has same. cannot_claim a same)
turn p s n (AddressClaimed (Claim c)) says new answers =
    claim_cases p s n c says new (IsSilentTurn s (AddressClaimed (Claim c)) says new ⊎ IsSaidTurn s says new)
    (λ has below lost. elim lost [
      | inl moves ↦
          let (b, arbitrary, free, said, is) = moves in
          let at : new.address ≡ Some b = ap (λ (t : ClaimState). t.address) is in
          inr (
            said ∙ sym (ap (λ (o : Option ℕ). Some (claim_of o)) at),
            λ a e. inr (subst (λ (k : ℕ). in_pool k ≡ true) (same_Some b a (sym at ∙ e)) free.pool),
          )
      | inr gives ↦
          let (none, said, is) = gives in
          let at : new.address ≡ None = ap (λ (t : ClaimState). t.address) is in
          inr (said ∙ sym (ap (λ (o : Option ℕ). Some (claim_of o)) at), λ a e. some_none a (sym at ∙ e))
    ])
    (λ has not_below defended.
    let (said, is) = defended in
    let same : new.address ≡ s.address = ap (λ (t : ClaimState). t.address) is in
    inr (said ∙ sym (ap (λ (o : Option ℕ). Some (claim_of o)) (same ∙ has)), λ a e. inl (sym same ∙ e)))
    (λ not_held ignored.
    let (said, is) = ignored in
    inl (said, ap (λ (t : ClaimState). t.address) is, λ a has same. not_held (has ∙ ap Some (sym (claimed_same c a same)))))
    answers

-- ---- in each world

abbrev pub HoldsAddress : ClaimState → Type 0
HoldsAddress s = (a : ℕ) → s.address ≡ Some a → a < null_address

abbrev pub AreStanding : Plan → Stations → Undelivered → Type 0
AreStanding plan stations claims = AreUnitsOn plan stations × ((u : ℕ) → HoldsAddress (stations u))

pub at_first : (plan : Plan) → AreStanding plan all_off.stations all_off.claims
at_first plan = ((λ u on. absurd (true≢false (sym on))), λ u a e. some_none a e)

in_pool_below : (a : ℕ) → in_pool a ≡ true → a < null_address
in_pool_below a pool =
    let below = leb-true a 247 (and_parts (nat_le 128 a) (nat_le a 247) pool).1 in
    omega (arith, below)

pub turned : (p : PlannedUnit) (s : ClaimState) (n : ℕ) (item : Item) (says : Option Say) (new : ClaimState) → Answers p s n item says new
    → HoldsAddress s → HoldsAddress new
turned p s n item says new answers old a e = elim (turn p s n item says new answers) [
  | inl silent ↦ old a (sym silent.1 ∙ e)
  | inr said ↦ elim (said.1 a e) [ inl held ↦ old a held | inr pool ↦ in_pool_below a pool ]
]

-- one that doesn't claim is what it was
pub turned_any : (p : PlannedUnit) (s : ClaimState) (n : ℕ) (item : Item) (says : Option Say) (new : ClaimState) → Reacts p s n item says new
    → HoldsAddress s → HoldsAddress new
turned_any p s n item says new reacts old =
    elim (p.claims) as (λ b. MatchBool b (Answers p s n item says new) ((says ≡ None) × (new ≡ s)) → HoldsAddress new) [
      | true ↦ λ answers. turned p s n item says new answers old
      | false ↦ λ nothing. subst HoldsAddress (sym nothing.1) old
    ] reacts

-- a unit says nothing, or what it then holds
pub said_held : (p : PlannedUnit) (s : ClaimState) (n : ℕ) (item : Item) (says : Option Say) (new : ClaimState) → Reacts p s n item says new
    → (says ≡ None) ⊎ (says ≡ Some (claim_of new.address))
said_held p s n item says new reacts =
    elim (p.claims) as (λ b. MatchBool b (Answers p s n item says new) ((says ≡ None) × (new ≡ s)) → (says ≡ None) ⊎ (says ≡ Some (claim_of new.address))) [
      | true ↦ λ answers. elim (turn p s n item says new answers) [ inl silent ↦ inl silent.0 | inr said ↦ inr said.0 ]
      | false ↦ λ nothing. inl nothing.0
    ] reacts

pub preferred_below : (plan : Plan) (u : ℕ) → is_unit plan u ≡ true → (unit_at (units_of plan) u).preferred < null_address
preferred_below plan u unit =
    let (p, is, at) = placed plan.keep_free plan.units.items u (in_units plan u unit) in
    rw at p.address_range

stands_on : (plan : Plan) (stations : Stations) → ((x : ℕ) → HoldsAddress (stations x)) → (u : ℕ) → is_unit plan u ≡ true
    → (x : ℕ) → HoldsAddress (changed stations u (started (unit_at (units_of plan) u)) x)
stands_on plan stations hold u unit =
    changed_each (λ x s. HoldsAddress s) stations u (started (unit_at (units_of plan) u))
    (λ a e. subst (λ (k : ℕ). k < null_address) (same_Some (unit_at (units_of plan) u).preferred a e) (preferred_below plan u unit)) hold

pub standing_keeps : (plan : Plan) → IsKeptByClaimSteps plan (AreStanding plan)
standing_keeps plan = record {
  switched_on = λ stations claims here u unit _.
      (units_on plan stations u (started (unit_at (units_of plan) u)) unit here.0, stands_on plan stations here.1 u unit);
  switched_on_silently = λ stations claims here u unit _.
      (units_on plan stations u (started (unit_at (units_of plan) u)) unit here.0, stands_on plan stations here.1 u unit);
  switched_off = λ stations claims here u. (
    changed_each (λ x s. s.on ≡ true → is_unit plan x ≡ true) stations u off (λ on. absurd (true≢false (sym on))) here.0,
    changed_each (λ x s. HoldsAddress s) stations u off (λ a e. some_none a e) here.1,
  );
  asked = λ stations claims here u unit _ on. here;
  passed_over = λ stations claims here u v unit_u unit_v on _ item rest list. here;
  given = λ stations claims here u v unit_u unit_v on _ item rest list says new answers. (
    units_on plan stations v new unit_v here.0,
    changed_each (λ x s. HoldsAddress s) stations v new
        (turned (unit_at (units_of plan) v) (stations v) (unit_at (units_of plan) u).name item says new answers (here.1 v)) here.1,
  );
}

pub source_below : (s : ClaimState) → HoldsAddress s → source_of s.address < 256
source_below s holds =
    elim (s.address) as (λ o. s.address ≡ o → source_of o < 256) [
      | None ↦ λ _. omega arith
      | Some a ↦ λ e. (let less = holds a e in omega (arith, less))
    ] refl

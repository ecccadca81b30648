-- A unit that stays holds its planned address while it is on, whatever the others do: no unit of smaller NAME ever claims that address.
use Rattle.std.proofs.Common.{◌≡◌, ℕ, ◌<◌, ◌⊎◌, inl, inr, arith, true, List, [], ◌∷◌, length, refl, sym, ap, ◌∙◌, subst, Option, Some, None}
use Rattle.std.proofs.lemmas.Bool.{true≢false}
use Rattle.std.proofs.lemmas.List.Elements.{All-contains, All-from_recursion}
use Rattle.std.specs.List.{AllByRecursion, Contains}
use Rattle.j39_id.specs.Addresses.{in_pool}
use Rattle.j39_id.specs.Name.{is_arbitrary}
use Rattle.j39_claim.specs.declared.item.Say.{Say}
use Rattle.j39_claim.specs.declared.item.Say.TheVariants.{Claim, Cannot}
use Rattle.j39_claim.specs.declared.item.Item.{Item}
use Rattle.j39_claim.specs.declared.item.Item.TheVariants.{AddressClaimed, Request}
use Rattle.j39_claim.specs.ClaimRule.{PlannedUnit, ClaimState, Answers, claim_of, off, started}
use Rattle.j39_network.specs.declared.plan.Plan.{Plan}
use Rattle.j39_network.specs.PlannedUnits.{units_of, unit_at}
use Rattle.j39_world.specs.ClaimSteps.{without_lists_to, answer_items}
use Rattle.j39_world.specs.SoundPlan.{Always}
use Rattle.j39_network.specs.Staying.{EachSmaller, IsFirstThere, Stays}
use Rattle.j39_world.specs.HeldAddresses.{HoldsPlanned, StaysByOthers}
use Rattle.j39_world.specs.World.{Stations, Undelivered, all_off, changed}
use Rattle.j39_run_laws.proofs.Addresses.Notes.{claim_cases}
use Rattle.j39_run_laws.proofs.Addresses.SentToOthers.{AllSaid, said_more, said_without, said_rest}
use Rattle.j39_run_laws.proofs.Runs.Always.{always}
use Rattle.j39_run_laws.proofs.Runs.Changed.{changed_each}
use Rattle.j39_run_laws.proofs.Runs.ClaimInvariants.{IsKeptByClaimSteps, stations_given, claims_given, claim_steps_keep}
use Rattle.j39_run_laws.proofs.Runs.Units.{in_units}

module _ (units : List PlannedUnit) where
  -- ---- who stays, in rising order of NAME

  -- where none of smaller NAME has to move, those stay
  none_moves : (u : ℕ) → EachSmaller units u (λ v. is_arbitrary (unit_at units v).name ≡ true → IsFirstThere units v)
      → EachSmaller units u (λ v. is_arbitrary (unit_at units v).name ≡ true → Stays units v)
  none_moves u unmoved v in_v smaller arbitrary =
      record { first = unmoved v in_v smaller arbitrary; unmoved = inr (λ t in_t below. unmoved t in_t (omega arith)) }

  pub by_others : (u : ℕ) → Stays units u → StaysByOthers units u
  by_others u stays = (stays.first, elim (stays.unmoved) [ inl outside ↦ inl outside | inr unmoved ↦ inr (none_moves u unmoved) ])

  pub from_others : (u : ℕ) → StaysByOthers units u → Stays units u
  from_others u (all_off, inl outside) = record { first = all_off; unmoved = inl outside }
  from_others u (all_off, inr smaller) = record { first = all_off; unmoved = inr (λ v in_v below arbitrary. (smaller v in_v below arbitrary).first) }

  -- ---- what units say, and hold

  -- a unit claims its planned address; only one that doesn't stay claims another, where units move to, or can claim none
  abbrev IsSaid : ℕ → Item → Type 0
  IsSaid u (AddressClaimed (Claim a)) =
      (a ≡ (unit_at units u).preferred) ⊎ ((in_pool a ≡ true) × (is_arbitrary (unit_at units u).name ≡ true) × ¬ Stays units u)
  IsSaid u (AddressClaimed Cannot) = ¬ Stays units u
  IsSaid u Request = Unit {0}

  -- a unit holds what it may say
  abbrev IsHeld : ℕ → Option ℕ → Type 0
  IsHeld u address = IsSaid u (AddressClaimed (claim_of address))

  planned_held : (u : ℕ) → Stays units u → (address : Option ℕ) → IsHeld u address → address ≡ Some (unit_at units u).preferred
  planned_held u stays None held = absurd (held stays)
  planned_held u stays (Some a) (inl planned) = ap Some planned
  planned_held u stays (Some a) (inr moved) = absurd (moved.2 stays)

  -- the address of a unit that stays is claimed by no unit of smaller NAME
  unclaimed : (v : ℕ) → Stays units v → (u : ℕ) → u < length units → (unit_at units u).name < (unit_at units v).name
      → ¬ IsSaid u (AddressClaimed (Claim (unit_at units v).preferred))
  unclaimed v stays u in_u smaller (inl planned) = stays.first u in_u smaller (sym planned)
  unclaimed v stays u in_u smaller (inr (pool, arbitrary, leaves)) = elim (stays.unmoved) [
    | inl outside ↦ true≢false (sym pool ∙ outside)
    | inr unmoved ↦ leaves (none_moves v unmoved u in_u smaller arbitrary)
  ]

  -- what v is and says, after it heard something
  record Turn (v : ℕ) (says : Option Say) (new : ClaimState) : Type 0 where
    held : IsHeld v new.address
    said : AllByRecursion (IsSaid v) (answer_items says)

  module _ (v : ℕ) (s : ClaimState) (held : IsHeld v s.address) (u : ℕ) (in_u : u < length units) where
    still_held : (new : ClaimState) → new.address ≡ s.address → IsHeld v new.address
    still_held new same = subst (IsHeld v) (sym same) held

    loses : (a : ℕ) → IsSaid u (AddressClaimed (Claim a)) → s.address ≡ Some a → (unit_at units u).name < (unit_at units v).name → ¬ Stays units v
    loses a said has smaller stays =
        let same : a ≡ (unit_at units v).preferred = let e : Some a ≡ Some (unit_at units v).preferred = sym has ∙ planned_held v stays s.address held in cc in
        unclaimed v stays u in_u smaller (subst (λ k. IsSaid u (AddressClaimed (Claim k))) same said)

    turn : (item : Item) → IsSaid u item → (says : Option Say) (new : ClaimState)
        → Answers (unit_at units v) s (unit_at units u).name item says new → Turn v says new
    turn (AddressClaimed (Claim a)) said says new answers =
        claim_cases (unit_at units v) s (unit_at units u).name a says new (Turn v says new)
        (λ has smaller lost. let leaves : ¬ Stays units v = loses a said has smaller in
        elim lost [
          | inl (b, arbitrary, free, is, e) ↦
              let moved : IsSaid v (AddressClaimed (Claim b)) = inr (free.pool, arbitrary, leaves) in
              record { held = subst (IsHeld v) (sym (ap (λ t. t.address) e)) moved; said = rw is (moved, tt) }
          | inr (none, is, e) ↦
              record { held = subst (IsHeld v) (sym (ap (λ t. t.address) e)) leaves; said = rw is (leaves, tt) }
        ])
        (λ has _ (is, e). record {
          held = still_held new (ap (λ t. t.address) e);
          said = rw is (subst (IsHeld v) has held, tt);
        })
        (λ _ (is, e). record { held = still_held new (ap (λ t. t.address) e); said = rw is tt }) answers
    turn (AddressClaimed Cannot) said says new answers = record { held = still_held new (ap (λ t. t.address) answers.1); said = rw answers.0 tt }
    turn Request said says new answers = record {
      held = still_held new (ap (λ t. t.address) answers.1);
      said = rw answers.0 (held, tt);
    }

  -- ---- each step

  record AreSaid (stations : Stations) (claims : Undelivered) : Type 0 where
    held : (u : ℕ) → (stations u).on ≡ true → IsHeld u (stations u).address
    said : AllSaid IsSaid claims

  held_each : (stations : Stations) (v : ℕ) (new : ClaimState) → (new.on ≡ true → IsHeld v new.address)
      → ((u : ℕ) → (stations u).on ≡ true → IsHeld u (stations u).address)
      → (u : ℕ) → (changed stations v new u).on ≡ true → IsHeld u (changed stations v new u).address
  held_each stations v new here old = changed_each (λ u s. s.on ≡ true → IsHeld u s.address) stations v new here old

  give_keeps : (stations : Stations) (claims : Undelivered) → AreSaid stations claims
      → (u v : ℕ) → u < length units → (stations v).on ≡ true → (item : Item) (rest : List Item) → claims u v ≡ item ∷ rest
      → (says : Option Say) (new : ClaimState) → Answers (unit_at units v) (stations v) (unit_at units u).name item says new
      → AreSaid (stations_given stations v new) (claims_given stations claims u v rest says new)
  give_keeps stations claims inv u v in_u on item rest list says new answers =
      let oldest : AllByRecursion (IsSaid u) (item ∷ rest) = subst (AllByRecursion (IsSaid u)) list (inv.said u v) in
      let t = turn v (stations v) (inv.held v on) u in_u item oldest.0 says new answers in
      record {
        held = held_each stations v new (λ _. t.held) inv.held;
        said = said_more (changed stations v new) _ v (answer_items says) IsSaid (said_rest IsSaid claims u v item rest list inv.said) t.said;
      }

claim_steps : (plan : Plan) → IsKeptByClaimSteps plan (AreSaid (units_of plan))
claim_steps plan =
    let units : List PlannedUnit = units_of plan in
    record {
      switched_on = λ stations claims inv u unit _. record {
        held = held_each units stations u (started (unit_at units u)) (λ _. inl refl) inv.held;
        said = said_more (changed stations u (started (unit_at units u))) (without_lists_to u claims) u
            (AddressClaimed (Claim (unit_at units u).preferred) ∷ []) (IsSaid units) (said_without (IsSaid units) claims u inv.said) (inl refl, tt);
      };
      switched_on_silently = λ stations claims inv u unit _. record {
        held = held_each units stations u (started (unit_at units u)) (λ _. inl refl) inv.held;
        said = said_without (IsSaid units) claims u inv.said;
      };
      switched_off = λ stations claims inv u. record {
        held = held_each units stations u off (λ on. absurd (true≢false (sym on))) inv.held;
        said = said_without (IsSaid units) claims u inv.said;
      };
      asked = λ stations claims inv u unit _ on. record {
        held = inv.held;
        said = said_more stations claims u (Request ∷ AddressClaimed (claim_of (stations u).address) ∷ []) (IsSaid units) inv.said (tt, (inv.held u on, tt));
      };
      given = λ stations claims inv u v unit_u unit_v on _. give_keeps units stations claims inv u v (in_units plan u unit_u) on;
      passed_over = λ stations claims inv u v unit_u unit_v on _ item rest list. record {
        held = inv.held;
        said = said_rest (IsSaid units) claims u v item rest list inv.said;
      };
    }

at_first : (units : List PlannedUnit) → AreSaid units all_off.stations all_off.claims
at_first units = record { held = λ u on. absurd (true≢false (sym on)); said = λ u v. tt }

invariant : (plan : Plan) → Always plan (λ w. AreSaid (units_of plan) w.stations w.claims)
invariant plan = always plan (λ x. AreSaid (units_of plan) x.stations x.claims) (at_first (units_of plan))
    (claim_steps_keep plan (AreSaid (units_of plan)) (claim_steps plan))

pub stay : (plan : Plan) → Always plan (λ w. (u : ℕ) → Stays (units_of plan) u → HoldsPlanned (units_of plan) w u)
stay plan steps w run u stays on = planned_held (units_of plan) u stays (w.stations u).address ((invariant plan steps w run).held u on)

-- what a unit holds is its planned address, or one of the pool where it may choose and doesn't stay
pub stand : (plan : Plan) → Always plan (λ w. (u a : ℕ) → (w.stations u).on ≡ true → (w.stations u).address ≡ Some a
    → (a ≡ (unit_at (units_of plan) u).preferred)
    ⊎ ((in_pool a ≡ true) × (is_arbitrary (unit_at (units_of plan) u).name ≡ true) × ¬ Stays (units_of plan) u))
stand plan steps w run u a on is = subst (IsHeld (units_of plan) u) is ((invariant plan steps w run).held u on)

-- and so is what it has claimed that is undelivered
pub claimed : (plan : Plan) → Always plan (λ w. (u v a : ℕ) → Contains (w.claims u v) (AddressClaimed (Claim a))
    → (a ≡ (unit_at (units_of plan) u).preferred)
    ⊎ ((in_pool a ≡ true) × (is_arbitrary (unit_at (units_of plan) u).name ≡ true) × ¬ Stays (units_of plan) u))
claimed plan steps w run u v a claim =
    All-contains (IsSaid (units_of plan) u) (w.claims u v) (AddressClaimed (Claim a))
    (All-from_recursion (IsSaid (units_of plan) u) (w.claims u v) ((invariant plan steps w run).said u v)) claim

-- A unit that doesn't claim says nothing and notes nothing, so that nobody notes anything of it.
use Rattle.std.proofs.Common.{◌≡◌, ◌≢◌, ℕ, ◌<◌, true, false, ◌&&◌, eqb, List, [], ◌∷◌, ◌++◌, length, refl, sym, ap, ◌∙◌, Option, None}
use Rattle.std.proofs.lemmas.Bool.{cond-false, cond_both, and_parts, eqb-true, ne_eqb, true≢false}
use Rattle.std.specs.Ordering.{nat_cmp}
use Rattle.std.specs.FinMap.{get, get-empty}
use Rattle.j39_claim.specs.declared.item.Say.{Say}
use Rattle.j39_claim.specs.declared.item.Item.{Item}
use Rattle.j39_claim.specs.ClaimRule.{ClaimState}
use Rattle.j39_network.specs.declared.plan.Plan.{Plan}
use Rattle.j39_network.specs.PlannedUnits.{units_of, unit_at}
use Rattle.j39_world.specs.ClaimSteps.{sent_to_others, without_lists_to, answer_items}
use Rattle.j39_world.specs.Opening.{AreNamesDistinct}
use Rattle.j39_world.specs.World.{Stations, Undelivered, all_off, changed, changed_pair, is_other_on}
use Rattle.j39_run_laws.proofs.Runs.Changed.{changed_each}
use Rattle.j39_run_laws.proofs.Runs.ClaimInvariants.{claims_at, stations_given, claims_given}
use Rattle.j39_run_laws.proofs.Runs.Conditions.{is_unit}
use Rattle.j39_run_laws.proofs.Runs.Units.{in_units, names_differ}
use Rattle.j39_run_laws.proofs.Settling.Responses.{Response}

pub record AreSilent (plan : Plan) (stations : Stations) (claims : Undelivered) : Type 0 where
  -- it sends nothing
  pub unsent : (x y : ℕ) → claims_at plan x ≡ false → claims x y ≡ []
  -- nobody has noted its NAME
  pub unnoted : (x y : ℕ) → x < length (units_of plan) → claims_at plan x ≡ false → get (stations y).notes (unit_at (units_of plan) x).name ≡ None
  -- it has no notes
  pub unnoting : (y n : ℕ) → claims_at plan y ≡ false → get (stations y).notes n ≡ None

pub at_first : (plan : Plan) → AreSilent plan all_off.stations all_off.claims
at_first plan = record {
  unsent = λ x y silent. refl;
  unnoted = λ x y inside silent. get-empty nat_cmp (unit_at (units_of plan) x).name;
  unnoting = λ y n silent. get-empty nat_cmp n;
}

-- a unit that claims sends something: the lists of one that doesn't stay as they were
stated_by_other : (plan : Plan) (stations : Stations) (claims : Undelivered) (u : ℕ) (items : List Item) → claims_at plan u ≡ true
    → (x y : ℕ) → claims_at plan x ≡ false → sent_to_others stations claims u items x y ≡ claims x y
stated_by_other plan stations claims u items claiming x y silent =
    let other : x ≢ u = λ same. true≢false (sym claiming ∙ ap (claims_at plan) (sym same) ∙ silent) in
    cond-false (eqb x u && is_other_on stations u y) (claims x y ++ items) (claims x y) (ap (λ b. b && is_other_on stations u y) (ne_eqb x u other))

module _ (plan : Plan) (stations : Stations) (claims : Undelivered) (old : AreSilent plan stations claims) where
  -- u is then this, without notes, and what was undelivered to it is gone
  pub switched : (u : ℕ) (new : ClaimState) → ((n : ℕ) → get new.notes n ≡ None) → AreSilent plan (changed stations u new) (without_lists_to u claims)
  switched u new none = record {
    unsent = λ x y silent. cond_both (eqb y u) [] (claims x y) (λ xs. xs ≡ []) (λ _. refl) (λ _. old.unsent x y silent);
    unnoted = λ x y inside silent. changed_each (λ _ (s : ClaimState). get s.notes (unit_at (units_of plan) x).name ≡ None) stations u new
        (none (unit_at (units_of plan) x).name) (λ z. old.unnoted x z inside silent) y;
    unnoting = λ y n silent. changed_each (λ z (s : ClaimState). claims_at plan z ≡ false → get s.notes n ≡ None) stations u new
        (λ _. none n) (λ z. old.unnoting z n) y silent;
  }

  -- u, which claims, sends to the others
  pub stated : (u : ℕ) (items : List Item) → claims_at plan u ≡ true → AreSilent plan stations (sent_to_others stations claims u items)
  stated u items claiming = record {
    unsent = λ x y silent. stated_by_other plan stations claims u items claiming x y silent ∙ old.unsent x y silent;
    unnoted = old.unnoted;
    unnoting = old.unnoting;
  }

  module _ (u v : ℕ) (item : Item) (rest : List Item) (list : claims u v ≡ item ∷ rest) where
    -- who has sent something claims
    speaks : (x : ℕ) → claims_at plan x ≡ false → x ≢ u
    speaks x silent same = let none : item ∷ rest ≡ [] = sym list ∙ ap (λ k. claims k v) (sym same) ∙ old.unsent x v silent in cc

    heard : (x y : ℕ) → claims_at plan x ≡ false → changed_pair claims u v rest x y ≡ []
    heard x y silent = cond_both (eqb x u && eqb y v) rest (claims x y) (λ xs. xs ≡ [])
        (λ here. absurd (speaks x silent (eqb-true x u (and_parts (eqb x u) (eqb y v) here).0))) (λ _. old.unsent x y silent)

    -- v does nothing about it
    pub passed_over : AreSilent plan stations (changed_pair claims u v rest)
    passed_over = record { unsent = heard; unnoted = old.unnoted; unnoting = old.unnoting }

    -- v, which claims, answers
    pub given : AreNamesDistinct (units_of plan) → is_unit plan u ≡ true → claims_at plan v ≡ true → (says : Option Say) (new : ClaimState)
        → Response (unit_at (units_of plan) v) (stations v) (unit_at (units_of plan) u).name item says new
        → AreSilent plan (stations_given stations v new) (claims_given stations claims u v rest says new)
    given distinct unit_u claiming says new r = record {
      unsent = λ x y silent. stated_by_other plan (changed stations v new) (changed_pair claims u v rest) v (answer_items says) claiming x y silent
          ∙ heard x y silent;
      unnoted = λ x y inside silent.
          let names = names_differ (units_of plan) distinct x u inside (in_units plan u unit_u) (speaks x silent) in
          changed_each (λ _ (s : ClaimState). get s.notes (unit_at (units_of plan) x).name ≡ None) stations v new
          (r.others (unit_at (units_of plan) x).name names ∙ old.unnoted x v inside silent) (λ z. old.unnoted x z inside silent) y;
      unnoting = λ y n silent. changed_each (λ z (s : ClaimState). claims_at plan z ≡ false → get s.notes n ≡ None) stations v new
          (λ is. absurd (true≢false (sym claiming ∙ is))) (λ z. old.unnoting z n) y silent;
    }

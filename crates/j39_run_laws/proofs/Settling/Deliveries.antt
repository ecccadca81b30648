-- What holds in each world of what can be delivered.
use Rattle.std.proofs.Common.{◌≡◌, ◌≢◌, ℕ, true, false, not, ◌&&◌, eqb, List, [], ◌∷◌, ◌++◌, refl, sym, ap, ◌∙◌, subst, Option}
use Rattle.std.proofs.lemmas.Bool.{eqb-true, and_left, and_right, and_parts, cond_both, cond-true, cond-false, true≢false}
use Rattle.std.specs.FinMap.{get-empty}
use Rattle.std.specs.Ordering.{nat_cmp}
use Rattle.j39_claim.specs.declared.item.Say.{Say}
use Rattle.j39_claim.specs.declared.item.Say.TheVariants.{Claim}
use Rattle.j39_claim.specs.declared.item.Item.{Item}
use Rattle.j39_claim.specs.declared.item.Item.TheVariants.{AddressClaimed, Request}
use Rattle.j39_claim.specs.ClaimRule.{ClaimState, Answers, claim_of, off, started}
use Rattle.j39_network.specs.declared.plan.Plan.{Plan}
use Rattle.j39_network.specs.PlannedUnits.{units_of, unit_at}
use Rattle.j39_world.specs.ClaimSteps.{sent_to_others, without_lists_to, answer_items}
use Rattle.j39_world.specs.Opening.{AreNamesDistinct}
use Rattle.j39_run_laws.proofs.Runs.Conditions.{is_unit}
use Rattle.j39_world.specs.SoundPlan.{Always}
use Rattle.j39_world.specs.World.{Stations, Undelivered, changed, changed_pair, is_other_on}
use Rattle.j39_run_laws.proofs.Addresses.SentToOthers.{not_itself}
use Rattle.j39_run_laws.proofs.Runs.Always.{IsPreserved, always}
use Rattle.j39_run_laws.proofs.Runs.Changed.{changed_here, changed_elsewhere, changed_each}
use Rattle.j39_run_laws.proofs.Runs.ClaimInvariants.{IsKeptByClaimSteps, stations_given, claims_given, claim_steps_keep, stated_nothing}
use Rattle.j39_run_laws.proofs.Runs.Units.{AreUnitsOn, AreBetweenUnits, AreEmptyStill, in_units, names_differ, units_on, without_lists_empty, stated_between}
use Rattle.j39_run_laws.proofs.Settling.Responses.{IsUnclashed, Response, response}

pub record AreDeliverable (plan : Plan) (stations : Stations) (claims : Undelivered) : Type 0 where
  -- no unit holds what it noted for a smaller NAME
  pub unclashed : (v : ℕ) → IsUnclashed (unit_at (units_of plan) v).name (stations v)
  -- no unit sends to itself
  pub itself : (u : ℕ) → claims u u ≡ []
  -- units alone are on, and send to each other
  pub units : AreUnitsOn plan stations
  pub between : AreBetweenUnits plan claims
  -- nothing is undelivered to a unit that is off
  pub heard : (s t : ℕ) → (stations t).on ≡ false → claims s t ≡ []

-- ---- who hears

-- a unit that is off hears nothing
stated_off : (stations : Stations) (claims : Undelivered) (u : ℕ) (items : List Item) (s t : ℕ) → (stations t).on ≡ false
    → sent_to_others stations claims u items s t ≡ claims s t
stated_off stations claims u items s t off =
    let deaf : is_other_on stations u t ≡ false = and_left (stations t).on (not (eqb t u)) off in
    cond-false (eqb s u && is_other_on stations u t) (claims s t ++ items) (claims s t) (and_right (eqb s u) (is_other_on stations u t) deaf)

-- where one is switched on or stays on, the units that are off are others, and were off
still_off : (stations : Stations) (u : ℕ) (new : ClaimState) → new.on ≡ true → (t : ℕ) → (changed stations u new t).on ≡ false → (stations t).on ≡ false
still_off stations u new on t off =
    let other : t ≢ u = λ same.
    let here : changed stations u new t ≡ new = ap (changed stations u new) same ∙ changed_here stations u new in
    true≢false (sym on ∙ sym (ap (λ (x : ClaimState). x.on) here) ∙ off) in
    sym (ap (λ (x : ClaimState). x.on) (changed_elsewhere stations u new t other)) ∙ off

module _ (plan : Plan) (distinct : AreNamesDistinct (units_of plan)) (stations : Stations) (claims : Undelivered)
    (old : AreDeliverable plan stations claims) where
  -- one unit is then this, no list is longer, and it sends to all others
  reported_more : (v : ℕ) (new : ClaimState) → is_unit plan v ≡ true → new.on ≡ true → IsUnclashed (unit_at (units_of plan) v).name new
      → (mid : Undelivered) → AreEmptyStill claims mid → (items : List Item)
      → AreDeliverable plan (changed stations v new) (sent_to_others (changed stations v new) mid v items)
  reported_more v new unit on unclashed mid less items =
      let now : Stations = changed stations v new in
      let now_on : AreUnitsOn plan now = units_on plan stations v new unit old.units in
      record {
        unclashed = changed_each (λ x s. IsUnclashed (unit_at (units_of plan) x).name s) stations v new unclashed old.unclashed;
        itself = not_itself now mid v items (λ s. less s s (old.itself s));
        units = now_on;
        between = stated_between plan now now_on mid (λ s t outside. less s t (old.between s t outside)) v unit items;
        heard = λ s t off. stated_off now mid v items s t off ∙ less s t (old.heard s t (still_off stations v new on t off));
      }

  up_keeps : (u : ℕ) → is_unit plan u ≡ true → let new : Stations = changed stations u (started (unit_at (units_of plan) u)) in
      AreDeliverable plan new (sent_to_others new (without_lists_to u claims) u (AddressClaimed (Claim (unit_at (units_of plan) u).preferred) ∷ []))
  up_keeps u unit =
      reported_more u (started (unit_at (units_of plan) u)) unit refl
      (record { unnoted = λ m a smaller held is. absurd (let e = sym (get-empty {X = ℕ} nat_cmp m) ∙ is in cc) })
      (without_lists_to u claims) (without_lists_empty claims u) (AddressClaimed (Claim (unit_at (units_of plan) u).preferred) ∷ [])

  down_keeps : (u : ℕ) → AreDeliverable plan (changed stations u off) (without_lists_to u claims)
  down_keeps u =
      let none : AreEmptyStill claims (without_lists_to u claims) = without_lists_empty claims u in
      record {
        unclashed = changed_each (λ x s. IsUnclashed (unit_at (units_of plan) x).name s) stations u off
            (record { unnoted = λ m a smaller held is. absurd (cc) }) old.unclashed;
        itself = λ s. none s s (old.itself s);
        units = changed_each (λ x y. y.on ≡ true → is_unit plan x ≡ true) stations u off (λ on. absurd (true≢false (sym on))) old.units;
        between = λ s t outside. none s t (old.between s t outside);
        heard = λ s t. cond_both (eqb t u) off (stations t) (λ x. x.on ≡ false → without_lists_to u claims s t ≡ [])
            (λ here _. cond-true (eqb t u) [] (claims s t) here) (λ _ was. none s t (old.heard s t was));
      }

  ask_keeps : (u : ℕ) → is_unit plan u ≡ true → (stations u).on ≡ true
      → AreDeliverable plan stations (sent_to_others stations claims u (Request ∷ AddressClaimed (claim_of (stations u).address) ∷ []))
  ask_keeps u unit on =
      let items : List Item = Request ∷ AddressClaimed (claim_of (stations u).address) ∷ [] in
      record {
        unclashed = old.unclashed;
        itself = not_itself stations claims u items old.itself;
        units = old.units;
        between = stated_between plan stations old.units claims old.between u unit items;
        heard = λ s t off. stated_off stations claims u items s t off ∙ old.heard s t off;
      }

  -- u is switched on, and says nothing
  on_silently : (u : ℕ) → is_unit plan u ≡ true → AreDeliverable plan (changed stations u (started (unit_at (units_of plan) u))) (without_lists_to u claims)
  on_silently u unit =
      let new : Stations = changed stations u (started (unit_at (units_of plan) u)) in
      subst (AreDeliverable plan new) (stated_nothing new (without_lists_to u claims) u)
      (reported_more u (started (unit_at (units_of plan) u)) unit refl
      (record { unnoted = λ m a smaller held is. absurd (let e = sym (get-empty {X = ℕ} nat_cmp m) ∙ is in cc) })
      (without_lists_to u claims) (without_lists_empty claims u) [])

  module _ (u v : ℕ) (unit_u : is_unit plan u ≡ true) (unit_v : is_unit plan v ≡ true) (on_v : (stations v).on ≡ true)
      (item : Item) (rest : List Item) (list : claims u v ≡ item ∷ rest) where
    pub apart : u ≢ v
    apart same = let none : item ∷ rest ≡ [] = sym list ∙ ap (claims u) (sym same) ∙ old.itself u in cc

    less_by_one : AreEmptyStill claims (changed_pair claims u v rest)
    less_by_one s t is = cond_both (eqb s u && eqb t v) rest (claims s t) (λ xs. xs ≡ [])
        (λ same. let both = and_parts (eqb s u) (eqb t v) same in
        let here : claims s t ≡ claims u v = (λ i. claims (eqb-true s u both.0 i) (eqb-true t v both.1 i)) in
        let never : item ∷ rest ≡ [] = sym list ∙ sym here ∙ is in absurd (cc)) (λ _. is)

    -- v does nothing about it
    pass_over : AreDeliverable plan stations (changed_pair claims u v rest)
    pass_over = record {
      unclashed = old.unclashed;
      itself = λ s. less_by_one s s (old.itself s);
      units = old.units;
      between = λ s t outside. less_by_one s t (old.between s t outside);
      heard = λ s t off. less_by_one s t (old.heard s t off);
    }

    module _ (says : Option Say) (new : ClaimState)
        (answers : Answers (unit_at (units_of plan) v) (stations v) (unit_at (units_of plan) u).name item says new) where
      pub responds : Response (unit_at (units_of plan) v) (stations v) (unit_at (units_of plan) u).name item says new
      responds =
          response (unit_at (units_of plan) v) (stations v) (old.unclashed v) (unit_at (units_of plan) u).name
          (names_differ (units_of plan) distinct u v (in_units plan u unit_u) (in_units plan v unit_v) apart) item says new answers

      give_keeps : AreDeliverable plan (stations_given stations v new) (claims_given stations claims u v rest says new)
      give_keeps = reported_more v new unit_v (responds.on ∙ on_v) responds.unclashed (changed_pair claims u v rest) less_by_one (answer_items says)

pub claim_steps : (plan : Plan) → AreNamesDistinct (units_of plan) → IsKeptByClaimSteps plan (AreDeliverable plan)
claim_steps plan distinct = record {
  switched_on = λ stations claims old u unit _. up_keeps plan distinct stations claims old u unit;
  switched_on_silently = λ stations claims old u unit _. on_silently plan distinct stations claims old u unit;
  switched_off = down_keeps plan distinct;
  asked = λ stations claims old u unit _ on. ask_keeps plan distinct stations claims old u unit on;
  given = λ stations claims old u v unit_u unit_v on _. give_keeps plan distinct stations claims old u v unit_u unit_v on;
  passed_over = λ stations claims old u v unit_u unit_v on _. pass_over plan distinct stations claims old u v unit_u unit_v on;
}

pub deliverable_steps : (plan : Plan) → AreNamesDistinct (units_of plan) → IsPreserved plan (λ w. AreDeliverable plan w.stations w.claims)
deliverable_steps plan distinct = claim_steps_keep plan (AreDeliverable plan) (claim_steps plan distinct)

pub deliverable : (plan : Plan) → AreNamesDistinct (units_of plan) → Always plan (λ w. AreDeliverable plan w.stations w.claims)
deliverable plan distinct = always plan (λ w. AreDeliverable plan w.stations w.claims)
    (record {
      unclashed = λ v. record { unnoted = λ m a smaller held is. absurd (cc) };
      itself = λ u. refl;
      units = λ u on. absurd (true≢false (sym on));
      between = λ s t _. refl;
      heard = λ s t _. refl;
    })
    (deliverable_steps plan distinct)

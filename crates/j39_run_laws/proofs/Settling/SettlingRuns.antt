-- In each world of a run what is undelivered can be delivered, and all deliveries come to an end.
use Rattle.std.proofs.Common.{◌≡◌, ◌≢◌, ℕ, ◌<◌, ◌≤◌, Bool, true, false, ltb, List, [], ◌∷◌, length, refl, sym, subst, arith, inl, inr, Option, Some, None}
use Rattle.std.proofs.lemmas.Bool.{MatchBool-at_false, MatchBool-at_true, and_parts, cases_Bool, lt-ltb, not-false, not_from_true}
use Rattle.std.specs.Bool.{MatchBool}
use Rattle.std.proofs.lemmas.List.Elements.{All-head, All-tail}
use Rattle.std.specs.List.{All}
use Rattle.std.specs.Option.{unwrap_or}
use Rattle.j39_claim.specs.AddressSets.{lowest_free}
use Rattle.j39_claim.specs.declared.item.Say.{Say}
use Rattle.j39_claim.specs.declared.item.Item.{Item}
use Rattle.j39_claim.specs.declared.item.Item.TheVariants.{AddressClaimed, Request}
use Rattle.j39_claim.specs.ClaimRule.{PlannedUnit, ClaimState, Answers, Reacts, claim_of}
use Rattle.j39_claim.specs.ExactAnswer.{Pick, IsLawful, said_after, state_after}
use Rattle.j39_claim.proofs.FreeAddresses.{lowest_free_in}
use Rattle.j39_claim.proofs.Hearing.{lawful_follows}
use Rattle.j39_network.specs.declared.plan.Plan.{Plan}
use Rattle.j39_network.specs.declared.steps.Step.{Step}
use Rattle.j39_network.specs.declared.steps.Step.TheVariants.{Up, Down, Give, Ask, Begin, Send, Emit, Take, Lose, LateSender, LateReceiver, Rest}
use Rattle.j39_network.specs.PlannedUnits.{units_of, unit_at}
use Rattle.j39_world.specs.ClaimSteps.{GivenFrom, heard_and_answered}
use Rattle.j39_world.specs.Opening.{AreNamesDistinct}
use Rattle.j39_world.specs.Run.{both, is_on, refusal, StepsTo, RunsThrough}
use Rattle.j39_world.specs.Settling.{IsGive, Settles}
use Rattle.j39_world.specs.SoundPlan.{Always}
use Rattle.j39_world.specs.World.{World}
use Rattle.j39_run_laws.proofs.Runs.ClaimInvariants.{claims_at, when_passed}
use Rattle.j39_run_laws.proofs.Runs.Conditions.{is_unit, none_refuses, none_unknown, not_refused, units_known}
use Rattle.j39_run_laws.proofs.Runs.Units.{in_units, names_differ}
use Rattle.j39_run_laws.proofs.Settling.Deliveries.{AreDeliverable, apart, responds, deliverable_steps, deliverable}
use Rattle.j39_run_laws.proofs.Settling.Lowered.{lowered, passed_lowers}
use Rattle.j39_run_laws.proofs.Settling.Measure.{measure}

-- ---- each item has an answer

least : Pick
least name lost taken = unwrap_or (lowest_free taken) 128

least_lawful : IsLawful least
unfolding least
least_lawful name lost taken some = lowest_free_in taken some

pub answered : (c : PlannedUnit) (s : ClaimState) (n : ℕ) (item : Item) → (says : Option Say) × (new : ClaimState) × Answers c s n item says new
answered c s n (AddressClaimed say) = (said_after least c s n say, state_after least c s n say, lawful_follows least least_lawful c s n say)
answered c s n Request = (Some (claim_of s.address), s, (refl, refl))

-- and each unit does something about it, one that doesn't claim nothing
pub reacted : (c : PlannedUnit) (s : ClaimState) (n : ℕ) (item : Item) → (says : Option Say) × (new : ClaimState) × Reacts c s n item says new
reacted c s n item =
    elim (c.claims) as (λ b. (says : Option Say) × (new : ClaimState) × MatchBool b (Answers c s n item says new) ((says ≡ None) × (new ≡ s))) [
      | true ↦ answered c s n item
      | false ↦ (None, s, (refl, refl))
    ]

-- ---- a Give that runs through

module _ (plan : Plan) (distinct : AreNamesDistinct (units_of plan)) (w : World) (old : AreDeliverable plan w.stations w.claims) where
  lowered_from : (u v : ℕ) → is_unit plan u ≡ true → is_unit plan v ≡ true → is_on w.stations v ≡ true → (list : List Item) → w.claims u v ≡ list
      → (new : World) → GivenFrom (units_of plan) w u v list new
      → measure (units_of plan) new.stations new.claims < measure (units_of plan) w.stations w.claims
  lowered_from u v unit_u unit_v on [] is new never = absurd never
  lowered_from u v unit_u unit_v on (item ∷ rest) is new (says, s, reacts, e) =
      let other : u ≢ v = apart plan distinct w.stations w.claims old u v unit_u unit_v on item rest is in
      subst (λ (x : World). measure (units_of plan) x.stations x.claims < measure (units_of plan) w.stations w.claims) (sym e)
      (elim (cases_Bool (claims_at plan v)) [
        | inl claiming ↦
            let answers = MatchBool-at_true _ _ claiming reacts in
            lowered (units_of plan) w.stations w.claims u v (in_units plan u unit_u) (in_units plan v unit_v) other
            (λ i in_i not_u. names_differ (units_of plan) distinct i u in_i (in_units plan u unit_u) not_u)
            item rest is says s (responds plan distinct w.stations w.claims old u v unit_u unit_v on item rest is says s answers)
        | inr silent ↦
            let nothing = MatchBool-at_false _ _ silent reacts in
            when_passed (λ f c. measure (units_of plan) f c < measure (units_of plan) w.stations w.claims) w.stations w.claims u v rest says s
            nothing.0 nothing.1
            (passed_lowers (units_of plan) w.stations w.claims u v (in_units plan u unit_u) (in_units plan v unit_v) item rest is)
      ])

  give_lowers : (u v : ℕ) → refusal plan w (Give u v) ≡ None → (new : World) → StepsTo plan w (Give u v) new
      → measure (units_of plan) new.stations new.claims < measure (units_of plan) w.stations w.claims
  give_lowers u v allowed new leads =
      let (known, (on, (some, none))) = none_refuses plan w (Give u v) allowed in
      let units = units_known plan u v known in
      lowered_from u v units.0 units.1 (not-false _ on) (w.claims u v) refl new leads

  delivers : (u v : ℕ) (list : List Item) → w.claims u v ≡ list → w.claims u v ≢ [] → (after : World) × RunsThrough plan w (Give u v ∷ []) after
  delivers u v [] is some = absurd (some is)
  delivers u v (item ∷ rest) is some =
      let units : both (is_unit plan) u v ≡ true = true_unless (both (is_unit plan) u v) (λ outside. some (old.between u v outside)) in
      let on : is_on w.stations v ≡ true = true_unless (is_on w.stations v) (λ off. some (old.heard u v off)) in
      let some_items : 0 < length (w.claims u v) = rw is (omega arith) in
      let long : ltb 0 (length (w.claims u v)) ≡ true = lt-ltb 0 (length (w.claims u v)) some_items in
      let (says, s, answers) = reacted (unit_at (units_of plan) v) (w.stations v) (unit_at (units_of plan) u).name item in
      let after : World = heard_and_answered (units_of plan) w u v rest says s in
      let leads : GivenFrom (units_of plan) w u v (item ∷ rest) after = (says, s, answers, refl) in
      let parts = and_parts (is_unit plan u) (is_unit plan v) units in
      let allowed = not_refused plan w (Give u v) (none_unknown plan u v parts.0 parts.1, (not_from_true _ on, (not_from_true _ long, tt))) in
      (after, (after, allowed, subst (λ (xs : List Item). GivenFrom (units_of plan) w u v xs after) (sym is) leads, refl))
    where
      true_unless : (b : Bool) → (b ≡ false → ⊥) → b ≡ true
      true_unless true never = refl
      true_unless false never = absurd (never refl)

-- ---- runs of Gives

module _ (plan : Plan) (distinct : AreNamesDistinct (units_of plan)) where
  one_less : (step : Step) → IsGive step → (w : World) → AreDeliverable plan w.stations w.claims → refusal plan w step ≡ None → (new : World)
      → StepsTo plan w step new
      → measure (units_of plan) new.stations new.claims < measure (units_of plan) w.stations w.claims
  one_less (Give u v) is w old allowed new leads = give_lowers plan distinct w old u v allowed new leads
  one_less (Up u) never w old allowed new leads = absurd never
  one_less (Down u) never w old allowed new leads = absurd never
  one_less (Ask u) never w old allowed new leads = absurd never
  one_less (Begin f bytes) never w old allowed new leads = absurd never
  one_less (Send f bytes) never w old allowed new leads = absurd never
  one_less (Emit u) never w old allowed new leads = absurd never
  one_less (Take u v) never w old allowed new leads = absurd never
  one_less (Lose u v) never w old allowed new leads = absurd never
  one_less (LateSender u) never w old allowed new leads = absurd never
  one_less (LateReceiver u v) never w old allowed new leads = absurd never
  one_less (Rest u) never w old allowed new leads = absurd never

  all_less : (gives : List Step) (w after : World) → AreDeliverable plan w.stations w.claims → All IsGive gives → RunsThrough plan w gives after
      → length gives ≤ measure (units_of plan) w.stations w.claims
  all_less [] w after old all through = omega arith
  all_less (step ∷ steps) w after old all (mid, allowed, leads, more) =
      let less = one_less step (All-head IsGive step steps all) w old allowed mid leads in
      let next : AreDeliverable plan mid.stations mid.claims = deliverable_steps plan distinct w old step allowed mid leads in
      omega (arith, all_less steps mid after next (All-tail IsGive step steps all) more)

  pub settles : Always plan (Settles plan)
  settles steps w run =
      let old : AreDeliverable plan w.stations w.claims = deliverable plan distinct steps w run in
      record {
        bound = measure (units_of plan) w.stations w.claims;
        bounded = λ gives after all through. all_less gives w after old all through;
        deliverable = λ u v some. delivers plan distinct w old u v (w.claims u v) refl some;
      }

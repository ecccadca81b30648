-- No step but its own Down switches a unit off.
use Rattle.std.proofs.Common.{◌≡◌, ◌≢◌, ℕ, true, List, [], ◌∷◌, refl, sym, ap, ◌∙◌, subst, Option, Some, None}
use Rattle.std.specs.Bool.{MatchBool}
use Rattle.std.specs.Option.{is_some}
use Rattle.std.specs.Prelude.{slice_get}
use Rattle.j39_claim.specs.ClaimRule.{started}
use Rattle.j39_claim.specs.declared.item.Item.{Item}
use Rattle.j39_network.specs.declared.plan.Plan.{Plan}
use Rattle.j39_network.specs.declared.steps.Step.{Step}
use Rattle.j39_network.specs.declared.steps.Step.TheVariants.{Up, Down, Give, Ask, Begin, Send, Emit, Take, Lose, LateSender, LateReceiver, Rest}
use Rattle.j39_world.specs.declared.step_error.StepError.{StepError}
use Rattle.j39_world.specs.declared.wired.Wired.{Wired}
use Rattle.j39_world.specs.declared.wired.Wired.TheVariants as wired
use Rattle.j39_world.specs.ClaimSteps.{GivenFrom}
use Rattle.j39_world.specs.Flows.{flows_of, windows_of}
use Rattle.j39_network.specs.PlannedUnits.{unit_at, units_of}
use Rattle.j39_world.specs.Run.{Follows, StepsTo, count_of, refusal}
use Rattle.j39_world.specs.TransferSteps.{TakenFrom}
use Rattle.j39_world.specs.World.{World, Stations}
use Rattle.j39_run_laws.proofs.Addresses.Notes.{reacts_on}
use Rattle.j39_run_laws.proofs.Runs.LeavingSteps.{begin_leaves, lose_leaves, send_leaves}
use Rattle.j39_run_laws.proofs.Transfers.Accounted.{on_left, on_still}

module _ (plan : Plan) (w : World) (u : ℕ) (on : (w.stations u).on ≡ true) where
  abbrev OnIn : World → Type 0
  OnIn new = (new.stations u).on ≡ true

  -- a step that switches no unit
  unswitched : (new : World) → new.stations ≡ w.stations → OnIn new
  unswitched new same = ap (λ (f : Stations). (f u).on) same ∙ on

  given : (x y : ℕ) (list : List Item) (new : World) → GivenFrom (units_of plan) w x y list new → OnIn new
  given x y [] new never = absurd never
  given x y (item ∷ rest) new (says, s, reacts, e) = subst OnIn (sym e) (on_still w.stations y s
      (λ was. reacts_on (unit_at (units_of plan) y) (w.stations y) (unit_at (units_of plan) x).name item says s reacts ∙ was) u on)

  taken : (x y : ℕ) (list : List Wired) (new : World) → TakenFrom (windows_of plan) w x y list new → OnIn new
  taken x y [] new never = absurd never
  taken x y (wired.Short bytes ∷ rest) new e = unswitched new (ap (λ (z : World). z.stations) e)
  taken x y (wired.Packet p ∷ rest) new (reports, reported, e) = unswitched new (ap (λ (z : World). z.stations) e)
  taken x y (wired.Alone f bytes ∷ rest) new e = unswitched new (ap (λ (z : World). z.stations) e)

  led_on : (step : Step) → step ≢ Down u → (new : World) → StepsTo plan w step new → OnIn new
  led_on (Up x) other new e = subst OnIn (sym e) (on_still w.stations x (started (unit_at (units_of plan) x)) (λ _. refl) u on)
  led_on (Down x) other new e = subst OnIn (sym e) (on_left w.stations x u (λ same. other (ap Down (sym same))) on)
  led_on (Give x y) other new leads = given x y (w.claims x y) new leads
  led_on (Ask x) other new e = unswitched new (ap (λ (z : World). z.stations) e)
  led_on (Begin f bytes) other new leads =
      unswitched new (begin_leaves (λ z. z.stations) w new (count_of plan) f (slice_get (flows_of plan) f) bytes.items (λ _. refl) leads)
  led_on (Send f bytes) other new leads =
      unswitched new (send_leaves (λ z. z.stations) w new (count_of plan) f (slice_get (flows_of plan) f) bytes.items (λ _. refl) leads)
  led_on (Emit x) other new (s, p, session, next, e) = unswitched new (ap (λ (z : World). z.stations) e)
  led_on (Take x y) other new leads = taken x y (w.wire x y) new leads
  led_on (Lose x y) other new leads = unswitched new (lose_leaves (λ z. z.stations) w new x y (w.wire x y) (λ _. refl) leads)
  led_on (LateSender x) other new (s, p, session, packet, e) = unswitched new (ap (λ (z : World). z.stations) e)
  led_on (LateReceiver x y) other new e = unswitched new (ap (λ (z : World). z.stations) e)
  led_on (Rest x) other new e = unswitched new (ap (λ (z : World). z.stations) e)

  pub on_after : (step : Step) (after : World) → step ≢ Down u → Follows plan w step after → OnIn after
  on_after step after other =
      elim (refusal plan w step) as (λ (o : Option StepError). MatchBool (is_some o) (after ≡ w) (StepsTo plan w step after) → OnIn after) [
        | Some e ↦ λ same. subst OnIn (sym same) on
        | None ↦ λ leads. led_on step other after leads
      ]

-- What a bus stands for, by its network.
use Rattle.std.proofs.Common.{◌≡◌, List, [], ◌∷◌, ◌++◌, length, refl, sym, ap, ◌∙◌, subst, None, Some, Option}
use Rattle.j39_network.specs.declared.plan.Plan.{Plan}
use Rattle.j39_bus.specs.declared.network.Network.{Network}
use Rattle.j39_network.specs.declared.steps.Step.{Step}
use Rattle.j39_world.specs.declared.step_error.StepError.{StepError}
use Rattle.j39_world.specs.World.{World}
use Rattle.j39_world.specs.Run.{cause_of, refusal, refusal_among, StepsTo, RunsThrough}
use Rattle.j39_bus.specs.BusState.{BusState, Histories, histories_of, nowhere}
use Rattle.j39_bus.specs.Stands.{Stands}
use Rattle.j39_bus.specs.inside.Network.{bus_state, world_in, HasHeld, IsOfPlan, IsAllowed, IsRefusal, KeepsPlan, Steps, refusal_in}
use Rattle.j39_bus.proofs.Refused.{IsOwnCause, own_cause, refusal_is}
use Rattle.j39_bus.proofs.Steady.{plan_kept}

-- a bus stands for each world of its network whose receivers hold what was taken
pub stands : (net : Network) (plan : Plan) → IsOfPlan plan net → (h : Histories) → HasHeld h net → Stands (bus_state net) plan (world_in h net)
stands net plan planned h held = record { planned = planned; world = refl; held = held }

module _ (old : Network) (b : BusState) (is_state : bus_state old ≡ b) (step : Step) where
  here : (plan : Plan) (w : World) → Stands b plan w → Stands (bus_state old) plan w
  here plan w s = subst (λ (v : BusState). Stands v plan w) (sym is_state) s

  refused_by : (plan : Plan) (w : World) (s : Stands (bus_state old) plan w) → refusal plan w step ≡ refusal_in old (histories_of w) step
  refused_by plan w s = refusal_is plan old s.planned w step
      ∙ (λ i. refusal_among old.live (length old.claimers.items) old.flows.items (s.world i) step)

  -- what a step of the network does, the bus does
  pub step_done : (new : Network) → KeepsPlan old new → IsAllowed old step → Steps old step new → (plan : Plan) (w : World) → Stands b plan w
      → (refusal plan w step ≡ None) × ((after : World) × StepsTo plan w step after × Stands (bus_state new) plan after)
  step_done new keeps allowed done plan w s =
      let s' : Stands (bus_state old) plan w = here plan w s in
      let (after, steps, held) = done.of_plan plan s'.planned (histories_of w) s'.held in (
        refused_by plan w s' ∙ allowed.refusal.is (histories_of w),
        (
          world_in after new,
          subst (λ (v : World). StepsTo plan v step (world_in after new)) (sym s'.world) steps,
          stands new plan (plan_kept old new plan keeps s'.planned) after held,
        ),
      )

  -- and what it refuses, the bus refuses
  pub step_refused : (cause : Option StepError) → IsRefusal old step cause → (plan : Plan) (w : World) → Stands b plan w → refusal plan w step ≡ cause
  step_refused cause refuses plan w s = refused_by plan w (here plan w s) ∙ refuses.is (histories_of w)

-- the cause is the world's, and not want of memory
pub own_refusal : (net : Network) (step : Step) (e : StepError) → IsRefusal net step (Some e) → Some e ≡ cause_of e
own_refusal net step e refuses =
    subst IsOwnCause (refuses.is nowhere) (own_cause net.live (length net.claimers.items) net.flows.items (world_in nowhere net) step)

-- one more step of a run
pub runs_more : (plan : Plan) (w : World) (done : List Step) (mid : World) (step : Step) (after : World) → RunsThrough plan w done mid
    → refusal plan mid step ≡ None → StepsTo plan mid step after → RunsThrough plan w (done ++ step ∷ []) after
runs_more plan w [] mid step after ran allowed
    leads = (after, ap (λ (v : World). refusal plan v step) (sym ran) ∙ allowed, subst (λ (v : World). StepsTo plan v step after) ran leads, refl)
runs_more plan w (s ∷ done) mid step after (next, may, goes, ran) allowed leads = (next, may, goes, runs_more plan next done mid step after ran allowed leads)

-- What some step of transfers brings nearer wherever it isn't there yet is reached by a run: each such step lowers what is left to do.
use Rattle.std.proofs.Common.{◌≡◌, ℕ, zero, suc, ◌≤◌, List, None, Some, arith}
use Rattle.std.specs.List.{slice_get}
use Rattle.j39_network.specs.declared.plan.Plan.{Plan}
use Rattle.j39_network.specs.declared.steps.Step.{Step}
use Rattle.j39_world.specs.declared.flow.Flow.{Flow}
use Rattle.j39_world.specs.Ending.{IsOfTransfers}
use Rattle.j39_world.specs.Flows.{flows_of}
use Rattle.j39_world.specs.Passage.{Passage}
use Rattle.j39_world.specs.Run.{Follows, count_of, refusal}
use Rattle.j39_world.specs.World.{World}
use Rattle.j39_run_laws.proofs.Runs.Always.{leads_to_follows}
use Rattle.j39_run_laws.proofs.Transfers.FitSteps.{IsWorldFit, steps_fit}
use Rattle.j39_run_laws.proofs.Transfers.Leading.{leads_on}
use Rattle.j39_run_laws.proofs.Transfers.Lowering.{left_of, lowers}

module _ (plan : Plan) (Reaches : World → Type 0) (MayCome : World → Step → Type 0)
    (by_step : (w : World) → ((step : Step) → IsOfTransfers step → MayCome w step → refusal plan w step ≡ None → Reaches w) → Reaches w)
    (further : (w : World) (step : Step) → MayCome w step → (mid : World) → Follows plan w step mid → Reaches mid → Reaches w) where
  pub reaches : (fuel : ℕ) (w : World) → IsWorldFit w → left_of (count_of plan) w ≤ fuel → Reaches w
  reaches zero w fit most = by_step w (λ step of may allowed.
      let (mid, leads) = leads_on plan w fit step allowed in
      absurd (let less = lowers plan w fit step of allowed mid leads in omega (arith, less, most)))
  reaches (suc fuel) w fit most = by_step w (λ step of may allowed.
      let (mid, leads) = leads_on plan w fit step allowed in
      let less = lowers plan w fit step of allowed mid leads in
      further w step may mid (leads_to_follows plan w step allowed mid leads)
      (reaches fuel mid (steps_fit plan w fit step allowed mid leads) (omega (arith, less, most))))

-- a message on its way to a receiver by the steps that were found
abbrev pub passage_of : (plan : Plan) (place : ℕ) (flow : Flow) (bytes : List ℕ) (receiver : ℕ) (steps : List Step) (after : World)
    → slice_get (flows_of plan) place ≡ Some flow → Passage plan
passage_of plan place flow bytes receiver steps after planned = record {
  place = place;
  flow = flow;
  bytes = bytes;
  receiver = receiver;
  steps = steps;
  after = after;
  planned = planned;
}

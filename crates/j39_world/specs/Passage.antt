-- A message on its way to one of its receivers.
use Rattle.std.specs.Prelude.{◌≡◌, ℕ, List, Some}
use Rattle.std.specs.List.{slice_get}
use Rattle.j39_network.specs.declared.plan.Plan.{Plan}
use Rattle.j39_network.specs.declared.steps.Step.{Step}
use Rattle.j39_world.specs.declared.flow.Flow.{Flow}
use Rattle.j39_world.specs.Flows.{flows_of}
use Rattle.j39_world.specs.World.{World}

-- a message of a planned flow, one of its receivers, and steps from there to a later world
pub record Passage (plan : Plan) : Type 0 where
  pub place : ℕ
  pub flow : Flow
  pub bytes : List ℕ
  pub receiver : ℕ
  pub steps : List Step
  pub after : World
  pub planned : slice_get (flows_of plan) place ≡ Some flow

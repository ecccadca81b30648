-- What a bus stands for.
use Rattle.std.specs.Prelude.{◌≡◌, ℕ, true, List, ◌∷◌, ◌++◌, length, map}
use Rattle.j39_tp.specs.Gathered.{Gathers}
use Rattle.j39_tp.specs.declared.packet.Packet.{Packet}
use Rattle.j39_network.specs.declared.plan.Plan.{Plan}
use Rattle.j39_network.specs.declared.steps.Step.{Step}
use Rattle.j39_world.specs.declared.step_error.StepError.{StepError}
use Rattle.j39_world.specs.declared.step_error.StepError.TheVariants.{Memory}
use Rattle.j39_network.specs.PlannedUnits.{units_of}
use Rattle.j39_world.specs.World.{World}
use Rattle.j39_bus.specs.BusState.{BusState, ReceiverTable, histories_of, holding_at, world_of}
use Rattle.j39_world.specs.Flows.{flows_of, windows_of}
use Rattle.j39_world.specs.Run.{refusal, cause_of, takes_memory, RunsThrough}

-- the bus has the units of the plan, its flows and its windows, and is live where the plan is
pub record IsPlannedBy (plan : Plan) (b : BusState) : Type 0 where
  pub units : map (λ c. c.planned) b.units ≡ units_of plan
  pub live : b.live ≡ plan.live
  pub flows : b.flows ≡ flows_of plan
  pub windows : b.receivers.windows ≡ windows_of plan

-- each receiver holds what its unit took of the message that is announced last
abbrev pub HoldTaken : (ℕ → ℕ → List Packet) → ReceiverTable → Type 0
HoldTaken taken receivers = (v u : ℕ) → Gathers (taken v u) (holding_at receivers.holdings v u).progress (holding_at receivers.holdings v u).bytes

-- the bus stands for this world of the plan
pub record Stands (b : BusState) (plan : Plan) (w : World) : Type 0 where
  pub planned : IsPlannedBy plan b
  pub world : w ≡ world_of (histories_of w) b
  pub held : HoldTaken w.taken b.receivers

-- a run of these steps ends at a place: what stands before it was done, and this step is refused for the cause, or wanted memory
-- where it is not refused
pub record IsRefusedAt (old new : BusState) (steps : List Step) (place : ℕ) (error : StepError) : Type 0 where
  pub done : List Step
  pub step : Step
  pub rest : List Step
  pub parts : steps ≡ done ++ step ∷ rest
  pub count : length done ≡ place
  pub ran : (plan : Plan) (w : World) → Stands old plan w
      → (after : World) × RunsThrough plan w done after × Stands new plan after × (refusal plan after step ≡ cause_of error)
  pub memory : error ≡ Memory → takes_memory step ≡ true

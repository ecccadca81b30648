-- How a message goes through a vehicle where nothing of it is lost on a bus, and each gateway begins what it has reported.
use Rattle.std.specs.Prelude.{◌≡◌, ℕ, true, ◌⊎◌, List, [], ◌∷◌, Some, None}
use Rattle.std.specs.List.{slice_get}
use Rattle.j39_network.specs.declared.plan.Plan.{Plan}
use Rattle.j39_network.specs.declared.plan.flow_plan.FlowPlan.{FlowPlan}
use Rattle.j39_network.specs.declared.steps.Step.{Step}
use Rattle.j39_world.specs.Arriving.{Answered, IsAlone, IsThrough, IsUnanswered, RunSparing}
use Rattle.j39_world.specs.Flows.{flow_of}
use Rattle.j39_world.specs.Run.{Run, begin_refusal, count_of}
use Rattle.j39_world.specs.SentArriving.{SentAlone}
use Rattle.j39_world.specs.Transfers.{is_among}
use Rattle.j39_world.specs.TransferSteps.{begins, outgoing}
use Rattle.j39_world.specs.World.{World, all_off}
use Rattle.j39_world.specs.declared.flow.Flow.{Flow}
use Rattle.j39_vehicle.specs.declared.vehicle.Vehicle.{Vehicle}
use Rattle.j39_vehicle.specs.declared.vehicle.bus_plan.BusPlan.{BusPlan}
use Rattle.j39_vehicle.specs.declared.vehicle.forward.Forward.{Forward}
use Rattle.j39_vehicle_findings.specs.Traces.{behind_forward, next_forward}
use Rattle.j39_vehicle_laws.specs.BusRuns.{BusMessage, IsOfType, WasReported}

-- ---- on one bus

-- a message that no receiver answers is begun in the first of two worlds, and steps that spare it lead to the second, where its sender can
-- send no more and v can take no more of it
pub record IsSpared (plan : Plan) (place : ℕ) (flow : Flow) (v : ℕ) (bytes : List ℕ) (w after : World) : Type 0 where
  pub unanswered : IsUnanswered flow bytes
  pub allowed : begin_refusal plan.live (count_of plan) w (Some flow) bytes ≡ None
  pub among : is_among (outgoing (count_of plan) w.stations place flow bytes).targets v ≡ true
  pub steps : List Step
  pub runs : RunSparing plan flow.sender (v ∷ []) (begins (count_of plan) w place flow bytes) steps after
  pub through : IsThrough plan after flow.sender (v ∷ [])

-- so it is with one that v answers
pub record IsSparedAnswered (plan : Plan) (place v : ℕ) (bytes : List ℕ) (w after : World) : Type 0 where
  pub message : Answered plan w
  pub alone : IsAlone plan w message
  pub place_is : message.passage.place ≡ place
  pub bytes_are : message.passage.bytes ≡ bytes
  pub receiver_is : message.passage.receiver ≡ v
  pub after_is : message.passage.after ≡ after

-- and with one that is sent in a frame alone
pub record IsSparedAlone (plan : Plan) (place v : ℕ) (bytes : List ℕ) (w after : World) : Type 0 where
  pub frame : SentAlone plan w
  pub place_is : frame.passage.place ≡ place
  pub bytes_are : frame.passage.bytes ≡ bytes
  pub receiver_is : frame.passage.receiver ≡ v
  pub after_is : frame.passage.after ≡ after

-- in a world of a run of its bus's plan, or of that of its boxes, the message is begun, and nothing of it is lost to its hearer up to this other
-- world
pub record CrossesBus (v : Vehicle) (m : BusMessage) (after : World) : Type 0 where
  pub bus : BusPlan
  pub bus_is : slice_get v.buses.items m.point.at.bus ≡ Some bus
  pub flow : FlowPlan
  pub flow_is : slice_get bus.plan.flows.items m.point.at.flow ≡ Some flow
  pub boxes : Plan
  pub kind : IsOfType bus.plan boxes
  pub steps : List Step
  pub world : World
  pub runs : Run boxes all_off steps world
  pub spared : IsSpared boxes m.point.at.flow (flow_of boxes.groups.items flow) m.hearer m.bytes world after
      ⊎ (IsSparedAnswered boxes m.point.at.flow m.hearer m.bytes world after ⊎ IsSparedAlone boxes m.point.at.flow m.hearer m.bytes world after)

-- ---- along a trace

abbrev pub WasReportedIn : Vehicle → BusMessage → World → Type 0
WasReportedIn v m w = WasReported v (λ b. w) m

-- from the origin of its trace the message is delivered bus by bus: each gateway begins it once its unit has reported the one before, and it is
-- delivered from there on
pub data IsPassedOn (v : Vehicle) : BusMessage → World → Type 0 where
  at_first : (m : BusMessage) (after : World) → next_forward v m.point ≡ None → CrossesBus v m after → IsPassedOn v m after
  by_gateway : (m k : BusMessage) (place : ℕ) (n : Forward) (before after : World) → next_forward v m.point ≡ Some place
      → slice_get v.forwards.items place ≡ Some n → behind_forward v m.point.signal n ≡ Some k.point → k.hearer ≡ n.hearer
      → IsPassedOn v k before → (WasReportedIn v k before → CrossesBus v m after) → IsPassedOn v m after

-- whoever it is for has reported it then
abbrev pub PassedMessagesArrive : Vehicle → Type 0
PassedMessagesArrive v = (m : BusMessage) (after : World) → IsPassedOn v m after → WasReportedIn v m after

-- Runs of vehicles, without a clock: a run of the plan of each bus, and gateways that hand on between these.
use Rattle.std.specs.Prelude.{◌≡◌, ℕ, ◌⊎◌, List, Option, Some, None}
use Rattle.std.specs.List.{slice_get}
use Rattle.j39_network.specs.VehiclePlans.{IsVehicleOf}
use Rattle.j39_network.specs.declared.plan.Plan.{Plan}
use Rattle.j39_network.specs.declared.plan.flow_plan.FlowPlan.{FlowPlan}
use Rattle.j39_network.specs.declared.steps.Step.{Step}
use Rattle.j39_world.specs.Run.{Run}
use Rattle.j39_world.specs.Sound.{reported, reported_alone}
use Rattle.j39_world.specs.World.{World, all_off}
use Rattle.j39_vehicle.specs.declared.vehicle.Vehicle.{Vehicle}
use Rattle.j39_vehicle.specs.declared.vehicle.bus_plan.BusPlan.{BusPlan}
use Rattle.j39_vehicle.specs.declared.vehicle.forward.Forward.{Forward}
use Rattle.j39_vehicle_findings.specs.Buses.{flows_on}
use Rattle.j39_vehicle_findings.specs.ForwardEnds.{Feeds, IsInput, input_flows}
use Rattle.j39_vehicle_findings.specs.declared.point.FlowAt.{FlowAt}
use Rattle.j39_vehicle_findings.specs.declared.point.Point.{Point}
use Rattle.j39_vehicle_laws.specs.HandedOn.{HasMessage}
use Rattle.j39_vehicle_laws.specs.Faithful.{KeepsContents}

-- ---- messages

-- a message of the flow at a point of a trace, for a unit on this bus
pub record BusMessage : Type 0 where
  pub point : Point
  pub hearer : ℕ
  pub bytes : List ℕ

-- u began for v a message of the flow with these bytes, or sent it so in a frame alone
abbrev pub WasSent : World → ℕ → ℕ → ℕ → List ℕ → Type 0
WasSent w u v flow bytes = HasMessage (w.begun u v) flow bytes ⊎ HasMessage (w.sent_alone u v) flow bytes

-- v reported it of u
abbrev pub WasHeard : World → ℕ → ℕ → ℕ → List ℕ → Type 0
WasHeard w u v flow bytes = HasMessage (reported w.reports v u) flow bytes ⊎ HasMessage (reported_alone w.reports v u) flow bytes

abbrev pub flow_on_bus : Vehicle → FlowAt → Option FlowPlan
flow_on_bus v at = slice_get (flows_on v.buses.items at.bus) at.flow

-- so it is between the message's sender, by its flow, and the unit that it is for, in the world of their bus
pub record Between (v : Vehicle) (worlds : ℕ → World) (m : BusMessage) (Is : World → ℕ → ℕ → ℕ → List ℕ → Type 0) : Type 0 where
  pub flow : FlowPlan
  pub flow_is : flow_on_bus v m.point.at ≡ Some flow
  pub so : Is (worlds m.point.at.bus) flow.sender m.hearer m.point.at.flow m.bytes

abbrev pub WasBegun : Vehicle → (ℕ → World) → BusMessage → Type 0
WasBegun v worlds m = Between v worlds m WasSent

abbrev pub WasReported : Vehicle → (ℕ → World) → BusMessage → Type 0
WasReported v worlds m = Between v worlds m WasHeard

-- ---- runs

-- the gateway's unit reported a message of an input of the forward, and these bytes keep what they have to keep of it
pub record CarriesOne (v : Vehicle) (worlds : ℕ → World) (n : Forward) (bytes : List ℕ) : Type 0 where
  pub place : ℕ
  pub flow : FlowPlan
  pub flow_is : slice_get (input_flows v n) place ≡ Some flow
  pub input : IsInput v n flow
  pub before : List ℕ
  pub heard : WasHeard (worlds n.input.bus) flow.sender n.hearer place before
  pub faithful : KeepsContents v n (Some before) bytes

-- they are of a message that carries one of an input, or none
abbrev pub Carries : Vehicle → (ℕ → World) → Forward → List ℕ → Type 0
Carries v worlds n bytes = CarriesOne v worlds n bytes ⊎ KeepsContents v n None bytes

-- the plan of a bus, or that of its boxes, whatever their serial numbers are
abbrev pub IsOfType : Plan → Plan → Type 0
IsOfType plan boxes = (boxes ≡ plan) ⊎ IsVehicleOf plan boxes

-- a world of a run of the plan of each bus, or of that of its boxes, in which each message that was begun of an output of a forward carries one of an
-- input that was reported, or none
pub record VehicleRun (v : Vehicle) : Type 0 where
  pub worlds : ℕ → World
  pub runs : (b : ℕ) (bus : BusPlan) → slice_get v.buses.items b ≡ Some bus
      → (boxes : Plan) × IsOfType bus.plan boxes × ((steps : List Step) × Run boxes all_off steps (worlds b))
  pub carries : (place : ℕ) (n : Forward) (m : BusMessage) → slice_get v.forwards.items place ≡ Some n → Feeds v n m.point.at
      → WasBegun v worlds m → Carries v worlds n m.bytes

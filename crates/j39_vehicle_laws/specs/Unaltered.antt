-- Of a vehicle without findings nothing is altered on the way: what units report is what was begun at its origin.
use Rattle.std.specs.Prelude.{◌≡◌, ℕ, ◌⊎◌, ℤ, List, Option, Some}
use Rattle.std.specs.List.{slice_get}
use Rattle.j39_signal.specs.declared.signal_parts.SignalParts.{SignalParts}
use Rattle.j39_signal.specs.declared.state.State.TheVariants.{Value}
use Rattle.j39_network.specs.declared.plan.flow_plan.FlowPlan.{FlowPlan}
use Rattle.j39_world.specs.World.{World}
use Rattle.j39_vehicle.specs.declared.vehicle.Vehicle.{Vehicle}
use Rattle.j39_vehicle.specs.declared.vehicle.places.UnitAt.{UnitAt}
use Rattle.j39_vehicle.specs.declared.vehicle.vehicle_need.VehicleNeed.{VehicleNeed}
use Rattle.j39_vehicle_findings.specs.Traces.{IsNeedFlow, flows_of_need, point_on}
use Rattle.j39_vehicle_laws.specs.HandedOn.{AreOneValue}
use Rattle.j39_vehicle_laws.specs.Carrying.{AreAllCopies, AreAllExact, Brings, signal_at}
use Rattle.j39_vehicle_laws.specs.Reading.{HasNoValue, reading}
use Rattle.j39_vehicle_laws.specs.BusRuns.{WasBegun, WasReported, BusMessage, VehicleRun, flow_on_bus}

-- the unit began the message, by a flow of its own
pub record WasBegunBy (v : Vehicle) (worlds : ℕ → World) (u : UnitAt) (m : BusMessage) : Type 0 where
  pub begun : WasBegun v worlds m
  pub bus : m.point.at.bus ≡ u.bus
  pub sender : (flow : FlowPlan) → flow_on_bus v m.point.at ≡ Some flow → flow.sender ≡ u.unit

-- the signal of the trace reads no value in the message, or the one that it reads in that of the origin
abbrev pub ReadsAsOrigin : Vehicle → BusMessage → SignalParts → Option BusMessage → Type 0
ReadsAsOrigin v m t origin = HasNoValue (reading t m.bytes)
    ⊎ ((o : BusMessage) × (s : SignalParts) × (a : ℤ) × (b : ℤ) × (origin ≡ Some o) × (signal_at v o.point ≡ Some s)
    × (reading s o.bytes ≡ Value a) × (reading t m.bytes ≡ Value b) × AreOneValue s a t b)

-- forward by forward the message carries one that this unit began, or none
pub record ComesFrom (v : Vehicle) (worlds : ℕ → World) (from : UnitAt) (m : BusMessage) : Type 0 where
  pub origin : Option BusMessage
  pub brings : Brings v worlds m origin
  pub begun : (o : BusMessage) → origin ≡ Some o → WasBegunBy v worlds from o
  -- where only copies are on the way its bytes are the same
  pub bytes : AreAllCopies v m.point → (o : BusMessage) → origin ≡ Some o → m.bytes ≡ o.bytes
  -- where all that goes into signals on the way has to be exact, its signal reads no value, or that of the origin's message
  pub value : AreAllExact v m.point → (t : SignalParts) → signal_at v m.point ≡ Some t → ReadsAsOrigin v m t origin

-- so does each message of a flow of a need that the need's unit reports
abbrev pub IsUnaltered : Vehicle → Type 0
IsUnaltered v = (run : VehicleRun v) (d : VehicleNeed) (place f : ℕ) (flow : FlowPlan) (bytes : List ℕ)
    → slice_get v.needs.items place ≡ Some d → slice_get (flows_of_need v d) f ≡ Some flow → IsNeedFlow v d f flow
    → WasReported v run.worlds (record { point = point_on d.unit.bus f d.signal; hearer = d.unit.unit; bytes = bytes })
    → ComesFrom v run.worlds d.from (record { point = point_on d.unit.bus f d.signal; hearer = d.unit.unit; bytes = bytes })

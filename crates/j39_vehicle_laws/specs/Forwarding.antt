-- A vehicle without findings, and a run of it in which a message is forwarded: so the laws of vehicles speak of something.
use Rattle.std.specs.Prelude.{◌≡◌, ℕ, ℤ, List, [], Some}
use Rattle.std.specs.List.{slice_get}
use Rattle.j39_signal.specs.declared.signal_parts.SignalParts.{SignalParts}
use Rattle.j39_signal.specs.declared.state.State.TheVariants.{Value}
use Rattle.j39_network.specs.declared.plan.flow_plan.FlowPlan.{FlowPlan}
use Rattle.j39_vehicle.specs.declared.vehicle.Vehicle.{Vehicle}
use Rattle.j39_vehicle.specs.declared.vehicle.vehicle_need.VehicleNeed.{VehicleNeed}
use Rattle.j39_vehicle_findings.specs.Traces.{IsNeedFlow, flows_of_need, next_forward, point_on}
use Rattle.j39_vehicle_findings.specs.VehicleFindings.{AreFindings}
use Rattle.j39_vehicle_laws.specs.Carrying.{AreAllExact, signal_at}
use Rattle.j39_vehicle_laws.specs.Reading.{reading}
use Rattle.j39_vehicle_laws.specs.BusRuns.{WasReported, BusMessage, VehicleRun}

-- the message of a need's flow that the need's unit reports
abbrev pub needed_message : VehicleNeed → ℕ → List ℕ → BusMessage
needed_message d f bytes = record { point = point_on d.unit.bus f d.signal; hearer = d.unit.unit; bytes = bytes }

-- a need's unit reports a message of a flow of the need, which a forward sends on, and in which the need's signal reads a value
pub record ForwardedMessage : Type 0 where
  pub vehicle : Vehicle
  pub clean : AreFindings vehicle []
  pub run : VehicleRun vehicle
  pub need_place : ℕ
  pub need : VehicleNeed
  pub need_is : slice_get vehicle.needs.items need_place ≡ Some need
  pub place : ℕ
  pub flow : FlowPlan
  pub flow_is : slice_get (flows_of_need vehicle need) place ≡ Some flow
  pub needed : IsNeedFlow vehicle need place flow
  pub bytes : List ℕ
  pub reported : WasReported vehicle run.worlds (needed_message need place bytes)
  pub exact : AreAllExact vehicle (point_on need.unit.bus place need.signal)
  pub signal : SignalParts
  pub signal_is : signal_at vehicle (point_on need.unit.bus place need.signal) ≡ Some signal
  pub value : ℤ
  pub reads : reading signal bytes ≡ Value value
  pub forward : ℕ
  pub forwarded : next_forward vehicle (point_on need.unit.bus place need.signal) ≡ Some forward

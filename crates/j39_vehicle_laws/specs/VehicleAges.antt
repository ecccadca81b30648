-- What a vehicle is good for of which nothing is found: how old what is brought to its units is at most, and that flows which gateways send on
-- directly keep what the plans of their buses take for granted of them.
use Rattle.std.specs.Prelude.{◌≡◌, ℕ, ◌+◌, ◌*◌, ◌≤◌, true, [], Some, None}
use Rattle.std.specs.List.{slice_get}
use Rattle.j39_search.specs.ListPlaces.{ValueAt}
use Rattle.j39_network.specs.declared.plan.flow_plan.FlowPlan.{FlowPlan}
use Rattle.j39_network.specs.declared.plan.timing.Timing.{Timing}
use Rattle.j39_load.specs.Clocks.{longest_million}
use Rattle.j39_vehicle_laws.specs.Gateways.{KeepsReleasing}
use Rattle.j39_vehicle.specs.declared.vehicle.Vehicle.{Vehicle}
use Rattle.j39_vehicle.specs.declared.vehicle.vehicle_need.VehicleNeed.{VehicleNeed}
use Rattle.j39_vehicle_findings.specs.Traces.{IsNeedFlow, flows_of_need, is_sent_by, point_on}
use Rattle.j39_vehicle_findings.specs.VehicleFindings.{AreFindings}
use Rattle.j39_vehicle_findings.specs.declared.point.FlowAt.{FlowAt}
use Rattle.j39_vehicle_findings.specs.declared.point.Point.{Point}
use Rattle.j39_vehicle_times.specs.BusDelays.{AreDelays}
use Rattle.j39_vehicle_times.specs.TimeFindings.{AreTimeFindings}
use Rattle.j39_vehicle_times.specs.Times.{age, behind_at, flow_at, timing_on}
use Rattle.j39_vehicle_times.specs.declared.bus_delays.Delays.{Delays}
use Rattle.j39_vehicle_laws.specs.ForwardedStreams.{AreOtherwiseKept}
use Rattle.j39_vehicle_laws.specs.KeptBuses.{AreKeptBuses}
use Rattle.j39_vehicle_laws.specs.Prompt.{IsSentOn}
use Rattle.j39_vehicle_laws.specs.Seen.{SeenBuses, frames_at, of_us}
use Rattle.j39_vehicle_laws.specs.YoungValues.{HasWay, IsBroughtFrom, IsBroughtYoung, IsSeenKeeping, KeepPauses}

-- nothing is wrong with its paths, nor with its times
pub record IsSoundVehicle (v : Vehicle) (delays : Delays) : Type 0 where
  pub stated : AreDelays v delays
  pub paths : AreFindings v []
  pub times : AreTimeFindings v delays []

-- what is asked of what is seen of it up to a time: its buses and flows keep to their plans, but for when messages are queued that are sent on directly
abbrev pub IsPromptVehicle : Vehicle → Delays → SeenBuses → ℕ → Type 0
IsPromptVehicle = IsSeenKeeping AreOtherwiseKept

-- ---- ages

-- each age that is known is a bound, where the scope has the way to the point
abbrev pub AreAgesKept : Vehicle → Delays → Type 0
AreAgesKept v delays = (seen : SeenBuses) (p : Point) (most from t : ℕ) → age v delays p ≡ Some most
    → from + of_us most ≤ t → (is : IsPromptVehicle v delays seen t) → HasWay v is.scope p → KeepPauses v seen p from t
    → IsBroughtYoung v seen p (of_us most) t

-- some flow of the need brings what is never older than the need asks for
pub record IsNeedKept (v : Vehicle) (delays : Delays) (d : VehicleNeed) (within : ℕ) : Type 0 where
  pub flow : ℕ
  pub its : ValueAt (IsNeedFlow v d flow) (flows_of_need v d) flow
  pub most : ℕ
  pub age_is : age v delays (point_on d.unit.bus flow d.signal) ≡ Some most
  pub young : most ≤ 1000 * within
  pub brought : (seen : SeenBuses) (from t : ℕ) → from + of_us most ≤ t → (is : IsPromptVehicle v delays seen t)
      → HasWay v is.scope (point_on d.unit.bus flow d.signal)
      → KeepPauses v seen (point_on d.unit.bus flow d.signal) from t → IsBroughtYoung v seen (point_on d.unit.bus flow d.signal) (of_us (1000 * within)) t
  -- what it brings was sent by the unit from which the need wants it
  pub sender : (seen : SeenBuses) (frame born : ℕ) (brought : IsBroughtFrom v seen (point_on d.unit.bus flow d.signal) frame born)
      → is_sent_by v d.from brought.origin ≡ true

-- so it is of each need that asks for an age
abbrev pub AreVehicleNeedsKept : Vehicle → Delays → Type 0
AreVehicleNeedsKept v delays = (d : ℕ) (need : VehicleNeed) (within : ℕ) → slice_get v.needs.items d ≡ Some need → need.within ≡ Some within
    → IsNeedKept v delays need within

-- ---- pauses

-- a flow that is sent on directly has a release in each of the pauses that the plan of its bus has for it, by the slowest clocks there, from one time
-- to another, while what it comes from keeps its own
abbrev pub AreForwardedPausesKept : Vehicle → Delays → Type 0
AreForwardedPausesKept v delays = (seen : SeenBuses) (by : ℕ) (at : FlowAt) (timing : Timing) (flow : FlowPlan) (ms time from to : ℕ)
    → IsSentOn v delays at → timing_on v.buses.items at.bus ≡ Some timing → flow_at v.buses.items at ≡ Some flow → flow.pause ≡ Some ms
    → behind_at v delays at ≡ Some time → (is : IsPromptVehicle v delays seen by) → HasWay v is.scope (record { at = at; signal = None })
    → KeepPauses v seen (record { at = at; signal = None }) from by → to + of_us time ≤ by
    → KeepsReleasing (frames_at v seen at) (1000 * (ms * longest_million timing)) from to

-- ---- streams

-- the planned frames of each bus of the scope keep to what the plan of this bus takes for granted of them, those that are sent on directly too
abbrev pub AreVehicleStreamsKept : Vehicle → Delays → Type 0
AreVehicleStreamsKept v delays = (seen : SeenBuses) (by : ℕ) (is : IsPromptVehicle v delays seen by) → AreKeptBuses v delays is.scope seen

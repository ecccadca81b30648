-- That all that is asked of what is seen of a vehicle can be kept at once, where a gateway sends messages on, with a value, at each period.
use Rattle.std.specs.Prelude.{◌≡◌, ◌≢◌, ℕ, ◌≤◌, true, List, Some, None}
use Rattle.j39_network.specs.declared.plan.flow_plan.FlowPlan.{FlowPlan}
use Rattle.j39_network.specs.declared.plan.timing.Timing.{Timing}
use Rattle.j39_load.specs.AnyQueues.{keep_order}
use Rattle.j39_load.specs.Asked.{frames_asked}
use Rattle.j39_load.specs.PlannedFrames.{planned_at}
use Rattle.j39_vehicle_laws.specs.Gateways.{HasBegun, end_time, queue_time}
use Rattle.j39_vehicle.specs.declared.vehicle.Vehicle.{Vehicle}
use Rattle.j39_vehicle.specs.declared.vehicle.forward.Forward.{Forward}
use Rattle.j39_vehicle_findings.specs.ForwardEnds.{Copies}
use Rattle.j39_vehicle_findings.specs.ForwardTests.{feeds, is_direct}
use Rattle.j39_vehicle_findings.specs.Traces.{goes_on, next_forward}
use Rattle.j39_vehicle_findings.specs.declared.point.FlowAt.{FlowAt}
use Rattle.j39_vehicle_findings.specs.declared.point.Point.{Point}
use Rattle.j39_vehicle_laws.specs.Faithful.{KeepsContents, PassesValues}
use Rattle.j39_vehicle_times.specs.BusDelays.{AreDelays}
use Rattle.j39_vehicle_times.specs.TimeFindings.{period_ms}
use Rattle.j39_vehicle_times.specs.Times.{direct_feeder, flow_at, forward_at, first_input_at, timing_on}
use Rattle.j39_vehicle_times.specs.declared.bus_delays.Delays.{Delays}
use Rattle.j39_vehicle_laws.specs.KeptBuses.{IsKnownBus, asked_on}
use Rattle.j39_vehicle_laws.specs.Prompt.{AreSentUnasked, IsDelayKnown, SendsOn, whole_vehicle}
use Rattle.j39_vehicle_laws.specs.Seen.{SeenBuses, frames_at}
use Rattle.j39_vehicle_laws.specs.ValuesArrive.{PassValuesOn}
use Rattle.j39_vehicle_laws.specs.VehicleAges.{IsPromptVehicle}
use Rattle.j39_vehicle_laws.specs.YoungValues.{KeepPauses}

-- the direct forward at a place sends flow y of another bus for flow x, which comes from its own bus; x is heard for nothing else, and y for nothing;
-- all units keep order; and nothing is sent on of flows that come only as answers, nor as theirs
pub record IsLoneForward (v : Vehicle) (delays : Delays) (n : ℕ) (forward : Forward) (x y : FlowAt) (within : ℕ) : Type 0 where
  pub sends : SendsOn v n forward x y within
  pub direct : is_direct forward ≡ true
  pub timed_x : (timing : Timing) × (timing_on v.buses.items x.bus ≡ Some timing)
  pub timed_y : (timing : Timing) × (timing_on v.buses.items y.bus ≡ Some timing)
  pub stated_x : IsDelayKnown delays x
  pub stated_y : IsDelayKnown delays y
  pub other_bus : x.bus ≢ y.bus
  pub first : direct_feeder v x ≡ None
  pub fed : direct_feeder v y ≡ Some forward
  pub heard : (m : ℕ) (other : Forward) → forward_at v m ≡ Some other → first_input_at v other ≡ Some x → m ≡ n
  pub last : (m : ℕ) (other : Forward) → forward_at v m ≡ Some other → ¬ (first_input_at v other ≡ Some y)
  pub only : (z : FlowAt) → feeds v z forward ≡ true → z ≡ y
  pub alone : (m : ℕ) (other : Forward) → forward_at v m ≡ Some other → feeds v y other ≡ true → m ≡ n
  pub in_order : (b : ℕ) (timing : Timing) (of_bus : IsKnownBus v delays b timing) (j : ℕ) → keep_order (planned_at (frames_asked (asked_on of_bus)) j) ≡ true
  pub unasked : AreSentUnasked v delays

-- the flow has a period, and its pause, if it has one, isn't shorter, as plan files have it
pub record IsPacedFlow (v : Vehicle) (x : FlowAt) : Type 0 where
  pub flow : FlowPlan
  pub its : flow_at v.buses.items x ≡ Some flow
  pub ms : ℕ
  pub period : period_ms flow ≡ Some ms
  pub longer : (pause : ℕ) → flow.pause ≡ Some pause → ms ≤ pause

-- a message of the forward's output that carries one of its input, and passes its values on
pub record CarriesValues (v : Vehicle) (forward : Forward) (before bytes : List ℕ) : Type 0 where
  pub keeps : KeepsContents v forward (Some before) bytes
  pub passes : PassesValues v forward before bytes

-- a copy of any message does so
abbrev pub DoCopiesCarryValues : Vehicle → Type 0
DoCopiesCarryValues v = (forward : Forward) (bytes : List ℕ) → Copies forward → CarriesValues v forward bytes bytes

-- the trace of a point of flow y goes by the forward at a place, and ends behind it
pub record IsTracedBy (v : Vehicle) (n : ℕ) (y : FlowAt) (p : Point) : Type 0 where
  pub of : p.at ≡ y
  pub next : next_forward v p ≡ Some n
  pub from : Point
  pub on : goes_on v p n ≡ Some from
  pub ends : next_forward v from ≡ None

-- until a time, such things are seen of the whole vehicle: a message of x, with the one by which it is sent on, and these are their bytes; and all the
-- time flows keep their pauses, and gateways pass values on, on the way to each point whose trace goes by the forward
pub record CanBeSentOn (v : Vehicle) (delays : Delays) (n : ℕ) (x y : FlowAt) (before bytes : List ℕ) (by : ℕ) : Type 0 where
  pub seen : SeenBuses
  pub prompt : IsPromptVehicle v delays seen by
  pub whole : prompt.scope ≡ whole_vehicle v
  pub message : ℕ
  pub begun : HasBegun (frames_at v seen x) message
  pub heard : (seen x.bus).bytes message ≡ before
  pub next : ℕ
  pub sent : HasBegun (frames_at v seen y) next
  pub says : (seen y.bus).bytes next ≡ bytes
  pub behind : end_time (frames_at v seen x) message ≤ queue_time (frames_at v seen y) next
  pub carries : (seen y.bus).carries n next message ≡ true
  pub pauses : (p : Point) → IsTracedBy v n y p → KeepPauses v seen p 0 by
  pub passes : (p : Point) → IsTracedBy v n y p → PassValuesOn v seen p

abbrev pub CanMessagesBeSentOn : Vehicle → Delays → Type 0
CanMessagesBeSentOn v delays = AreDelays v delays → (n : ℕ) (forward : Forward) (x y : FlowAt) (within by : ℕ) → IsLoneForward v delays n forward x y within
    → IsPacedFlow v x → (before bytes : List ℕ) → CarriesValues v forward before bytes → CanBeSentOn v delays n x y before bytes by

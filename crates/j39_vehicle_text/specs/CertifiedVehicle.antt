-- What a vehicle has in which nothing is wrong.
use Rattle.std.specs.Prelude.{◌≡◌, ℕ, Bool, List, [], Some}
use Rattle.std.specs.List.{slice_get}
use Rattle.j39_findings.specs.Found.{found}
use Rattle.j39_load.specs.BusTimes.{timing_of}
use Rattle.j39_load.specs.LoadFindings.{AreLoadFindings}
use Rattle.j39_plan_text.specs.Certified.{IsCertified}
use Rattle.j39_vehicle.specs.declared.vehicle.Vehicle.{Vehicle}
use Rattle.j39_vehicle.specs.declared.vehicle.bus_plan.BusPlan.{BusPlan}
use Rattle.j39_vehicle_findings.specs.FoundPaths.{path_findings, queue_findings}
use Rattle.j39_vehicle_findings.specs.Loops.{DecidesLoops}
use Rattle.j39_vehicle_findings.specs.VehicleFindings.{AreFindings}
use Rattle.j39_vehicle_times.specs.BusDelays.{AreDelays}
use Rattle.j39_vehicle_times.specs.FoundTimes.{time_findings}
use Rattle.j39_vehicle_times.specs.TimeFindings.{AreTimeFindings}
use Rattle.j39_vehicle_times.specs.declared.bus_delays.Delays.{Delays}
use Rattle.j39_vehicle_laws.specs.Passing.{PassedMessagesArrive}
use Rattle.j39_vehicle_laws.specs.Unaltered.{IsUnaltered}
use Rattle.j39_vehicle_laws.specs.ValuesArrive.{DoValuesArrive}
use Rattle.j39_vehicle_laws.specs.VehicleAges.{AreAgesKept, AreForwardedPausesKept, AreVehicleNeedsKept, AreVehicleStreamsKept}

-- nothing is found in a plan and in what it asks of its bus
abbrev pub HasCalmPlan : BusPlan → Type 0
HasCalmPlan bus = (found bus.plan ≡ []) × AreLoadFindings bus.plan (timing_of bus.plan) []

-- nothing is found in a vehicle
pub record HasNoFindings (v : Vehicle) : Type 0 where
  pub plans : (b : ℕ) (bus : BusPlan) → slice_get v.buses.items b ≡ Some bus → HasCalmPlan bus
  pub loops : List Bool
  pub loops_are : DecidesLoops v loops
  pub paths : path_findings loops v ≡ []
  pub delays : Delays
  pub delays_are : AreDelays v delays
  pub times : time_findings v delays ≡ []
  pub queues : queue_findings v ≡ []

pub record IsCertifiedVehicle (v : Vehicle) : Type 0 where
  -- the plan of each bus has what a plan has in which nothing is wrong
  pub plans : (b : ℕ) (bus : BusPlan) → slice_get v.buses.items b ≡ Some bus → IsCertified bus.plan
  -- nothing is wrong with what goes over its gateways
  pub paths : AreFindings v []
  -- nor with the times of this
  pub delays : Delays
  pub delays_are : AreDelays v delays
  pub times : AreTimeFindings v delays []
  -- what its units report of needs carries, gateway by gateway, what was begun at the origin, or nothing; in each vehicle of the type, whatever the
  -- serial numbers of its boxes are
  pub unaltered : IsUnaltered v
  -- and what isn't lost arrives, in each of them
  pub arrive : PassedMessagesArrive v
  -- each age that is known bounds how old what is brought is, and so each need that asks for an age has a flow that keeps it
  pub ages : AreAgesKept v delays
  pub needs : AreVehicleNeedsKept v delays
  -- and where gateways pass values on, what is brought so reads each value that its origin reads
  pub values : DoValuesArrive v
  -- and a flow that is sent on directly keeps the pause that the plan of its bus has for it
  pub pauses : AreForwardedPausesKept v delays
  -- and the planned frames of each bus keep to its streams, those that are sent on directly too: so what the plan's certificate promises of times
  -- holds of it
  pub streams : AreVehicleStreamsKept v delays

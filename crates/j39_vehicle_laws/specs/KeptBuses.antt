-- Buses that keep to the plans of a vehicle: the premises of each delay that is reported of a flow.
use Rattle.std.specs.Prelude.{◌≡◌, ℕ, ◌≤◌, Bool, true, List, Option, Some}
use Rattle.std.specs.List.{slice_get}
use Rattle.j39_network.specs.declared.plan.timing.Timing.{Timing}
use Rattle.j39_network.specs.declared.plan.unit_plan.UnitPlan.{UnitPlan}
use Rattle.j39_load.specs.BusTimes.{timing_of}
use Rattle.j39_load.specs.Clocks.{IsTrueTime}
use Rattle.j39_vehicle_times.specs.BusDelays.{delays_on}
use Rattle.j39_load.specs.declared.waits.delay.Delay.{Delay}
use Rattle.j39_load.specs.declared.waits.delay.Delay.TheVariants.{Within}
use Rattle.j39_load.specs.Asked.{Asked, asked_of, frames_asked}
use Rattle.j39_load.specs.LoadFindings.{AsksOfBus}
use Rattle.j39_load.specs.PlannedFrames.{AreFramesInAnyOrder}
use Rattle.j39_timing.specs.AnyOrder.{IsLegalInAnyOrder}
use Rattle.j39_vehicle_laws.specs.Gateways.{time_of}
use Rattle.j39_vehicle.specs.declared.vehicle.Vehicle.{Vehicle}
use Rattle.j39_vehicle.specs.declared.vehicle.bus_plan.BusPlan.{BusPlan}
use Rattle.j39_vehicle_times.specs.declared.bus_delays.Delays.{Delays}
use Rattle.j39_vehicle_times.specs.Times.{timing_on}
use Rattle.j39_vehicle_laws.specs.Prompt.{Scope, scope_on}
use Rattle.j39_vehicle_laws.specs.Seen.{SeenBus, SeenBuses, clock_on}

-- what is reported of a bus of the vehicle that has timing: by who stays, the delay of each of its flows
pub record IsKnownBus (v : Vehicle) (delays : Delays) (b : ℕ) (timing : Timing) : Type 0 where
  pub bus : BusPlan
  pub its : slice_get v.buses.items b ≡ Some bus
  pub timed : timing_of bus.plan ≡ Some timing
  pub stays : UnitPlan → Bool
  pub asks : AsksOfBus bus.plan timing stays (delays_on delays b)

abbrev pub asked_on : {v : Vehicle} {delays : Delays} {b : ℕ} {timing : Timing} → IsKnownBus v delays b timing → Asked
asked_on {timing = timing} of_bus = asked_of timing of_bus.bus.plan of_bus.stays

-- the planned frames of the bus are those of its plan's flows, and what else is on it keeps to what is reported of it, while frames of these flows wait,
-- as far as a delay is reported of them; and its bits last as long as its clock can have them
pub record IsKeptBus (timing : Timing) (asked : Asked) (stated : List (Option Delay)) (flows : ℕ → Bool) (bus : SeenBus) : Type 0 where
  pub clock : IsTrueTime timing bus.time
  pub legal : IsLegalInAnyOrder bus.schedule bus.controllers
  pub frames : (flow bits : ℕ) → flows flow ≡ true → slice_get stated flow ≡ Some (Some (Within bits))
      → AreFramesInAnyOrder timing asked.unplanned_end (frames_asked asked) bus.schedule bus.controllers bus.planned bus.of flow

-- so it is of each bus of the scope that has timing
abbrev pub AreKeptBuses : Vehicle → Delays → Scope → SeenBuses → Type 0
AreKeptBuses v delays scope seen = (b : ℕ) (timing : Timing) (of_bus : IsKnownBus v delays b timing) → scope.buses b ≡ true
    → IsKeptBus timing (asked_on of_bus) (delays_on delays b) (scope_on scope b) (seen b)

-- and is seen until this time
abbrev pub AreSeenUntil : Vehicle → Scope → SeenBuses → ℕ → Type 0
AreSeenUntil v scope seen by = (b : ℕ) (timing : Timing) → scope.buses b ≡ true → timing_on v.buses.items b ≡ Some timing
    → by ≤ time_of (clock_on v seen b) (seen b).schedule.now

-- How long the messages of each flow of each bus take, as the plans of the buses ask of them.
use Rattle.std.specs.Prelude.{◌≡◌, ℕ, List, [], length, Bool, Option, Some, None}
use Rattle.std.specs.List.{slice_get}
use Rattle.std.specs.Option.{option_map_or}
use Rattle.j39_network.specs.declared.plan.Plan.{Plan}
use Rattle.j39_network.specs.declared.plan.timing.Timing.{Timing}
use Rattle.j39_network.specs.declared.plan.unit_plan.UnitPlan.{UnitPlan}
use Rattle.j39_load.specs.BusTimes.{timing_of}
use Rattle.j39_load.specs.LoadFindings.{AsksOfBus}
use Rattle.j39_load.specs.declared.waits.delay.Delay.{Delay}
use Rattle.j39_vehicle.specs.declared.vehicle.Vehicle.{Vehicle}
use Rattle.j39_vehicle.specs.declared.vehicle.bus_plan.BusPlan.{BusPlan}
use Rattle.j39_vehicle_times.specs.declared.bus_delays.Delays.{Delays}

-- those of the flows of a bus with this plan: none where nothing is known of the bus
abbrev pub AreDelaysOn : Plan → Option Timing → List (Option Delay) → Type 0
AreDelaysOn plan None delays = delays ≡ []
AreDelaysOn plan (Some timing) delays = (stays : UnitPlan → Bool) × AsksOfBus plan timing stays delays

-- those that stand at the place of a bus
abbrev pub delays_on : Delays → ℕ → List (Option Delay)
delays_on delays b = option_map_or (λ stated. stated.items) (slice_get delays.of_buses.items b) []

-- so it is of each bus
pub record AreDelays (v : Vehicle) (delays : Delays) : Type 0 where
  pub count : length delays.of_buses.items ≡ length v.buses.items
  pub each : (b : ℕ) (bus : BusPlan) → slice_get v.buses.items b ≡ Some bus → AreDelaysOn bus.plan (timing_of bus.plan) (delays_on delays b)

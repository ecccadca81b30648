-- How much older values become from forward to forward.
use Rattle.std.specs.Prelude.{ℕ, Bool, true, false, if◌then◌else◌, Option, Some, None}
use Rattle.std.specs.Option.{option_map_or}
use Rattle.j39_network.specs.declared.plan.timing.Timing.{Timing}
use Rattle.j39_vehicle.specs.declared.vehicle.Vehicle.{Vehicle}
use Rattle.j39_vehicle.specs.declared.vehicle.forward.Forward.{Forward}
use Rattle.j39_vehicle_findings.specs.ForwardTests.{is_direct}
use Rattle.j39_vehicle_findings.specs.Traces.{next_forward}
use Rattle.j39_vehicle_findings.specs.declared.point.FlowAt.{FlowAt}
use Rattle.j39_vehicle_findings.specs.declared.point.Point.{Point}
use Rattle.j39_vehicle_times.specs.declared.bus_delays.Delays.{Delays}
use Rattle.j39_vehicle_times.specs.Times.{behind_at, forward_at, interval_us, sum_known, timing_on, within_of}

-- from the release of what the forward hears to that of what it sends
abbrev pub aged_of : Vehicle → Delays → FlowAt → Forward → Option ℕ
aged_of v delays at n = if is_direct n then Some 0 else sum_known (sum_known (interval_us v at) (behind_at v delays at)) (within_of n)

abbrev pub aged_by : Vehicle → Delays → ℕ → FlowAt → Option ℕ
aged_by v delays n at = option_map_or (aged_of v delays at) (forward_at v n) None

-- the trace ends at the point, on a bus of which something is known
abbrev pub ends_here : Vehicle → Point → Bool
ends_here v p = option_map_or (λ (timing : Timing). option_map_or (λ (n : ℕ). false) (next_forward v p) true) (timing_on v.buses.items p.at.bus) false

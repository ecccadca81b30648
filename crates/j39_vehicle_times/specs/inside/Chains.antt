-- Chains of direct forwards, by the places of these.
use Rattle.std.specs.Prelude.{ℕ, Bool, false, ◌&&◌, Option}
use Rattle.std.specs.List.{position}
use Rattle.std.specs.Option.{option_and_then, option_map_or}
use Rattle.j39_vehicle.specs.declared.vehicle.Vehicle.{Vehicle}
use Rattle.j39_vehicle_findings.specs.ForwardTests.{feeds, is_direct}
use Rattle.j39_vehicle_findings.specs.declared.point.FlowAt.{FlowAt}
use Rattle.j39_vehicle_times.specs.declared.bus_delays.Delays.{Delays}
use Rattle.j39_vehicle_times.specs.Times.{first_input_at, forward_at, own, sum_known, within_of}

-- the forward at a place is direct
abbrev pub is_direct_at : Vehicle → ℕ → Bool
is_direct_at v n = option_map_or is_direct (forward_at v n) false

-- where the first direct forward stands that feeds the flow
abbrev pub direct_place : Vehicle → FlowAt → Option ℕ
direct_place v at = position (λ n. feeds v at n && is_direct n) v.forwards.items

-- how long the forward at a place takes, and what it sends until that has ended
abbrev pub hop_by : Vehicle → Delays → ℕ → FlowAt → Option ℕ
hop_by v delays n at = option_and_then (λ forward. sum_known (within_of forward) (own v delays at)) (forward_at v n)

-- the first input of the forward at a place
abbrev pub input_by : Vehicle → ℕ → Option FlowAt
input_by v n = option_and_then (first_input_at v) (forward_at v n)

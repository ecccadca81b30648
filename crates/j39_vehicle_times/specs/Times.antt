-- How long what gateways send on takes, and how old values are that it brings, in microseconds of true time (data age: AUTOSAR Timing
-- Extensions). What misses a part, or has no end, is unknown; and so is all of a flow of a bus of whose timing nothing is known.
use Rattle.std.specs.Prelude.{ℕ, zero, suc, ◌+◌, ◌-◌, ◌*◌, List, length, if◌then◌else◌, ◌&&◌, ◌==◌, Option, Some, None}
use Rattle.std.specs.Int.{div_ceil}
use Rattle.std.specs.List.{slice_get, position}
use Rattle.std.specs.Option.{option_and_then, option_map, option_map_or}
use Rattle.j39_network.specs.declared.plan.flow_plan.FlowPlan.{FlowPlan}
use Rattle.j39_network.specs.declared.plan.pace.Pace.{Pace}
use Rattle.j39_network.specs.declared.plan.timing.Timing.{Timing}
use Rattle.j39_load.specs.AnswerStreams.{answered_within, askers_of}
use Rattle.j39_load.specs.BusTimes.{timing_of}
use Rattle.j39_load.specs.Clocks.{longest_million, million, shortest_million}
use Rattle.j39_load.specs.Loads.{bits_at_most, us_of_bits}
use Rattle.j39_load.specs.declared.waits.delay.Delay.{Delay}
use Rattle.j39_load.specs.declared.waits.delay.Delay.TheVariants.{Within}
use Rattle.j39_vehicle.specs.declared.vehicle.Vehicle.{Vehicle}
use Rattle.j39_vehicle.specs.declared.vehicle.bus_plan.BusPlan.{BusPlan}
use Rattle.j39_vehicle.specs.declared.vehicle.forward.Forward.{Forward}
use Rattle.j39_vehicle_findings.specs.Buses.{flows_on}
use Rattle.j39_vehicle_findings.specs.ForwardTests.{feeds, is_direct}
use Rattle.j39_vehicle_findings.specs.Traces.{first_input, goes_on, next_forward}
use Rattle.j39_vehicle_findings.specs.declared.point.FlowAt.{FlowAt}
use Rattle.j39_vehicle_findings.specs.declared.point.Point.{Point}
use Rattle.j39_vehicle_times.specs.BusDelays.{delays_on}
use Rattle.j39_vehicle_times.specs.declared.bus_delays.Delays.{Delays}

-- ---- numbers

-- how many microseconds so many milliseconds are
abbrev pub us_of_ms : ℕ → ℕ
us_of_ms ms = 1000 * ms

abbrev pub sum_known : Option ℕ → Option ℕ → Option ℕ
sum_known None b = None
sum_known (Some a) None = None
sum_known (Some a) (Some b) = Some (a + b)

-- ---- one flow

-- of the bus at a place, where its plan has it
abbrev pub timing_on : List BusPlan → ℕ → Option Timing
timing_on buses b = option_and_then (λ (bus : BusPlan). timing_of bus.plan) (slice_get buses b)

-- what a million of a clock's units last there at most, in true time, and at least: where nothing is known of the bus, as if its clocks agreed
abbrev pub longest_on : List BusPlan → ℕ → ℕ
longest_on buses b = option_map_or longest_million (timing_on buses b) million

abbrev pub shortest_on : List BusPlan → ℕ → ℕ
shortest_on buses b = option_map_or shortest_million (timing_on buses b) million

abbrev pub flow_at : List BusPlan → FlowAt → Option FlowPlan
flow_at buses at = slice_get (flows_on buses at.bus) at.flow

-- what is reported of a flow, where something is known of its bus
abbrev pub timed : Vehicle → FlowAt → (Timing → FlowPlan → Option ℕ) → Option ℕ
timed v at f = option_and_then (λ timing. option_and_then (f timing) (flow_at v.buses.items at)) (timing_on v.buses.items at.bus)

abbrev pub jitter_ms : FlowPlan → ℕ
jitter_ms flow = option_map_or (λ (pace : Pace). pace.jitter) flow.pace 0

-- how many requests that have a period ask for a flow of the bus at a place that comes only as an answer
abbrev pub askers_on : List BusPlan → ℕ → FlowPlan → ℕ
askers_on buses b flow = option_map_or (λ (bus : BusPlan). askers_of bus.plan.requests.items flow) (slice_get buses b) 0

-- within so many milliseconds of its moment a message is queued, where so many ask for its flow: the moment of an answer is that of its request
abbrev pub latest_ms : ℕ → FlowPlan → ℕ
latest_ms askers flow = if askers == 0 then jitter_ms flow else option_map_or answered_within flow.pace 0

-- a delay in bits, where it is reported so
abbrev pub bits_within : Option Delay → Option ℕ
bits_within (Some (Within bits)) = Some bits
bits_within _ = None

abbrev pub delay_at : Delays → FlowAt → Option ℕ
delay_at delays at = option_and_then bits_within (slice_get (delays_on delays at.bus) at.flow)

-- how long a frame takes that was queued: its delay counts from the release of the message, and it was queued within the jitter behind this
abbrev pub own_of : Timing → FlowPlan → ℕ → ℕ
own_of timing flow delay = us_of_bits timing (delay - bits_at_most timing (jitter_ms flow))

abbrev pub own : Vehicle → Delays → FlowAt → Option ℕ
own v delays at = timed v at (λ timing flow. option_map (own_of timing flow) (delay_at delays at))

-- ---- one forward

abbrev pub forward_at : Vehicle → ℕ → Option Forward
forward_at v n = slice_get v.forwards.items n

-- the first direct forward that feeds the flow
abbrev pub direct_feeder : Vehicle → FlowAt → Option Forward
direct_feeder v at = option_and_then (forward_at v) (position (λ n. feeds v at n && is_direct n) v.forwards.items)

-- its first input
abbrev pub first_input_at : Vehicle → Forward → Option FlowAt
first_input_at v n = option_map (λ flow. record { bus = n.input.bus; flow = flow }) (first_input v n)

abbrev pub within_of : Forward → Option ℕ
within_of n = option_map us_of_ms n.within

-- ---- from the release of a message until it has ended

-- where its delay has so many bits, which count from its release: an answer's moment lies before this
abbrev pub behind_of : Timing → ℕ → FlowPlan → ℕ → ℕ
behind_of timing askers flow delay = us_of_bits timing (delay + (bits_at_most timing (latest_ms askers flow) - bits_at_most timing (jitter_ms flow)))

-- of a flow that has moments of its own
abbrev pub behind_release : Vehicle → Delays → FlowAt → Option ℕ
behind_release v delays at = timed v at (λ timing flow. option_map (behind_of timing (askers_on v.buses.items at.bus flow) flow) (delay_at delays at))

-- until a forward has queued what it sends, where that which it heard took so long
abbrev pub queued_behind : Vehicle → Forward → (FlowAt → Option ℕ) → Option ℕ
queued_behind v n behind_at = sum_known (option_and_then behind_at (first_input_at v n)) (within_of n)

-- of any flow, where so many direct forwards come one after another at most
unfoldable pub behind_by : Vehicle → Delays → ℕ → FlowAt → Option ℕ
behind_by v delays zero at = option_map_or (λ n. None) (direct_feeder v at) (behind_release v delays at)
behind_by v delays (suc steps) at =
    option_map_or (λ n. sum_known (queued_behind v n (behind_by v delays steps)) (own v delays at)) (direct_feeder v at) (behind_release v delays at)

-- no more of them do than there are, unless they go round in a circle
abbrev pub behind_at : Vehicle → Delays → FlowAt → Option ℕ
behind_at v delays at = behind_by v delays (length v.forwards.items) at

abbrev pub queued_of : Vehicle → Delays → Forward → Option ℕ
queued_of v delays n = queued_behind v n (behind_at v delays)

abbrev pub queued : Vehicle → Delays → ℕ → Option ℕ
queued v delays n = option_and_then (queued_of v delays) (forward_at v n)

-- ---- from one release to the next, in nanoseconds

-- the longest pause of a flow of a bus with this timing: its milliseconds are those of its unit's clock
abbrev pub pause_ns : Timing → FlowPlan → Option ℕ
pause_ns timing flow = option_map (λ (ms : ℕ). ms * longest_million timing) flow.pause

abbrev pub pause_on : Vehicle → FlowAt → FlowPlan → Option ℕ
pause_on v at flow = option_and_then (λ (timing : Timing). pause_ns timing flow) (timing_on v.buses.items at.bus)

-- a flow that isn't sent only where it is asked for, on a bus of which something is known
abbrev pub unasked_at : Vehicle → FlowAt → Option FlowPlan
unasked_at v at = option_and_then (λ (timing : Timing). option_and_then (λ (flow : FlowPlan). if flow.on_request then None else Some flow)
    (flow_at v.buses.items at)) (timing_on v.buses.items at.bus)

unfoldable pub interval_by : Vehicle → ℕ → FlowAt → Option ℕ
interval_by v zero at = option_and_then (λ flow. option_map_or (λ n. None) (direct_feeder v at) (pause_on v at flow)) (unasked_at v at)
interval_by v (suc steps) at =
    option_and_then (λ flow. option_map_or (λ n. option_and_then (interval_by v steps) (first_input_at v n)) (direct_feeder v at) (pause_on v at flow)) (unasked_at v at)

abbrev pub interval : Vehicle → FlowAt → Option ℕ
interval v at = interval_by v (length v.forwards.items) at

-- in microseconds
abbrev pub interval_us : Vehicle → FlowAt → Option ℕ
interval_us v at = option_map (λ (ns : ℕ). div_ceil ns 1000) (interval v at)

-- ---- ages

-- where a message is received whose value was so old at its release
abbrev pub age_with : Vehicle → Delays → FlowAt → Option ℕ → Option ℕ
age_with v delays at old = sum_known old (sum_known (interval_us v at) (behind_at v delays at))

-- at the release of what a forward sends of a point: of a direct one as old as it was at that of what it heard; of a periodic one as old as it
-- may have grown where it was heard, and waited
abbrev pub old_behind : Vehicle → Delays → ℕ → FlowAt → Option ℕ → Option ℕ
old_behind v delays n at old =
    option_map_or (λ forward. if is_direct forward then old else sum_known (age_with v delays at old) (within_of forward)) (forward_at v n) None

-- how old a value is at the release of the message that brings it, where its trace goes on so many times at most
unfoldable pub old_by : Vehicle → Delays → ℕ → Point → Option ℕ
old_by v delays zero p = option_and_then (λ (timing : Timing). option_map_or (λ n. None) (next_forward v p) (Some 0)) (timing_on v.buses.items p.at.bus)
old_by v delays (suc steps) p = option_and_then (λ (timing : Timing).
    option_map_or (λ n. option_and_then (λ (q : Point). old_behind v delays n q.at (old_by v delays steps q)) (goes_on v p n)) (next_forward v p) (Some 0))
    (timing_on v.buses.items p.at.bus)

abbrev pub old : Vehicle → Delays → Point → Option ℕ
old v delays p = old_by v delays (length v.forwards.items) p

abbrev pub age : Vehicle → Delays → Point → Option ℕ
age v delays p = age_with v delays p.at (old v delays p)

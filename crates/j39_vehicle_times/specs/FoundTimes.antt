-- The findings of times as a list: a test for each statement, and the list of all that pass; and of the flows of a need the one that is reported.
use Rattle.std.specs.Prelude.{ℕ, ◌*◌, List, [], ◌∷◌, ◌++◌, length, Bool, true, false, not, ◌&&◌, ◌||◌, nat_lt, nat_le, max, if◌then◌else◌, Option, Some, None}
use Rattle.std.specs.List.{slice_get}
use Rattle.std.specs.Option.{option_and_then, option_map, option_map_or}
use Rattle.j39_search.specs.ListPlaces.{each, found_if, in_each}
use Rattle.j39_network.specs.declared.plan.flow_plan.FlowPlan.{FlowPlan}
use Rattle.j39_network.specs.declared.plan.group_plan.GroupPlan.{GroupPlan}
use Rattle.j39_network.specs.declared.plan.timing.Timing.{Timing}
use Rattle.j39_network.specs.declared.plan.to.To.{To}
use Rattle.j39_network.specs.declared.plan.to.To.TheVariants.{All, One}
use Rattle.j39_vehicle.specs.declared.vehicle.Vehicle.{Vehicle}
use Rattle.j39_vehicle.specs.declared.vehicle.bus_plan.BusPlan.{BusPlan}
use Rattle.j39_vehicle.specs.declared.vehicle.forward.Forward.{Forward}
use Rattle.j39_vehicle.specs.declared.vehicle.vehicle_need.VehicleNeed.{VehicleNeed}
use Rattle.j39_vehicle_findings.specs.Buses.{groups_on}
use Rattle.j39_vehicle_findings.specs.ForwardTests.{is_direct}
use Rattle.j39_vehicle_findings.specs.FoundPaths.{is_need_flow}
use Rattle.j39_vehicle_findings.specs.Traces.{flows_of_need, point_on}
use Rattle.j39_vehicle_findings.specs.declared.point.FlowAt.{FlowAt}
use Rattle.j39_vehicle_times.specs.declared.bus_delays.Delays.{Delays}
use Rattle.j39_vehicle_times.specs.declared.ends.Ends.{Ends}
use Rattle.j39_vehicle_times.specs.declared.finding.TimeFinding.{TimeFinding}
use Rattle.j39_vehicle_times.specs.declared.finding.TimeFinding.TheVariants.{TooOften, TooLate, TooRare, NeedTooOld}
use Rattle.j39_vehicle_times.specs.declared.needs.NeedFlow.{NeedFlow}
use Rattle.j39_vehicle_times.specs.TimeFindings.{written_deadline, first_output, period_ms}
use Rattle.j39_vehicle_times.specs.Times.{age, askers_on, flow_at, forward_at, first_input_at, latest_ms, queued_of, interval, longest_on, shortest_on, timing_on}
use Rattle.j39_vehicle_times.specs.Times.{us_of_ms}

abbrev pub is_known_within : ℕ → Option ℕ → Bool
is_known_within most number = option_map_or (λ n. nat_le n most) number false

-- ---- direct forwards

-- the first input and the first output, where there are both
abbrev pub ends_of : Vehicle → Forward → Option Ends
ends_of v n = option_and_then (λ at. option_and_then (λ i. option_map (λ f. record { at = at; input = i; output = f }) (first_output v n))
    (flow_at v.buses.items at)) (first_input_at v n)

abbrev pub is_timed_bus : Vehicle → ℕ → Bool
is_timed_bus v b = option_map_or (λ (timing : Timing). true) (timing_on v.buses.items b) false

-- those of a direct forward to a bus of whose timing something is known
abbrev pub direct_ends : Vehicle → Forward → Option Ends
direct_ends v n = if is_direct n && is_timed_bus v n.output.bus then ends_of v n else None

abbrev pub has_such_a_period : ℕ → FlowPlan → ℕ → Bool
has_such_a_period here i apart = option_map_or (λ q. nat_le apart (q * here)) (period_ms i) false

abbrev pub is_nearer : ℕ → FlowPlan → ℕ → FlowPlan → Bool
is_nearer here i there f = option_map_or (λ p. not (has_such_a_period here i (p * there))) (period_ms f) false

abbrev pub is_more_often : ℕ → FlowPlan → ℕ → FlowPlan → Bool
is_more_often here i there f = is_nearer here i there f || (f.on_request && not i.on_request)

-- more answers of the input may come at once than are counted of the output, where so many ask for either
abbrev pub may_be_more : ℕ → ℕ → FlowPlan → Bool
may_be_more here there f = option_map_or (λ (p : ℕ). nat_lt (max 1 there) here) (period_ms f) false

abbrev pub comes_too_often : List BusPlan → ℕ → ℕ → FlowPlan → FlowPlan → Bool
comes_too_often buses a b i f =
    is_more_often (shortest_on buses a) i (shortest_on buses b) f || may_be_more (askers_on buses a i) (askers_on buses b f) f

abbrev pub is_too_often : Vehicle → Forward → Bool
is_too_often v n = option_map_or (λ (ends : Ends). comes_too_often v.buses.items ends.at.bus n.output.bus ends.input ends.output) (direct_ends v n) false

abbrev pub goes_to_all : To → Bool
goes_to_all All = true
goes_to_all (One v) = false

abbrev pub has_deadline : FlowPlan → Bool
has_deadline f = option_map_or (λ (ms : ℕ). true) (written_deadline f) false

abbrev pub is_long : List GroupPlan → ℕ → Bool
is_long groups g = option_map_or (λ (group : GroupPlan). nat_lt 8 group.length) (slice_get groups g) false

abbrev pub is_unlimited : Vehicle → Forward → FlowPlan → Bool
is_unlimited v n f = goes_to_all f.to && (not (has_deadline f) && is_long (groups_on v.buses.items n.output.bus) f.group)

abbrev pub is_asked : Vehicle → Forward → FlowPlan → Bool
is_asked v n f = not (is_unlimited v n f)

abbrev pub is_late_asked_of : Vehicle → Forward → Bool
is_late_asked_of v n = option_map_or (λ (ends : Ends). is_asked v n ends.output) (direct_ends v n) false

abbrev pub is_late_asked : Vehicle → ℕ → Bool
is_late_asked v n = option_map_or (is_late_asked_of v) (forward_at v n) false

abbrev pub is_later : Vehicle → Delays → Forward → FlowPlan → Bool
is_later v delays n f =
    is_asked v n f && not (is_known_within (us_of_ms (latest_ms (askers_on v.buses.items n.output.bus f) f)) (queued_of v delays n))

abbrev pub is_too_late : Vehicle → Delays → Forward → Bool
is_too_late v delays n = option_map_or (λ (ends : Ends). is_later v delays n ends.output) (direct_ends v n) false

abbrev pub is_rarer : Vehicle → FlowAt → ℕ → FlowPlan → Bool
is_rarer v at there f = option_map_or (λ ms. not (is_known_within (ms * there) (interval v at))) f.pause false

abbrev pub is_too_rare : Vehicle → Forward → Bool
is_too_rare v n = option_map_or (λ (ends : Ends). is_rarer v ends.at (longest_on v.buses.items n.output.bus) ends.output) (direct_ends v n) false

-- ---- needs

-- the flow of a need at a place
abbrev pub need_flow_at : Vehicle → Delays → VehicleNeed → ℕ → NeedFlow
need_flow_at v delays d f = record { flow = f; age = age v delays (point_on d.unit.bus f d.signal) }

abbrev pub need_flows_at : Vehicle → Delays → VehicleNeed → ℕ → FlowPlan → List NeedFlow
need_flows_at v delays d f flow = found_if (is_need_flow v d f flow) (need_flow_at v delays d f)

-- the first age is known, and less than the second, if that is known
abbrev pub is_younger : Option ℕ → Option ℕ → Bool
is_younger None b = false
is_younger (Some a) b = option_map_or (λ n. nat_lt a n) b true

abbrev pub younger_of : NeedFlow → NeedFlow → NeedFlow
younger_of x y = if is_younger y.age x.age then y else x

abbrev pub joined : Option NeedFlow → Option NeedFlow → Option NeedFlow
joined None b = b
joined (Some a) None = Some a
joined (Some a) (Some b) = Some (younger_of a b)

-- the first one of the least age, else the first
abbrev pub youngest : List NeedFlow → Option NeedFlow
youngest [] = None
youngest (x ∷ xs) = joined (Some x) (youngest xs)

abbrev pub flow_of_need : Vehicle → Delays → VehicleNeed → Option NeedFlow
flow_of_need v delays d = youngest (in_each (need_flows_at v delays d) 0 (flows_of_need v d))

-- the place of a flow, where it is one of the need's
abbrev pub need_places_at : Vehicle → VehicleNeed → ℕ → FlowPlan → List ℕ
need_places_at v d f flow = found_if (is_need_flow v d f flow) f

-- how many flows bring what is needed
abbrev pub need_flow_count : Vehicle → VehicleNeed → ℕ
need_flow_count v d = length (in_each (need_places_at v d) 0 (flows_of_need v d))

abbrev pub is_older : Vehicle → Delays → VehicleNeed → ℕ → Bool
is_older v delays d ms = option_map_or (λ (stated : NeedFlow). not (is_known_within (us_of_ms ms) stated.age)) (flow_of_need v delays d) false

abbrev pub is_need_too_old : Vehicle → Delays → VehicleNeed → Bool
is_need_too_old v delays d = option_map_or (is_older v delays d) d.within false

-- ---- the whole list

unfoldable pub forward_time_findings : Vehicle → Delays → List TimeFinding
forward_time_findings v delays = each (is_too_often v) TooOften 0 v.forwards.items
    ++ (each (is_too_late v delays) TooLate 0 v.forwards.items ++ each (is_too_rare v) TooRare 0 v.forwards.items)

unfoldable pub need_time_findings : Vehicle → Delays → List TimeFinding
need_time_findings v delays = each (is_need_too_old v delays) NeedTooOld 0 v.needs.items

-- all that is wrong with the times of the vehicle
unfoldable pub time_findings : Vehicle → Delays → List TimeFinding
time_findings v delays = forward_time_findings v delays ++ need_time_findings v delays

-- The lines of needs.
use Rattle.std.specs.Prelude.{ℕ, zero, suc, nat_lt, if◌then◌else◌, List, [], ◌∷◌, ◌++◌, codes, length, Option, Some, None}
use Rattle.std.specs.Option.{option_map_or}
use Rattle.j39_network.specs.declared.plan.flow_plan.FlowPlan.{FlowPlan}
use Rattle.j39_text.specs.Texts.{field, place_field}
use Rattle.j39_load.specs.LineLists.{lines_of_each}
use Rattle.j39_vehicle.specs.declared.vehicle.Vehicle.{Vehicle}
use Rattle.j39_vehicle.specs.declared.vehicle.places.GroupAt.{GroupAt}
use Rattle.j39_vehicle.specs.declared.vehicle.vehicle_need.VehicleNeed.{VehicleNeed}
use Rattle.j39_vehicle_findings.specs.Traces.{goes_on, next_forward, origin, point_on}
use Rattle.j39_vehicle_findings.specs.declared.point.FlowAt.{FlowAt}
use Rattle.j39_vehicle_findings.specs.declared.point.Point.{Point}
use Rattle.j39_vehicle_times.specs.declared.bus_delays.Delays.{Delays}
use Rattle.j39_vehicle_times.specs.declared.needs.NeedFlow.{NeedFlow}
use Rattle.j39_vehicle_times.specs.FoundTimes.{flow_of_need, need_flow_count}
use Rattle.j39_vehicle_times.specs.Times.{flow_at, us_of_ms}
use Rattle.j39_vehicle_text.specs.VehicleLabels.{group_label_at, signal_label_at, unit_text_at}

-- ---- what is needed

-- the signal that is meant, if one is
unfoldable pub meant_text : Vehicle → GroupAt → Option ℕ → List ℕ
meant_text v g signal = option_map_or (λ s. codes " " ++ signal_label_at v g s) signal []

-- a group, and the signal of it that is meant
unfoldable pub content_text : Vehicle → GroupAt → Option ℕ → List ℕ
content_text v g signal = codes " " ++ (group_label_at v g ++ meant_text v g signal)

abbrev pub group_on : ℕ → ℕ → GroupAt
group_on bus group = record { bus = bus; group = group }

-- who needs what from whom
unfoldable pub vehicle_need_text : Vehicle → ℕ → VehicleNeed → List ℕ
vehicle_need_text v place d = place_field (codes "need ") place ++ (unit_text_at (codes " ") v d.unit
    ++ (content_text v (group_on d.unit.bus d.group) d.signal ++ unit_text_at (codes " from ") v d.from))

-- ---- where it comes from

-- the group of the flow at a point
abbrev pub group_of_flow : Vehicle → FlowAt → ℕ
group_of_flow v at = option_map_or (λ (flow : FlowPlan). flow.group) (flow_at v.buses.items at) 0

unfoldable pub origin_content : Vehicle → Point → List ℕ
origin_content v p = content_text v (group_on p.at.bus (group_of_flow v p.at)) p.signal

-- what the origin sends
unfoldable pub origin_text : Vehicle → Point → List ℕ
origin_text v p = option_map_or (origin_content v) (origin v p) []

-- the forwards by which the trace goes on, from the flow back, where it does so many times at most
unfoldable pub way_by : Vehicle → ℕ → Point → List ℕ
way_by v zero p = []
way_by v (suc steps) p = option_map_or (λ n. n ∷ option_map_or (way_by v steps) (goes_on v p n) []) (next_forward v p) []

abbrev pub way_back : Vehicle → Point → List ℕ
way_back v p = way_by v (length v.forwards.items) p

-- these, the last one first
unfoldable pub back_text : List ℕ → List ℕ
back_text [] = []
back_text (n ∷ ns) = back_text ns ++ place_field (codes " ") n

-- by which forwards it comes, from the origin on, where there are any
unfoldable pub reported_way_text : List ℕ → List ℕ
reported_way_text [] = []
reported_way_text (n ∷ ns) = codes " by" ++ back_text (n ∷ ns)

-- ---- how old it is

-- how old it may be
unfoldable pub limit_text : Option ℕ → List ℕ
limit_text within = option_map_or (λ ms. field (codes " of ") (us_of_ms ms)) within []

-- how old it is at most, of how old it may be; or that this isn't known, where it is asked
unfoldable pub need_age_text : Option ℕ → Option ℕ → List ℕ
need_age_text (Some age) within = field (codes " age ") age ++ (limit_text within ++ codes " us")
need_age_text None (Some ms) = codes " old" ++ (limit_text (Some ms) ++ codes " us")
need_age_text None None = []

-- which flow's age it is, where several meet the need
unfoldable pub reported_flow_text : Vehicle → VehicleNeed → ℕ → Option ℕ → List ℕ
reported_flow_text v d flow (Some age) = if nat_lt 1 (need_flow_count v d) then place_field (codes " flow ") flow else []
reported_flow_text v d flow None = []

-- ---- the line

-- of the flow that meets the need what its origin sends, by which forwards, how old it is, and which flow it is, where several meet the need
unfoldable pub reported_text : Vehicle → VehicleNeed → NeedFlow → List ℕ
reported_text v d stated = let p = point_on d.unit.bus stated.flow d.signal in
    origin_text v p ++ (reported_way_text (way_back v p) ++ (need_age_text stated.age d.within ++ reported_flow_text v d stated.flow stated.age))

unfoldable pub met_text : Vehicle → VehicleNeed → Option NeedFlow → List ℕ
met_text v d (Some stated) = reported_text v d stated
met_text v d None = codes " unmet"

unfoldable pub vehicle_need_line : Vehicle → Delays → ℕ → VehicleNeed → List ℕ
vehicle_need_line v delays place d = vehicle_need_text v place d ++ (met_text v d (flow_of_need v delays d) ++ 10 ∷ [])

abbrev pub vehicle_need_lines : Vehicle → Delays → List ℕ
vehicle_need_lines v delays = lines_of_each (vehicle_need_line v delays) 0 v.needs.items

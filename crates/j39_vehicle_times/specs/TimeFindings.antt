-- What can be wrong with the times of what a vehicle's gateways send on: each finding as a plain statement on its forwards and needs, by their
-- places from 0.
use Rattle.std.specs.Prelude.{◌≡◌, ℕ, ◌*◌, ◌<◌, ◌≤◌, ◌⊎◌, max, List, [], ◌∷◌, Option, Some, None, true, false, Contains, AllPairs}
use Rattle.std.specs.List.{slice_get, position}
use Rattle.std.specs.Option.{option_and_then, option_map}
use Rattle.j39_search.specs.ListPlaces.{ValueAt}
use Rattle.j39_search.specs.Order.{ComesBefore}
use Rattle.j39_network.specs.declared.plan.flow_plan.FlowPlan.{FlowPlan}
use Rattle.j39_network.specs.declared.plan.group_plan.GroupPlan.{GroupPlan}
use Rattle.j39_network.specs.declared.plan.pace.Pace.{Pace}
use Rattle.j39_network.specs.declared.plan.to.To.TheVariants.{All}
use Rattle.j39_vehicle.specs.declared.vehicle.Vehicle.{Vehicle}
use Rattle.j39_vehicle.specs.declared.vehicle.bus_plan.BusPlan.{BusPlan}
use Rattle.j39_vehicle.specs.declared.vehicle.forward.Forward.{Forward}
use Rattle.j39_vehicle.specs.declared.vehicle.vehicle_need.VehicleNeed.{VehicleNeed}
use Rattle.j39_vehicle_findings.specs.Buses.{groups_on}
use Rattle.j39_vehicle_findings.specs.ForwardEnds.{IsDirect, output_flows}
use Rattle.j39_vehicle_findings.specs.ForwardTests.{is_output}
use Rattle.j39_vehicle_findings.specs.Traces.{IsNeedFlow, flows_of_need, point_on}
use Rattle.j39_vehicle_times.specs.declared.bus_delays.Delays.{Delays}
use Rattle.j39_vehicle_times.specs.declared.ends.Ends.{Ends}
use Rattle.j39_vehicle_times.specs.declared.finding.TimeFinding.{TimeFinding}
use Rattle.j39_vehicle_times.specs.declared.finding.TimeFinding.TheVariants.{TooOften, TooLate, TooRare, NeedTooOld}
use Rattle.j39_vehicle_times.specs.Times.{age, askers_on, flow_at, first_input_at, latest_ms, queued_of, interval, longest_on, shortest_on, timing_on, us_of_ms}

-- a number is known, and at most so large
abbrev pub IsKnownWithin : ℕ → Option ℕ → Type 0
IsKnownWithin most number = (n : ℕ) × (number ≡ Some n) × (n ≤ most)

-- ---- direct forwards

abbrev pub first_output : Vehicle → Forward → Option FlowPlan
first_output v n = option_and_then (slice_get (output_flows v n)) (position (is_output n) (output_flows v n))

-- a direct forward to a bus of whose timing something is known, with its first input and its first output
pub record IsDirectBetween (v : Vehicle) (n : Forward) (R : Ends → Type 0) : Type 0 where
  pub direct : IsDirect n
  pub timing : ¬ (timing_on v.buses.items n.output.bus ≡ None)
  pub ends : Ends
  pub at : first_input_at v n ≡ Some ends.at
  pub input : flow_at v.buses.items ends.at ≡ Some ends.input
  pub output : first_output v n ≡ Some ends.output
  pub related : R ends

abbrev pub period_ms : FlowPlan → Option ℕ
period_ms flow = option_map (λ (pace : Pace). pace.period) flow.pace

-- the input's messages needn't be as far apart as those of the output have to be, where a million of the units of the clocks there last so long
-- at least: both periods by the fastest clocks
abbrev pub IsNearer : ℕ → FlowPlan → ℕ → FlowPlan → Type 0
IsNearer here i there f = (p : ℕ) × (period_ms f ≡ Some p) × (¬ ((q : ℕ) × (period_ms i ≡ Some q) × (p * there ≤ q * here)))

-- the output has a period, and more answers of the input may come at once than are counted of it, where so many requests ask for either
abbrev pub MayBeMore : ℕ → ℕ → FlowPlan → Type 0
MayBeMore here there f = (p : ℕ) × (period_ms f ≡ Some p) × (max 1 there < here)

-- the input's messages come nearer to one another, or several at once, or these are sent only where they are asked for, and those aren't
abbrev pub ComesTooOften : List BusPlan → ℕ → ℕ → FlowPlan → FlowPlan → Type 0
ComesTooOften buses a b i f = (IsNearer (shortest_on buses a) i (shortest_on buses b) f ⊎ ((f.on_request ≡ true) × (i.on_request ≡ false)))
    ⊎ MayBeMore (askers_on buses a i) (askers_on buses b f) f

abbrev pub IsTooOften : Vehicle → Forward → Type 0
IsTooOften v n = IsDirectBetween v n (λ ends. ComesTooOften v.buses.items ends.at.bus n.output.bus ends.input ends.output)

abbrev pub written_deadline : FlowPlan → Option ℕ
written_deadline flow = option_and_then (λ (pace : Pace). pace.deadline) flow.pace

-- a flow to all that has no written deadline, and each of whose messages goes in packets (SAE J1939-21): nothing is asked of its jitter
pub record IsUnlimited (v : Vehicle) (n : Forward) (f : FlowPlan) : Type 0 where
  pub to : f.to ≡ All
  pub limit : written_deadline f ≡ None
  pub long : ValueAt (λ (group : GroupPlan). 8 < group.length) (groups_on v.buses.items n.output.bus) f.group

-- of any other the forward has to queue each message within the jitter, or within the time to answer
abbrev pub IsTooLate : Vehicle → Delays → Forward → Type 0
IsTooLate v delays n = IsDirectBetween v n (λ ends. (¬ IsUnlimited v n ends.output)
    × (¬ IsKnownWithin (us_of_ms (latest_ms (askers_on v.buses.items n.output.bus ends.output) ends.output)) (queued_of v delays n)))

-- a message of the output has its release in each of its pauses, and none of the input need have: both by the slowest clocks
abbrev pub IsTooRare : Vehicle → Forward → Type 0
IsTooRare v n = IsDirectBetween v n (λ ends.
    (ms : ℕ) × (ends.output.pause ≡ Some ms) × (¬ IsKnownWithin (ms * longest_on v.buses.items n.output.bus) (interval v ends.at)))

-- ---- needs

-- the flow at a place is one of the need's, and what it brings is at most so old
pub record IsYoungFlow (v : Vehicle) (delays : Delays) (d : VehicleNeed) (most f : ℕ) : Type 0 where
  pub flow : ValueAt (IsNeedFlow v d f) (flows_of_need v d) f
  pub age : IsKnownWithin most (age v delays (point_on d.unit.bus f d.signal))

-- it has flows, and none that is as young as it asks
pub record IsNeedTooOld (v : Vehicle) (delays : Delays) (d : VehicleNeed) : Type 0 where
  pub within : ℕ
  pub within_is : d.within ≡ Some within
  pub met : (f : ℕ) × ValueAt (IsNeedFlow v d f) (flows_of_need v d) f
  pub old : (f : ℕ) → ¬ IsYoungFlow v delays d (us_of_ms within) f

-- ---- the findings

-- what a finding says of a vehicle, where its buses have these delays
abbrev pub TimeHolds : Vehicle → Delays → TimeFinding → Type 0
TimeHolds v delays (TooOften n) = ValueAt (IsTooOften v) v.forwards.items n
TimeHolds v delays (TooLate n) = ValueAt (IsTooLate v delays) v.forwards.items n
TimeHolds v delays (TooRare n) = ValueAt (IsTooRare v) v.forwards.items n
TimeHolds v delays (NeedTooOld d) = ValueAt (IsNeedTooOld v delays) v.needs.items d

-- ---- their order

-- the number under which a finding is known
abbrev pub time_finding_number : TimeFinding → ℕ
time_finding_number (TooOften n) = 10
time_finding_number (TooLate n) = 11
time_finding_number (TooRare n) = 12
time_finding_number (NeedTooOld d) = 13

-- the places that it names
abbrev pub time_finding_places : TimeFinding → List ℕ
time_finding_places (TooOften n) = n ∷ []
time_finding_places (TooLate n) = n ∷ []
time_finding_places (TooRare n) = n ∷ []
time_finding_places (NeedTooOld d) = d ∷ []

-- all that is wrong with the times of the vehicle and nothing else, in order
pub record AreTimeFindings (v : Vehicle) (delays : Delays) (findings : List TimeFinding) : Type 0 where
  pub sound : (finding : TimeFinding) → Contains findings finding → TimeHolds v delays finding
  pub complete : (finding : TimeFinding) → TimeHolds v delays finding → Contains findings finding
  pub in_order : AllPairs (ComesBefore time_finding_number time_finding_places) findings

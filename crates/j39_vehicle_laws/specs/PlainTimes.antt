-- What it is good for that nothing is found in the times of direct forwards, in the words of plans and of a vehicle file.
use Rattle.std.specs.Prelude.{◌≡◌, ℕ, ◌*◌, ◌≤◌, true, false, Some}
use Rattle.std.specs.List.{slice_get}
use Rattle.j39_network.specs.declared.plan.flow_plan.FlowPlan.{FlowPlan}
use Rattle.j39_network.specs.declared.plan.pace.Pace.{Pace}
use Rattle.j39_network.specs.declared.plan.timing.Timing.{Timing}
use Rattle.j39_load.specs.Clocks.{bit_time}
use Rattle.j39_vehicle.specs.declared.vehicle.Vehicle.{Vehicle}
use Rattle.j39_vehicle.specs.declared.vehicle.forward.Forward.{Forward}
use Rattle.j39_vehicle.specs.declared.vehicle.forward.Mode.TheVariants.{Direct}
use Rattle.j39_vehicle_findings.specs.declared.point.FlowAt.{FlowAt}
use Rattle.j39_vehicle_findings.specs.declared.point.Point.{Point}
use Rattle.j39_vehicle_times.specs.TimeFindings.{first_output}
use Rattle.j39_vehicle_times.specs.Times.{age, askers_on, flow_at, first_input_at, latest_ms, queued_of, timing_on}
use Rattle.j39_vehicle_times.specs.declared.bus_delays.Delays.{Delays}
use Rattle.j39_vehicle_laws.specs.Seen.{longest_bit, of_us, shortest_bit}

-- the forward at a place sends messages of the one flow directly as messages of the other one, on a bus of whose timing something is known
pub record GoesDirectly (v : Vehicle) (place : ℕ) (n : Forward) (input output : FlowPlan) : Type 0 where
  pub its : slice_get v.forwards.items place ≡ Some n
  pub mode : n.mode ≡ Direct
  pub timing : Timing
  pub timed : timing_on v.buses.items n.output.bus ≡ Some timing
  pub at : FlowAt
  pub at_is : first_input_at v n ≡ Some at
  pub input_is : flow_at v.buses.items at ≡ Some input
  pub output_is : first_output v n ≡ Some output

-- what is planned to be sent only where it is asked for comes only where the origin's is asked for
abbrev pub AnswersStayAnswers : Vehicle → Type 0
AnswersStayAnswers v = (place : ℕ) (n : Forward) (input output : FlowPlan) → GoesDirectly v place n input output → output.on_request ≡ true
    → input.on_request ≡ true

-- what has a deadline is queued within the jitter of its flow, or within its time to answer, behind the release at its origin, also where it goes in packets
abbrev pub DeadlinesHaveRoom : Vehicle → Delays → Type 0
DeadlinesHaveRoom v delays = (place : ℕ) (n : Forward) (input output : FlowPlan) (pace : Pace) (deadline : ℕ) → GoesDirectly v place n input output
    → output.pace ≡ Some pace → pace.deadline ≡ Some deadline
    → (queued : ℕ) × (queued_of v delays n ≡ Some queued) × (queued ≤ 1000 * latest_ms (askers_on v.buses.items n.output.bus output) output)

-- ---- ages

-- what has an age isn't sent only where it is asked for
abbrev pub AgesAreUnasked : Vehicle → Delays → Type 0
AgesAreUnasked v delays = (p : Point) (most : ℕ) (flow : FlowPlan) → age v delays p ≡ Some most → flow_at v.buses.items p.at ≡ Some flow
    → flow.on_request ≡ false

-- ---- clocks

-- where the clocks of a bus agree with true time, each of its bits takes the time that it takes in the words of its plan
abbrev pub ClocksAreOfBitrates : Vehicle → Type 0
ClocksAreOfBitrates v = (b : ℕ) (timing : Timing) → timing_on v.buses.items b ≡ Some timing → timing.drift ≡ 0
    → (shortest_bit v b ≡ of_us (bit_time timing.bitrate)) × (longest_bit v b ≡ of_us (bit_time timing.bitrate))

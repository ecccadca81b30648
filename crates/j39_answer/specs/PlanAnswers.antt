-- All that is known of a plan: what is wrong with what it says and with what it asks of its bus, and how long its messages take.
use Rattle.std.specs.Prelude.{◌≡◌, ℕ, ◌==◌, ◌&&◌, ◌||◌, Bool, List, [], length, Option, Some, None}
use Rattle.std.specs.List.{list_all}
use Rattle.std.specs.Option.{option_map_or}
use Rattle.j39_findings.specs.Found.{found}
use Rattle.j39_findings.specs.declared.checking.finding.Finding.{Finding}
use Rattle.j39_network.specs.declared.plan.Plan.{Plan}
use Rattle.j39_network.specs.declared.plan.timing.Timing.{Timing}
use Rattle.j39_load.specs.BusTimes.{timing_of}
use Rattle.j39_load.specs.LoadAnswers.{IsLoadAnswer}
use Rattle.j39_load.specs.LoadFindings.{load_finding_number}
use Rattle.j39_load.specs.declared.findings.load_answer.LoadAnswer.{LoadAnswer}
use Rattle.j39_load.specs.declared.findings.load_finding.LoadFinding.{LoadFinding}
use Rattle.j39_load.specs.declared.waits.delay.Delay.{Delay}
use Rattle.j39_answer.specs.declared.plan_answer.PlanAnswer.{PlanAnswer}

-- this is known of what a plan asks of its bus: nothing where nothing is known of the bus
abbrev pub IsBusAnswer : Plan → Option Timing → Option LoadAnswer → Type 0
IsBusAnswer plan None None = Unit {0}
IsBusAnswer plan None (Some load) = ⊥
IsBusAnswer plan (Some timing) None = ⊥
IsBusAnswer plan (Some timing) (Some load) = IsLoadAnswer plan timing load × (length load.delays.items ≡ length plan.flows.items)

-- this is known of a plan
pub record IsPlanAnswer (plan : Plan) (answer : PlanAnswer) : Type 0 where
  pub listed : answer.findings.items ≡ found plan
  pub bus : IsBusAnswer plan (timing_of plan) answer.load

-- what is wrong with what it asks of its bus
abbrev pub load_findings_in : PlanAnswer → List LoadFinding
load_findings_in answer = option_map_or (λ (load : LoadAnswer). load.findings.items) answer.load []

-- the delay of each of its flows, in order
abbrev pub delays_in : PlanAnswer → List (Option Delay)
delays_in answer = option_map_or (λ (load : LoadAnswer). load.delays.items) answer.load []

-- a bus that is too full, a late flow, an old need: F17, F18 and F20
abbrev pub is_of_times : ℕ → Bool
is_of_times number = number == 17 || (number == 18 || number == 20)

-- each finding is one of these
abbrev pub are_of_times : List Finding → List LoadFinding → Bool
are_of_times findings others = length findings == 0 && list_all (λ finding. is_of_times (load_finding_number finding)) others

-- Which flows are asked for too often, by the requests that come in a time.
use Rattle.std.specs.Prelude.{◌≡◌, ℕ, ◌+◌, ◌*◌, ◌/◌, ◌<◌, ◌≤◌, ◌↔◌, List, [], ◌∷◌, Contains, true, Some}
use Rattle.std.specs.List.{slice_get}
use Rattle.j39_network.specs.declared.plan.Plan.{Plan}
use Rattle.j39_network.specs.declared.plan.flow_plan.FlowPlan.{FlowPlan}
use Rattle.j39_network.specs.declared.plan.pace.Pace.{Pace}
use Rattle.j39_network.specs.declared.plan.request_plan.RequestPlan.{RequestPlan}
use Rattle.j39_network.specs.declared.plan.timing.Timing.{Timing}
use Rattle.j39_load.specs.AskedFlows.{asking_periods}
use Rattle.j39_load.specs.LoadFindings.{AreLoadFindings}
use Rattle.j39_load.specs.declared.findings.load_finding.LoadFinding.{LoadFinding}
use Rattle.j39_load.specs.declared.findings.load_finding.LoadFinding.TheVariants.{AskedTooOften}

-- a time is a whole number of each of these periods
abbrev pub IsCommonTime : ℕ → List ℕ → Type 0
IsCommonTime time [] = Unit {0}
IsCommonTime time (every ∷ periods) = ((n : ℕ) × (time ≡ n * every)) × IsCommonTime time periods

-- so often requests of these periods ask in that time
abbrev pub asked_within : ℕ → List ℕ → ℕ
asked_within time [] = 0
asked_within time (every ∷ periods) = time / every + asked_within time periods

-- the flow comes only as an answer, and in each time that is a whole number of the requests' periods more is asked than it has periods
pub record IsAskedMore (requests : List RequestPlan) (flow : FlowPlan) : Type 0 where
  pub pace : Pace
  pub paced : flow.pace ≡ Some pace
  pub answers : flow.on_request ≡ true
  pub more : (time : ℕ) → 1 ≤ time → IsCommonTime time (asking_periods requests flow) → time < pace.period * asked_within time (asking_periods requests flow)

-- exactly these flows are reported
abbrev pub AreAskedMore : Plan → Timing → Type 0
AreAskedMore plan timing = (findings : List LoadFinding) → AreLoadFindings plan (Some timing) findings → (f : ℕ) (flow : FlowPlan)
    → slice_get plan.flows.items f ≡ Some flow → Contains findings (AskedTooOften f) ↔ IsAskedMore plan.requests.items flow

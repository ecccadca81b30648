-- What is written of the plans of a vehicle's buses.
use Rattle.std.specs.Prelude.{◌≡◌, ℕ, ◌+◌, Bool, true, ◌&&◌, List, [], ◌∷◌, ◌++◌, length, Option, Some, None}
use Rattle.std.specs.Bool.{MatchBool}
use Rattle.j39_findings.specs.Found.{found}
use Rattle.j39_findings.specs.Standing.{DecidesWhoStays}
use Rattle.j39_network.specs.declared.plan.Plan.{Plan}
use Rattle.j39_network.specs.declared.plan.timing.Timing.{Timing}
use Rattle.j39_network.specs.declared.plan.unit_plan.UnitPlan.{UnitPlan}
use Rattle.j39_load.specs.Asked.{asked_of}
use Rattle.j39_load.specs.BusTimes.{timing_of}
use Rattle.j39_load.specs.LoadFindings.{AreLoadFindings}
use Rattle.j39_load.specs.declared.findings.load_finding.LoadFinding.{LoadFinding}
use Rattle.j39_plan_text.specs.CheckText.{IsReport}
use Rattle.j39_answer.specs.PlanAnswers.{are_of_times}
use Rattle.j39_plan_text.specs.LoadLines.{load_line}
use Rattle.j39_stream.specs.declared.verdict.Verdict.{Verdict}
use Rattle.j39_vehicle.specs.declared.vehicle.bus_plan.BusPlan.{BusPlan}
use Rattle.j39_vehicle_text.specs.VehicleFileText.{bus_line}

-- the last line of load, where something is known of the bus
abbrev pub IsLoadOf : Plan → Option Timing → List ℕ → Type 0
IsLoadOf plan None text = text ≡ []
IsLoadOf plan (Some timing) text = (stays : UnitPlan → Bool) × DecidesWhoStays plan stays × (text ≡ load_line timing (asked_of timing plan stays))

-- where it is to be reported
abbrev pub IsLoadWhere : Bool → Plan → List ℕ → Type 0
IsLoadWhere is_stated plan text = MatchBool is_stated (IsLoadOf plan (timing_of plan) text) (text ≡ [])

-- this is written of a bus, with whose plan's load these are wrong: the bus, what check writes of its plan, and, where each finding is one of
-- times, how full the bus is
pub record IsBlock (bus : BusPlan) (others : List LoadFinding) (text : List ℕ) : Type 0 where
  pub wrong : AreLoadFindings bus.plan (timing_of bus.plan) others
  pub check : List ℕ
  pub verdict : Verdict
  pub check_is : IsReport bus.plan check verdict
  pub load : List ℕ
  pub load_is : IsLoadWhere (are_of_times (found bus.plan) others) bus.plan load
  pub text_is : text ≡ bus_line bus.label.bytes ++ (check ++ load)

-- this of all of them, in order
abbrev pub AreBlocks : List BusPlan → List (List LoadFinding) → List ℕ → Type 0
AreBlocks [] [] text = text ≡ []
AreBlocks (bus ∷ buses) (others ∷ rest) text = (block more : List ℕ) × IsBlock bus others block × AreBlocks buses rest more × (text ≡ block ++ more)
AreBlocks _ _ text = ⊥

-- how many findings all plans have
abbrev pub count_of_plans : List BusPlan → List (List LoadFinding) → ℕ
count_of_plans (bus ∷ buses) (others ∷ rest) = length (found bus.plan) + length others + count_of_plans buses rest
count_of_plans _ _ = 0

-- each of these is one of times
abbrev pub all_are_of_times : List BusPlan → List (List LoadFinding) → Bool
all_are_of_times (bus ∷ buses) (others ∷ rest) = are_of_times (found bus.plan) others && all_are_of_times buses rest
all_are_of_times _ _ = true

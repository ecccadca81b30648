-- What the plan of a vehicle asks of its bus, beside what the plan of its type asks.
use Rattle.std.specs.Prelude.{◌≡◌, ℕ, Bool, List, Some}
use Rattle.std.specs.List.{slice_get}
use Rattle.j39_network.specs.declared.plan.Plan.{Plan}
use Rattle.j39_network.specs.declared.plan.timing.Timing.{Timing}
use Rattle.j39_network.specs.declared.plan.unit_plan.UnitPlan.{UnitPlan}
use Rattle.j39_load.specs.declared.findings.load_finding.LoadFinding.{LoadFinding}
use Rattle.j39_load.specs.Asked.{asked_of}
use Rattle.j39_load.specs.BusTimes.{timing_of}
use Rattle.j39_load.specs.LoadFindings.{AreLoadFindings}
use Rattle.j39_findings.specs.Standing.{DecidesWhoStays}

-- of the vehicle the same is reported, place by place
pub record StandAlike (plan vehicle : Plan) (stays : UnitPlan → Bool) : Type 0 where
  pub stated : UnitPlan → Bool
  pub states : DecidesWhoStays vehicle stated
  pub same : (u : ℕ) (unit box : UnitPlan) → slice_get plan.units.items u ≡ Some unit → slice_get vehicle.units.items u ≡ Some box
      → stated box ≡ stays unit

-- the same is known of its bus, the same units stay, each flow, each unit and each request asks the same, and the same is wrong with it
pub record AreLoadsAlike (plan vehicle : Plan) : Type 0 where
  pub timing : timing_of vehicle ≡ timing_of plan
  pub standing : (stays : UnitPlan → Bool) → DecidesWhoStays plan stays → StandAlike plan vehicle stays
  pub asked : (timing : Timing) (stays stated : UnitPlan → Bool) → DecidesWhoStays plan stays → DecidesWhoStays vehicle stated
      → asked_of timing plan stays ≡ asked_of timing vehicle stated
  pub findings : (findings : List LoadFinding) → AreLoadFindings plan (timing_of plan) findings → AreLoadFindings vehicle (timing_of vehicle) findings

-- What is reported of the load of a plan: what it asks of its bus, how long its messages take, and what is wrong with it.
use Rattle.std.specs.Prelude.{◌≡◌, Bool}
use Rattle.j39_network.specs.declared.plan.Plan.{Plan}
use Rattle.j39_network.specs.declared.plan.timing.Timing.{Timing}
use Rattle.j39_network.specs.declared.plan.unit_plan.UnitPlan.{UnitPlan}
use Rattle.j39_load.specs.declared.findings.load_answer.LoadAnswer.{LoadAnswer}
use Rattle.j39_load.specs.Asked.{asked_of, total_load}
use Rattle.j39_load.specs.AskedLoads.{asked_in}
use Rattle.j39_load.specs.LoadFindings.{AsksOfBus, all_findings}

-- this is reported of a plan with this timing
pub record IsLoadAnswer (plan : Plan) (timing : Timing) (answer : LoadAnswer) : Type 0 where
  pub stays : UnitPlan → Bool
  pub asks : AsksOfBus plan timing stays answer.delays.items
  pub timed : answer.loads.timing ≡ timing
  pub asked : asked_in answer.loads ≡ asked_of timing plan stays
  pub found : answer.findings.items ≡ all_findings plan timing (total_load timing (asked_of timing plan stays)) answer.delays.items

-- What is reported of the load of a plan, by the calls that report it.
use Rattle.std.proofs.Common.{◌≡◌, Bool, ap, ◌∙◌, subst}
use Rattle.j39_network.specs.declared.plan.Plan.{Plan}
use Rattle.j39_network.specs.declared.plan.timing.Timing.{Timing}
use Rattle.j39_network.specs.declared.plan.unit_plan.UnitPlan.{UnitPlan}
use Rattle.j39_findings.specs.Standing.{DecidesWhoStays}
use Rattle.j39_load.specs.declared.findings.load_answer.LoadAnswer.{LoadAnswer}
use Rattle.j39_load.specs.Asked.{Asked, asked_of, total_load}
use Rattle.j39_load.specs.AskedLoads.{asked_in}
use Rattle.j39_load.specs.Delays.{AreFlowDelays}
use Rattle.j39_load.specs.LoadAnswers.{IsLoadAnswer}
use Rattle.j39_load.specs.LoadFindings.{all_findings}

pub answered : (plan : Plan) (timing : Timing) (stays : UnitPlan → Bool) (answer : LoadAnswer) → DecidesWhoStays plan stays
    → answer.loads.timing ≡ timing → asked_in answer.loads ≡ asked_of timing plan stays
    → AreFlowDelays answer.loads.timing (asked_in answer.loads) answer.delays.items
    → answer.findings.items ≡ all_findings plan timing (total_load answer.loads.timing (asked_in answer.loads)) answer.delays.items
    → IsLoadAnswer plan timing answer
answered plan timing stays answer states timed asked waits found =
    let delays = answer.delays.items in
    let here = asked_in answer.loads in
    record {
      stays = stays;
      asks = record {
        standing = states;
        waits = subst (λ (a : Asked). AreFlowDelays timing a delays) asked (subst (λ (t : Timing). AreFlowDelays t here delays) timed waits);
      };
      timed = timed;
      asked = asked;
      found = found ∙ ap (λ (t : Timing). all_findings plan timing (total_load t here) delays) timed
          ∙ ap (λ (a : Asked). all_findings plan timing (total_load timing a) delays) asked;
    }

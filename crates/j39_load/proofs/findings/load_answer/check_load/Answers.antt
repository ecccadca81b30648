use Rattle.std.proofs.Common.{Option, subst}
use Rattle.j39_network.specs.declared.plan.timing.Timing.{Timing}
use Rattle.j39_load.specs.LoadFindings.{AreLoadFindings}
use Rattle.j39_load.proofs.findings.load_answer.check_load.Goals as goal

pub returns-clause-findings : goal.returns-clause-findings
returns-clause-findings c =
    let answer = c.in_ok-answer.ensures.answer in
    subst (λ (t : Option Timing). AreLoadFindings c.args.plan.now t c.in_ok-answer.answer.findings.items) c.in-Some.ensures
    (answer.stays, c.in_ok-answer.answer.delays.items, answer.asks, answer.found)

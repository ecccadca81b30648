use Rattle.j39_plan_text.proofs.OneText.{not_refused, one_refusal, one_report}
use Rattle.j39_plan_text.proofs.laws.check_has_one_text.Goals as goal

pub returns-clause-report : goal.returns-clause-report
returns-clause-report c = one_report

pub returns-clause-refusal : goal.returns-clause-refusal
returns-clause-refusal c = one_refusal

pub returns-clause-apart : goal.returns-clause-apart
returns-clause-apart c = not_refused

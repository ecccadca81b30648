use Rattle.j39_line_laws.proofs.VariantsExist.{some_findings, some_plan}
use Rattle.j39_line_laws.proofs.covering.variants_have_findings.Goals as goal

pub returns-clause-plans : goal.returns-clause-plans
returns-clause-plans c = some_plan

pub returns-clause-findings : goal.returns-clause-findings
returns-clause-findings c = some_findings

use Rattle.j39_line_laws.proofs.AllByConditions.{found_by_conditions}
use Rattle.j39_line_laws.proofs.findings.findings_go_by_conditions.Goals as goal

pub returns : goal.returns
returns c = found_by_conditions

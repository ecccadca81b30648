use Rattle.j39_findings.proofs.FoundLaws.{are_findings}
use Rattle.j39_findings.proofs.laws.findings.found_exactly.Goals as goal

pub returns : goal.returns
returns c = are_findings

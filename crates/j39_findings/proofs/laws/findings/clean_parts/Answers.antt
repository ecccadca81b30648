use Rattle.j39_findings.proofs.CleanLaws.{parts_of}
use Rattle.j39_findings.proofs.laws.findings.clean_parts.Goals as goal

pub returns : goal.returns
returns c = parts_of

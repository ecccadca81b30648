use Rattle.j39_vehicle_findings.proofs.PathLaws.{are_findings}
use Rattle.j39_vehicle_findings.proofs.laws.vehicle_findings_are_exact.Goals as goal

pub returns : goal.returns
returns c = are_findings

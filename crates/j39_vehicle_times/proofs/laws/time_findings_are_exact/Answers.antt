use Rattle.j39_vehicle_times.proofs.TimeLaws.{are_time_findings}
use Rattle.j39_vehicle_times.proofs.laws.time_findings_are_exact.Goals as goal

pub returns : goal.returns
returns c = are_time_findings

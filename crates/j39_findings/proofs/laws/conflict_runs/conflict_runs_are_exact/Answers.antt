use Rattle.j39_findings.proofs.ConflictLaws.{runs_are_exact}
use Rattle.j39_findings.proofs.laws.conflict_runs.conflict_runs_are_exact.Goals as goal

pub returns : goal.returns
returns c = runs_are_exact

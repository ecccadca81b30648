use Rattle.j39_run_laws.proofs.Runs.Always.{through}
use Rattle.j39_run_laws.proofs.laws.runs_through_are_runs.Goals as goal

pub returns : goal.returns
returns c = through

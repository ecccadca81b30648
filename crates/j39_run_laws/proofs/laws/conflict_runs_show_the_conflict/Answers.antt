use Rattle.j39_run_laws.proofs.Conflicts.ConflictShown.{leaves_without_address}
use Rattle.j39_run_laws.proofs.laws.conflict_runs_show_the_conflict.Goals as goal

pub returns : goal.returns
returns c = leaves_without_address

use Rattle.j39_audit_laws.proofs.Runs.{parts_of_runs}
use Rattle.j39_audit_laws.proofs.laws.runs_keep_all_parts.Goals as goal

pub returns : goal.returns
returns c = λ plan steps w clean run. parts_of_runs plan clean steps w run

use Rattle.j39_audit_laws.proofs.Runs.{never_written}
use Rattle.j39_audit_laws.proofs.laws.runs_are_not_accused.Goals as goal

pub returns : goal.returns
returns c = λ plan steps w clean run. never_written plan clean steps w run

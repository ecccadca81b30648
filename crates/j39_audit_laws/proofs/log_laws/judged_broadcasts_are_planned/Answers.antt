use Rattle.j39_audit_laws.proofs.LogTimes.{broadcasts_planned}
use Rattle.j39_audit_laws.proofs.log_laws.judged_broadcasts_are_planned.Goals as goal

pub returns : goal.returns
returns c = broadcasts_planned

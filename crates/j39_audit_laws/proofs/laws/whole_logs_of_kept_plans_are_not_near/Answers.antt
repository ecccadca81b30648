use Rattle.j39_audit_laws.proofs.WholeLogs.{whole_logs_not_near}
use Rattle.j39_audit_laws.proofs.laws.whole_logs_of_kept_plans_are_not_near.Goals as goal

pub returns : goal.returns
returns c = whole_logs_not_near

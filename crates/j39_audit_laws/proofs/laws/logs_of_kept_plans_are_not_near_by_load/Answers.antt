use Rattle.j39_audit_laws.proofs.NearLogs.{logs_not_near}
use Rattle.j39_audit_laws.proofs.laws.logs_of_kept_plans_are_not_near_by_load.Goals as goal

pub returns : goal.returns
returns c = logs_not_near

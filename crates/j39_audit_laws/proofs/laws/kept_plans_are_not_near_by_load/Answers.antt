use Rattle.j39_audit_laws.proofs.ReportedTimes.{none_near_by_load}
use Rattle.j39_audit_laws.proofs.laws.kept_plans_are_not_near_by_load.Goals as goal

pub returns : goal.returns
returns c = none_near_by_load

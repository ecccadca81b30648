use Rattle.j39_audit_laws.proofs.NearMarks.{periods_not_near}
use Rattle.j39_audit_laws.proofs.laws.whole_logs_of_kept_periods_are_not_near.Goals as goal

pub returns : goal.returns
returns c = periods_not_near

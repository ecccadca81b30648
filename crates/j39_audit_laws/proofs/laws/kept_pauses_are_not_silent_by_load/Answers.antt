use Rattle.j39_audit_laws.proofs.ReportedTimes.{none_silent_by_load}
use Rattle.j39_audit_laws.proofs.laws.kept_pauses_are_not_silent_by_load.Goals as goal

pub returns : goal.returns
returns c = none_silent_by_load

use Rattle.j39_audit_laws.proofs.OnLoad.{in_time_not_near, in_time_not_silent}
use Rattle.j39_audit_laws.proofs.laws.who_is_sent_in_time_is_not_reported.Goals as goal

pub returns : goal.returns
returns c = record { near = in_time_not_near; silent = in_time_not_silent }

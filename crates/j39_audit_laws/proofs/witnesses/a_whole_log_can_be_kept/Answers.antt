use Rattle.j39_audit_laws.proofs.LoggedBus.{plans_logged}
use Rattle.j39_audit_laws.proofs.witnesses.a_whole_log_can_be_kept.Goals as goal

pub returns : goal.returns
returns c = plans_logged

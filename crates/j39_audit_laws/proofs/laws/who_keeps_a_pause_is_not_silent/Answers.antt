use Rattle.j39_audit_laws.proofs.KeptPauses.{kept_pauses_are_not_silent}
use Rattle.j39_audit_laws.proofs.laws.who_keeps_a_pause_is_not_silent.Goals as goal

pub returns : goal.returns
returns c = kept_pauses_are_not_silent

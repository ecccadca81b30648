use Rattle.j39_audit_laws.proofs.SilentReported.{silent_are_found}
use Rattle.j39_audit_laws.proofs.laws.who_is_long_silent_is_reported.Goals as goal

pub returns : goal.returns
returns c = silent_are_found

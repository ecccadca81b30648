use Rattle.j39_audit_laws.proofs.OneAudit.{one_audit}
use Rattle.j39_audit_laws.proofs.laws.an_audit_has_one_text.Goals as goal

pub returns : goal.returns
returns c = one_audit

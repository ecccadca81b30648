use Rattle.j39_audit_laws.proofs.KeptParts.{kept_plans}
use Rattle.j39_audit_laws.proofs.laws.kept_plans_are_not_accused.Goals as goal

pub returns : goal.returns
returns c = kept_plans

use Rattle.j39_audit_laws.proofs.KnownSenders.{right_by_plan}
use Rattle.j39_audit_laws.proofs.log_laws.right_claims_are_by_the_plan.Goals as goal

pub returns : goal.returns
returns c = right_by_plan

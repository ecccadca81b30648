use Rattle.j39_audit_laws.proofs.Own.{can_claim, claims_its_own}
use Rattle.j39_audit_laws.proofs.laws.who_claims_by_the_plan_is_not_accused.Goals as goal

pub returns-clause-cannot : goal.returns-clause-cannot
returns-clause-cannot c = can_claim

pub returns-clause-address : goal.returns-clause-address
returns-clause-address c = claims_its_own

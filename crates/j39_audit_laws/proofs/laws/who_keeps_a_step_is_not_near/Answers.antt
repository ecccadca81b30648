use Rattle.j39_audit_laws.proofs.Near.{kept_steps_are_not_near}
use Rattle.j39_audit_laws.proofs.laws.who_keeps_a_step_is_not_near.Goals as goal

pub returns : goal.returns
returns c = kept_steps_are_not_near

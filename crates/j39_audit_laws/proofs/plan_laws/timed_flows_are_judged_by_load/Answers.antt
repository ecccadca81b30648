use Rattle.j39_audit_laws.proofs.JudgedFlows.{flows_judged}
use Rattle.j39_audit_laws.proofs.plan_laws.timed_flows_are_judged_by_load.Goals as goal

pub returns : goal.returns
returns c = flows_judged

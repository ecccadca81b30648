use Rattle.j39_audit_laws.proofs.JudgedFlows.{silence_told}
use Rattle.j39_audit_laws.proofs.plan_laws.silence_is_told_of_flows_that_show_it.Goals as goal

pub returns : goal.returns
returns c = silence_told

use Rattle.j39_audit_laws.proofs.Own.{flows_are_planned, layouts_are_planned, priorities_are_planned, waits_for_planned}
use Rattle.j39_audit_laws.proofs.laws.who_sends_by_the_plan_is_not_accused.Goals as goal

pub returns-clause-layout : goal.returns-clause-layout
returns-clause-layout c = layouts_are_planned

pub returns-clause-no_flow : goal.returns-clause-no_flow
returns-clause-no_flow c = flows_are_planned

pub returns-clause-priority : goal.returns-clause-priority
returns-clause-priority c = priorities_are_planned

pub returns-clause-urgent : goal.returns-clause-urgent
returns-clause-urgent c = waits_for_planned

use Rattle.j39_log.proofs.OlderPlans.{by_number, shown_whole, signals_alone}
use Rattle.j39_log.proofs.laws.older_plans_are_read_as_before.Goals as goal

pub returns-clause-groups : goal.returns-clause-groups
returns-clause-groups c = by_number

pub returns-clause-values : goal.returns-clause-values
returns-clause-values c = shown_whole

pub returns-clause-texts : goal.returns-clause-texts
returns-clause-texts c = signals_alone

use Rattle.j39_plan.proofs.OlderPlans.{fourth_reads, third_reads}
use Rattle.j39_plan.proofs.laws.plans_without_later_keys.Goals as goal

pub returns-clause-fourth : goal.returns-clause-fourth
returns-clause-fourth c = fourth_reads

pub returns-clause-third : goal.returns-clause-third
returns-clause-third c = third_reads

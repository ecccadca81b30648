use Rattle.j39_part_laws.proofs.DelaysExist.{some_delays}
use Rattle.j39_part_laws.proofs.LoadsExist.{some_load_findings}
use Rattle.j39_part_laws.proofs.StandingExists.{some_standing}
use Rattle.j39_part_laws.proofs.laws.plans_have_load_findings.Goals as goal

pub returns-clause-standing : goal.returns-clause-standing
returns-clause-standing c = some_standing

pub returns-clause-delays : goal.returns-clause-delays
returns-clause-delays c = some_delays

pub returns-clause-findings : goal.returns-clause-findings
returns-clause-findings c = some_load_findings

use Rattle.j39_audit_laws.proofs.Listed.{found_listed}
use Rattle.j39_audit_laws.proofs.Occurrences.{lines_are_of_log}
use Rattle.j39_audit_laws.proofs.laws.lines_are_of_the_log.Goals as goal

pub returns-clause-exact : goal.returns-clause-exact
returns-clause-exact c = lines_are_of_log

pub returns-clause-listed : goal.returns-clause-listed
returns-clause-listed c = found_listed

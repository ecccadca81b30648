use Rattle.j39_audit_laws.proofs.FixedUnits.{none_is_unsure}
use Rattle.j39_audit_laws.proofs.SureWords.{unsure_is_none}
use Rattle.j39_audit_laws.proofs.laws.no_frame_is_unsure.Goals as goal

pub returns-clause-each : goal.returns-clause-each
returns-clause-each c = none_is_unsure

pub returns-clause-none : goal.returns-clause-none
returns-clause-none c = unsure_is_none

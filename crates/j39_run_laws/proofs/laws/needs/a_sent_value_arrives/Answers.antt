use Rattle.j39_run_laws.proofs.Needed.{is_read, is_reported_alone}
use Rattle.j39_run_laws.proofs.laws.needs.a_sent_value_arrives.Goals as goal

pub returns-clause-reported : goal.returns-clause-reported
returns-clause-reported c = is_reported_alone

pub returns-clause-read : goal.returns-clause-read
returns-clause-read c = λ plan steps w clean run n x. is_read plan clean n.message x

use Rattle.j39_run_laws.proofs.Needed.{is_reported, is_read}
use Rattle.j39_run_laws.proofs.laws.needs.a_needed_value_arrives.Goals as goal

pub returns-clause-reported : goal.returns-clause-reported
returns-clause-reported c = is_reported

pub returns-clause-read : goal.returns-clause-read
returns-clause-read c = λ plan steps w clean run d x. is_read plan clean d.message x

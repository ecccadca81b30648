use Rattle.j39_audit_laws.proofs.Answering.{who_answers}
use Rattle.j39_audit_laws.proofs.laws.who_answers_is_not_deaf.Goals as goal

pub returns : goal.returns
returns c = who_answers

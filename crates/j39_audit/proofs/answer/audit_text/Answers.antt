use Rattle.std.proofs.Common.{rules}
use Rattle.j39_stream.proofs.Answering.{not_read}
use Rattle.j39_audit.proofs.answer.audit_text.Goals as goal

pub returns-in_err-moving : goal.returns-in_err-moving
returns-in_err-moving g c = not_read _ (search rules) (search rules) (search rules)

pub returns-in_err-responses : goal.returns-in_err-responses
returns-in_err-responses g c = not_read _ (search rules) (search rules) (search rules)

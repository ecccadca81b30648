use Rattle.j39_audit_laws.proofs.Answering.{deaf_is, is_deaf}
use Rattle.j39_audit_laws.proofs.laws.deaf_is_exact.Goals as goal

pub returns : goal.returns
returns c = λ t l n. (deaf_is t l n, is_deaf t l n)

use Rattle.j39_audit_laws.proofs.KeptParts.{keepers}
use Rattle.j39_audit_laws.proofs.laws.who_keeps_its_part_is_not_accused.Goals as goal

pub returns : goal.returns
returns c = keepers

use Rattle.j39_audit_laws.proofs.Silent.{first_silent, some_silent, reported_silent}
use Rattle.j39_audit_laws.proofs.laws.silent_is_exact.Goals as goal

pub returns : goal.returns
returns c = record { stated = reported_silent; first = first_silent; some = some_silent }

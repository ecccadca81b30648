use Rattle.j39_audit_laws.proofs.Near.{first_near, some_near, reported_near}
use Rattle.j39_audit_laws.proofs.laws.near_is_exact.Goals as goal

pub returns : goal.returns
returns c = record { stated = reported_near; first = first_near; some = some_near }

use Rattle.j39_audit_laws.proofs.Written.{found_are_written}
use Rattle.j39_audit_laws.proofs.laws.what_is_found_is_written.Goals as goal

pub returns : goal.returns
returns c = found_are_written

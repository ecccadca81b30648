use Rattle.j39_audit_laws.proofs.InTurn.{notes_the_late}
use Rattle.j39_audit_laws.proofs.laws.the_late_are_noted.Goals as goal

pub returns : goal.returns
returns c = notes_the_late

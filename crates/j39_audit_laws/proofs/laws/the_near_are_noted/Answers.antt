use Rattle.j39_audit_laws.proofs.NearNotes.{notes_the_near}
use Rattle.j39_audit_laws.proofs.laws.the_near_are_noted.Goals as goal

pub returns : goal.returns
returns c = notes_the_near

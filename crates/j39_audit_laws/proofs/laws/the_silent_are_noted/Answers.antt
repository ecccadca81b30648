use Rattle.j39_audit_laws.proofs.SilentNotes.{notes_the_silent, notes_the_silent_end}
use Rattle.j39_audit_laws.proofs.laws.the_silent_are_noted.Goals as goal

pub returns : goal.returns
returns c = record { messages = notes_the_silent; end = notes_the_silent_end }

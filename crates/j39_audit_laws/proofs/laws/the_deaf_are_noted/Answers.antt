use Rattle.j39_audit_laws.proofs.AskingNotes.{keeps_requests, notes_the_deaf}
use Rattle.j39_audit_laws.proofs.laws.the_deaf_are_noted.Goals as goal

pub returns : goal.returns
returns c = record { kept = keeps_requests; noted = notes_the_deaf }

use Rattle.std.proofs.Common.{ap, ◌∙◌}
use Rattle.j39_claim.proofs.Counts.{no_notes_counted}
use Rattle.j39_claim.proofs.RisingNotes.{map_of, no_notes}
use Rattle.j39_claim.proofs.notes.Notes.new.Goals as goal

pub invariant_of-result : goal.invariant_of-result
invariant_of-result c = rw (c.new.ensures, c.new-2.ensures) no_notes_counted

pub returns : goal.returns
returns c = ap map_of c.new.ensures ∙ no_notes

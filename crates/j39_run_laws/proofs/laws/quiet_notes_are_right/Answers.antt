use Rattle.j39_run_laws.proofs.Settling.KnownAddresses.{quiet_notes}
use Rattle.j39_run_laws.proofs.laws.quiet_notes_are_right.Goals as goal

pub returns : goal.returns
returns c = λ plan steps w distinct run quiet. quiet_notes plan distinct steps w run quiet

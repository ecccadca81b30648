use Rattle.j39_audit_laws.proofs.InTurn.{sends_in_turn}
use Rattle.j39_audit_laws.proofs.laws.who_sends_in_turn_is_not_silent.Goals as goal

pub returns : goal.returns
returns c = sends_in_turn

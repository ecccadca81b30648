use Rattle.j39_tp.proofs.Tracking.{one_pgn, one_message}
use Rattle.j39_tp.proofs.laws.a_place_carries_one_message.Goals as goal

pub returns-clause-pgn : goal.returns-clause-pgn
returns-clause-pgn c = one_pgn

pub returns-clause-bytes : goal.returns-clause-bytes
returns-clause-bytes c = one_message

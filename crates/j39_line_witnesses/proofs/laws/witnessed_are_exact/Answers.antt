use Rattle.j39_line_witnesses.proofs.Reported.{reported_exactly}
use Rattle.j39_line_witnesses.proofs.laws.witnessed_are_exact.Goals as goal

pub returns : goal.returns
returns c = reported_exactly

use Rattle.j39_load.proofs.AskedMore.{asked_exactly}
use Rattle.j39_load.proofs.laws.flows_asked_for_too_often_are_reported.Goals as goal

pub returns : goal.returns
returns c = asked_exactly

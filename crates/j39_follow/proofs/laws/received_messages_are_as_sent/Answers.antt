use Rattle.j39_follow.proofs.Pairs.AsSent.{received_as_sent}
use Rattle.j39_follow.proofs.Pairs.InOrder.{one_received}
use Rattle.j39_follow.proofs.laws.received_messages_are_as_sent.Goals as goal

pub returns-clause-one : goal.returns-clause-one
returns-clause-one c = one_received

pub returns-clause-as_sent : goal.returns-clause-as_sent
returns-clause-as_sent c = received_as_sent

use Rattle.j39_sessions.proofs.Told.{cleared_arent, uncleared_told}
use Rattle.j39_sessions.proofs.laws.uncleared_packets_are_told.Goals as goal

pub returns-clause-told : goal.returns-clause-told
returns-clause-told c = uncleared_told

pub returns-clause-others : goal.returns-clause-others
returns-clause-others c = cleared_arent

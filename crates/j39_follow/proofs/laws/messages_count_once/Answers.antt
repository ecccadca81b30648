use Rattle.j39_follow.proofs.CountedOnce.{needs_are_met_once, requests_are_answered_once}
use Rattle.j39_follow.proofs.laws.messages_count_once.Goals as goal

pub returns-clause-requests : goal.returns-clause-requests
returns-clause-requests c = requests_are_answered_once

pub returns-clause-needs : goal.returns-clause-needs
returns-clause-needs c = needs_are_met_once

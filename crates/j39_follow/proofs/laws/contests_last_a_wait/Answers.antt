use Rattle.j39_follow.proofs.Addresses.ContestTimes.{contests_last}
use Rattle.j39_follow.proofs.laws.contests_last_a_wait.Goals as goal

pub returns : goal.returns
returns c = contests_last

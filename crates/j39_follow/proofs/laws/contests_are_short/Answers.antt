use Rattle.j39_follow.proofs.Addresses.ContestOrigins.{contests_are_short}
use Rattle.j39_follow.proofs.laws.contests_are_short.Goals as goal

pub returns : goal.returns
returns c = contests_are_short

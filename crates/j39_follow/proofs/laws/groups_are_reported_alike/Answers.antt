use Rattle.j39_follow.proofs.GroupLines.{reported_alike}
use Rattle.j39_follow.proofs.laws.groups_are_reported_alike.Goals as goal

pub returns : goal.returns
returns c = reported_alike

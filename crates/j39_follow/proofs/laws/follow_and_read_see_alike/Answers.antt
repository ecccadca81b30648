use Rattle.j39_follow.proofs.Alike.{see_alike}
use Rattle.j39_follow.proofs.laws.follow_and_read_see_alike.Goals as goal

pub returns : goal.returns
returns c = see_alike

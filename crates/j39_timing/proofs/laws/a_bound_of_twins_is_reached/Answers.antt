use Rattle.j39_timing.proofs.ReachedByTwins.{reached_by_twins}
use Rattle.j39_timing.proofs.laws.a_bound_of_twins_is_reached.Goals as goal

pub returns : goal.returns
returns c = reached_by_twins

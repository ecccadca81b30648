use Rattle.j39_timing.proofs.ReachedByWanted.{reached_by_wanted}
use Rattle.j39_timing.proofs.laws.what_is_wanted_is_reached.Goals as goal

pub returns : goal.returns
returns c = reached_by_wanted

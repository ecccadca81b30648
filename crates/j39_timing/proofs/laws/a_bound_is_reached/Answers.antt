use Rattle.j39_timing.proofs.ReachedByPlanned.{reached_by_planned}
use Rattle.j39_timing.proofs.laws.a_bound_is_reached.Goals as goal

pub returns : goal.returns
returns c = reached_by_planned

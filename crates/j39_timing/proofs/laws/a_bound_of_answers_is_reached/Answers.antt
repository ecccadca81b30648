use Rattle.j39_timing.proofs.ReachedByOwn.{reached_by_own}
use Rattle.j39_timing.proofs.laws.a_bound_of_answers_is_reached.Goals as goal

pub returns : goal.returns
returns c = reached_by_own

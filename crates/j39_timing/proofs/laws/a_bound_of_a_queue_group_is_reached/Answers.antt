use Rattle.j39_timing.proofs.ReachedByQueueGroup.{reached_by_queue_group}
use Rattle.j39_timing.proofs.laws.a_bound_of_a_queue_group_is_reached.Goals as goal

pub returns : goal.returns
returns c = reached_by_queue_group

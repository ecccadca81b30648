use Rattle.j39_timing.proofs.QueueGroupTraffic.{begun_within, queue_group_in_time, queue_group_sent}
use Rattle.j39_timing.proofs.laws.frames_of_a_queue_group_are_in_time.Goals as goal

pub returns : goal.returns
returns c = record { begun = begun_within; in_time = queue_group_in_time; sent = queue_group_sent }

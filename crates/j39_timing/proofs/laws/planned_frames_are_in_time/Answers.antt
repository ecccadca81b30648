use Rattle.j39_timing.proofs.PlannedTraffic.{stream_in_time}
use Rattle.j39_timing.proofs.laws.planned_frames_are_in_time.Goals as goal

pub returns : goal.returns
returns c = record { in_time = stream_in_time }

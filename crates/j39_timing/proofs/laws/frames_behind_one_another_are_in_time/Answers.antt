use Rattle.j39_timing.proofs.PlannedTraffic.{behind_in_time}
use Rattle.j39_timing.proofs.laws.frames_behind_one_another_are_in_time.Goals as goal

pub returns : goal.returns
returns c = record { sent = behind_in_time }

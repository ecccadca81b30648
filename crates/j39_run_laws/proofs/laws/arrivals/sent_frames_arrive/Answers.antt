use Rattle.j39_run_laws.proofs.Transfers.SentArriving.{arrives_alone, can_arrive_alone}
use Rattle.j39_run_laws.proofs.laws.arrivals.sent_frames_arrive.Goals as goal

pub returns : goal.returns
returns c = record { arrives = arrives_alone; possible = can_arrive_alone }

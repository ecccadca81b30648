use Rattle.j39_run_laws.proofs.Transfers.AnsweredRuns.{can_arrive}
use Rattle.j39_run_laws.proofs.Transfers.ArrivingAnswered.{arrives_answered}
use Rattle.j39_run_laws.proofs.laws.arrivals.answered_messages_arrive.Goals as goal

pub returns : goal.returns
returns c = record { arrives = arrives_answered; possible = can_arrive }

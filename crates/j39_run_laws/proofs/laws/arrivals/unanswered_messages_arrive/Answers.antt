use Rattle.j39_run_laws.proofs.Transfers.Arriving.{arrives_unanswered}
use Rattle.j39_run_laws.proofs.Transfers.UnansweredRuns.{can_arrive_unanswered}
use Rattle.j39_run_laws.proofs.laws.arrivals.unanswered_messages_arrive.Goals as goal

pub returns : goal.returns
returns c = record { arrives = arrives_unanswered; possible = can_arrive_unanswered }

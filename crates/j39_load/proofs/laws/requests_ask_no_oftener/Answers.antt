use Rattle.j39_load.proofs.AnswerTimes.{ask_no_oftener, period_in_parts}
use Rattle.j39_load.proofs.laws.requests_ask_no_oftener.Goals as goal

pub returns : goal.returns
returns c = record { together = ask_no_oftener; period = period_in_parts }

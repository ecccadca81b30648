use Rattle.j39_timing.proofs.ReachedByAnswers.{reached_by_answers}
use Rattle.j39_timing.proofs.laws.what_is_answered_is_reached.Goals as goal

pub returns : goal.returns
returns c = reached_by_answers

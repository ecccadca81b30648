use Rattle.j39_load.proofs.KeptDeadlines.{kept_deadlines}
use Rattle.j39_load.proofs.laws.kept_plans_meet_deadlines.Goals as goal

pub returns : goal.returns
returns c = kept_deadlines

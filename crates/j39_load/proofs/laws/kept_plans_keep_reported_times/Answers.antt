use Rattle.j39_load.proofs.KeptTimes.{kept_times}
use Rattle.j39_load.proofs.laws.kept_plans_keep_reported_times.Goals as goal

pub returns : goal.returns
returns c = kept_times

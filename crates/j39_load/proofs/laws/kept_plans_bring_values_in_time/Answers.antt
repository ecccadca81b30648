use Rattle.j39_load.proofs.ValuesInTime.{values_in_time}
use Rattle.j39_load.proofs.laws.kept_plans_bring_values_in_time.Goals as goal

pub returns : goal.returns
returns c = values_in_time

use Rattle.j39_load.proofs.KeepingWithout.{can_be_kept_without}
use Rattle.j39_load.proofs.laws.plans_can_be_kept_without_a_unit.Goals as goal

pub returns : goal.returns
returns c = can_be_kept_without

use Rattle.j39_load.proofs.KeepingTurns.{broadcasts_in_any_order, broadcasts_in_order}
use Rattle.j39_load.proofs.laws.broadcasts_that_keep_a_plan.Goals as goal

pub returns : goal.returns
returns c = record { legal = broadcasts_in_order; any_order = broadcasts_in_any_order }

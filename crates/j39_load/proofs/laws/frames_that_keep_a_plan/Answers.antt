use Rattle.j39_load.proofs.KeepingAnyOrder.{keeps_in_any_order}
use Rattle.j39_load.proofs.KeepingErrors.{keeps_damaged}
use Rattle.j39_load.proofs.KeepingPlan.{keeps_in_order}
use Rattle.j39_load.proofs.laws.frames_that_keep_a_plan.Goals as goal

pub returns : goal.returns
returns c = record { legal = keeps_in_order; any_order = keeps_in_any_order; with_errors = keeps_damaged }

use Rattle.j39_tp.proofs.Carrying.{carried_is_completed}
use Rattle.j39_tp.proofs.Tracking.{completed_is_carried}
use Rattle.j39_tp.proofs.laws.listener_completes_what_is_carried.Goals as goal

pub returns-clause-completed : goal.returns-clause-completed
returns-clause-completed c = completed_is_carried

pub returns-clause-carried : goal.returns-clause-carried
returns-clause-carried c = carried_is_completed

use Rattle.j39_run_laws.proofs.Addresses.StrangersComing.{can_come}
use Rattle.j39_run_laws.proofs.laws.strangers.strangers_can_come.Goals as goal

pub returns : goal.returns
returns c = can_come

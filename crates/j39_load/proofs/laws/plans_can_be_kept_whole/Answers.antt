use Rattle.j39_load.proofs.KeepingAll.{can_send_all}
use Rattle.j39_load.proofs.laws.plans_can_be_kept_whole.Goals as goal

pub returns : goal.returns
returns c = can_send_all

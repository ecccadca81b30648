use Rattle.j39_load.proofs.KeptReceivers.{kept_receivers}
use Rattle.j39_load.proofs.laws.kept_plans_lose_no_receiver.Goals as goal

pub returns : goal.returns
returns c = kept_receivers

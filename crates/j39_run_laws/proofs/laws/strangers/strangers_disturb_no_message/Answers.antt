use Rattle.j39_run_laws.proofs.Addresses.BesideLive.{clean_beside_live}
use Rattle.j39_run_laws.proofs.laws.strangers.strangers_disturb_no_message.Goals as goal

pub returns : goal.returns
returns c = clean_beside_live

use Rattle.j39_run_laws.proofs.Transfers.Leading.{steps_lead}
use Rattle.j39_run_laws.proofs.laws.transfers.steps_lead_somewhere.Goals as goal

pub returns : goal.returns
returns c = steps_lead

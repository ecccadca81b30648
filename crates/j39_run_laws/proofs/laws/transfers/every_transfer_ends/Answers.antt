use Rattle.j39_run_laws.proofs.Transfers.Ending.{transfers_end}
use Rattle.j39_run_laws.proofs.laws.transfers.every_transfer_ends.Goals as goal

pub returns : goal.returns
returns c = transfers_end

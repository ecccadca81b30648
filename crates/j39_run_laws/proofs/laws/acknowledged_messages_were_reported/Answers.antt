use Rattle.j39_run_laws.proofs.Transfers.SoundRuns.{acknowledged_reported}
use Rattle.j39_run_laws.proofs.laws.acknowledged_messages_were_reported.Goals as goal

pub returns : goal.returns
returns c = acknowledged_reported

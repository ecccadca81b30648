use Rattle.j39_run_laws.proofs.Transfers.OnlyStopped.{only_stops}
use Rattle.j39_run_laws.proofs.laws.switching_off.units_only_stop_between_messages.Goals as goal

pub returns : goal.returns
returns c = only_stops

use Rattle.j39_vehicle_laws.proofs.Copied.{readings_are}
use Rattle.j39_vehicle_laws.proofs.readings_are_states.Goals as goal

pub returns : goal.returns
returns c = readings_are

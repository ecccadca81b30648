use Rattle.j39_vehicle_laws.proofs.ValuesBrought.{values_brought}
use Rattle.j39_vehicle_laws.proofs.times.a_value_is_brought.Goals as goal

pub returns : goal.returns
returns c = values_brought

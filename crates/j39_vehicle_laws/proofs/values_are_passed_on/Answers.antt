use Rattle.j39_vehicle_laws.proofs.Values.{each_value, one_value_passes}
use Rattle.j39_vehicle_laws.proofs.values_are_passed_on.Goals as goal

pub returns : goal.returns
returns c = record { has = each_value; passed = one_value_passes }

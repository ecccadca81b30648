use Rattle.j39_load.proofs.Vehicles.{loads_alike}
use Rattle.j39_load.proofs.laws.serial_numbers_change_no_load.Goals as goal

pub returns : goal.returns
returns c = loads_alike

use Rattle.j39_network.proofs.StayingBoxes.{stay_alike}
use Rattle.j39_run_laws.proofs.laws.staying.units_stay_in_each_vehicle.Goals as goal

pub returns : goal.returns
returns c = stay_alike

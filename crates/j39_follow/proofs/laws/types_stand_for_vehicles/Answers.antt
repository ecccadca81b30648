use Rattle.j39_follow.proofs.Vehicles.Texts.{types_stand_for_vehicles}
use Rattle.j39_follow.proofs.laws.types_stand_for_vehicles.Goals as goal

pub returns : goal.returns
returns c = types_stand_for_vehicles

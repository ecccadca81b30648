use Rattle.std.proofs.Common.{refl}
use Rattle.j39_vehicle_laws.proofs.KnownVehicle.{vehicle, known}
use Rattle.j39_vehicle_laws.proofs.handing_on.a_frame_is_handed_on.Goals as goal

pub returns : goal.returns
returns c = (vehicle, known, refl, refl, refl, refl, refl, refl, refl)

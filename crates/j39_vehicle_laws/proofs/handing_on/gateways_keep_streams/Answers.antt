use Rattle.j39_vehicle_laws.proofs.Vehicles.{keep_their_streams}
use Rattle.j39_vehicle_laws.proofs.handing_on.gateways_keep_streams.Goals as goal

pub returns : goal.returns
returns c = record { keeps = keep_their_streams }

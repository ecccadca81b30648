use Rattle.j39_vehicle_laws.proofs.Clocks.{steady_is}
use Rattle.j39_vehicle_laws.proofs.GatewayStreams.{apart_in_time, comes_in_time}
use Rattle.j39_vehicle_laws.proofs.handing_on.steady_clocks_are_clocks.Goals as goal

pub returns : goal.returns
returns c = record { steady = steady_is; comes = comes_in_time; apart = apart_in_time }

use Rattle.j39_vehicle_laws.proofs.GatewayStreams.{comes_by_itself, comes_directly, comes_young, old_at_most, young_at_last}
use Rattle.j39_vehicle_laws.proofs.handing_on.ages_add_over_gateways.Goals as goal

pub returns : goal.returns
returns c = record { by_itself = comes_by_itself; directly = comes_directly; at_releases = old_at_most; young = comes_young; at_last = young_at_last }

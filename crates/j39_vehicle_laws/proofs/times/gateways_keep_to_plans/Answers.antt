use Rattle.j39_vehicle_laws.proofs.Kept.{streams_are_kept}
use Rattle.j39_vehicle_laws.proofs.times.gateways_keep_to_plans.Goals as goal

pub returns : goal.returns
returns c = streams_are_kept

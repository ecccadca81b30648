use Rattle.j39_vehicle_laws.proofs.Young.{brought_young}
use Rattle.j39_vehicle_laws.proofs.times.ages_are_bounds.Goals as goal

pub returns : goal.returns
returns c = brought_young

use Rattle.std.proofs.Common.{◌∙◌, ap}
use Rattle.std.specs.List.{find}
use Rattle.j39_vehicle_times.specs.inside.Chains.{is_direct_at}
use Rattle.j39_vehicle_times.proofs.Feeding.{direct_by_feeders}
use Rattle.j39_vehicle_times.proofs.flows.direct_place.Goals as goal

pub returns : goal.returns
returns c =
    let routes = c.args.routes.now in
    let v = routes.vehicle.now in
    let at = c.args.at in
    c.first_direct.ensures ∙ ap (find (is_direct_at v)) (c.feeders.ensures ∙ routes.of_vehicle.feeders at) ∙ direct_by_feeders v at

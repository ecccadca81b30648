use Rattle.std.proofs.Common.{◌∙◌, ap}
use Rattle.std.specs.List.{find}
use Rattle.j39_vehicle_findings.specs.PathTables.{carries_at}
use Rattle.j39_vehicle_findings.proofs.TableRows.{next_by_feeders}
use Rattle.j39_vehicle_findings.proofs.routes.Routes.next_forward.Goals as goal

pub returns : goal.returns
returns c =
    let routes = c.args.self.now in
    let v = routes.vehicle.now in
    let p = c.args.point in
    c.first_carrying.ensures ∙ ap (find (carries_at v p.signal)) (c.feeders.ensures ∙ routes.of_vehicle.feeders p.at) ∙ next_by_feeders v p

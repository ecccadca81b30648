use Rattle.std.proofs.Common.{◌≡◌, false, sym, ap, ◌∙◌}
use Rattle.j39_search.specs.ListPlaces.{found_if}
use Rattle.j39_vehicle_findings.specs.FoundPaths.{is_need_flow}
use Rattle.j39_vehicle_times.specs.FoundTimes.{joined, need_flow_at, youngest}
use Rattle.j39_vehicle_times.proofs.Youngest.{joined_none}
use Rattle.j39_vehicle_times.proofs.needs.joined_with.Goals as goal

pub returns-then-not-is_need_flow : goal.returns-then-not-is_need_flow
returns-then-not-is_need_flow c =
    let one = need_flow_at c.args.routes.now.vehicle.now c.args.delays.now c.args.need.now c.args.place in
    let no : is_need_flow c.args.routes.now.vehicle.now c.args.need.now c.args.place c.args.flow.now ≡ false = cc in
    sym (ap (λ b. joined c.args.best (youngest (found_if b one))) no ∙ joined_none c.args.best)

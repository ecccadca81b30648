use Rattle.std.proofs.Common.{◌≡◌, drop}
use Rattle.j39_vehicle_findings.specs.FoundPaths.{is_need_flow, some_at}
use Rattle.j39_vehicle_findings.proofs.checking.needs.some_is_need_flow.Given as goal

abbrev pub invariant-loop-place : goal.invariant-loop-place
invariant-loop-place l = some_at (is_need_flow l.routes.vehicle.now l.need) l.place (drop l.place l.flows)
    ≡ some_at (is_need_flow l.routes.vehicle.now l.need) 0 l.flows

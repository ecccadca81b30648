use Rattle.std.proofs.Common.{◌≡◌, ◌-◌, ◌++◌, length}
use Rattle.j39_vehicle_text.specs.NeedLines.{way_by}
use Rattle.j39_vehicle_text.proofs.ways.way_back.Given as goal

abbrev pub invariant-trace : goal.invariant-trace
invariant-trace l = l.back.items ++ way_by l.routes.vehicle.now (length l.routes.vehicle.now.forwards.items - l._step) l.point
    ≡ way_by l.routes.vehicle.now (length l.routes.vehicle.now.forwards.items) l.fn.start

use Rattle.std.proofs.Common.{◌≡◌, ◌-◌, length}
use Rattle.j39_vehicle_times.specs.Times.{interval_by}
use Rattle.j39_vehicle_times.proofs.chains.interval.Given as goal

abbrev pub invariant-chain : goal.invariant-chain
invariant-chain l = interval_by l.routes.vehicle.now (length l.routes.vehicle.now.forwards.items - l._step) l.at
    ≡ interval_by l.routes.vehicle.now (length l.routes.vehicle.now.forwards.items) l.fn.start

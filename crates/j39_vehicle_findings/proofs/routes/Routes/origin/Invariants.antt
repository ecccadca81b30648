use Rattle.std.proofs.Common.{◌≡◌, ◌-◌, length}
use Rattle.j39_vehicle_findings.specs.Traces.{trace_end}
use Rattle.j39_vehicle_findings.proofs.routes.Routes.origin.Given as goal

abbrev pub invariant-trace : goal.invariant-trace
invariant-trace l = trace_end l.self.vehicle.now (length l.self.vehicle.now.forwards.items - l._step) l.point
    ≡ trace_end l.self.vehicle.now (length l.self.vehicle.now.forwards.items) l.fn.start

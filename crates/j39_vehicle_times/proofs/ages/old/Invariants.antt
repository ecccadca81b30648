use Rattle.std.proofs.Common.{◌≡◌, ◌-◌, ◌*◌, ◌^◌, ◌≤◌, length, Some}
use Rattle.j39_vehicle_times.specs.Times.{old_by, sum_known}
use Rattle.j39_vehicle_times.proofs.ages.old.Given as goal

abbrev pub invariant-trace : goal.invariant-trace
invariant-trace l = record {
  sum : sum_known (Some l.sum) (old_by l.routes.vehicle.now l.delays (length l.routes.vehicle.now.forwards.items - l._step) l.point)
      ≡ old_by l.routes.vehicle.now l.delays (length l.routes.vehicle.now.forwards.items) l.fn.start;
  few : l.sum ≤ l._step * 2 ^ 48;
}

use Rattle.std.proofs.Common.{◌≡◌, ◌-◌, ◌*◌, ◌^◌, ◌≤◌, length, Some}
use Rattle.j39_vehicle_times.specs.Times.{behind_by, sum_known}
use Rattle.j39_vehicle_times.proofs.chains.behind.Given as goal

abbrev pub invariant-chain : goal.invariant-chain
invariant-chain l = record {
  sum : sum_known (Some l.hops) (behind_by l.routes.vehicle.now l.delays (length l.routes.vehicle.now.forwards.items - l._step) l.at)
      ≡ behind_by l.routes.vehicle.now l.delays (length l.routes.vehicle.now.forwards.items) l.fn.start;
  few : l.hops ≤ l._step * 2 ^ 36;
}

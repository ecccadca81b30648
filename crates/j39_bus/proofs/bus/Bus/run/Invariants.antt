use Rattle.std.proofs.Common.{◌≡◌, length, take}
use Rattle.j39_bus.proofs.Running.{HasRun}
use Rattle.j39_bus.proofs.bus.Bus.run.Given as goal

abbrev pub invariant-loop-place : goal.invariant-loop-place
invariant-loop-place g l = record {
  ran : HasRun l.fn.self (take l.place l.steps) l.self;
  units : length l.self.units ≡ length l.fn.self.units;
}

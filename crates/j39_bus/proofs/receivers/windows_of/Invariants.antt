use Rattle.std.proofs.Common.{◌≡◌, ◌<◌, ◌≤◌, length, map, take, All, vec_len, vec_capacity}
use Rattle.j39_network.specs.declared.plan.unit_plan.UnitPlan.{UnitPlan}
use Rattle.j39_bus.proofs.receivers.windows_of.Given as goal

abbrev pub invariant-loop-unit : goal.invariant-loop-unit
invariant-loop-unit l = record {
  windows : l.windows.items ≡ map (λ (p : UnitPlan). p.window) (take l.unit-index l.units);
  len : vec_len l.windows ≡ l.unit-index;
  room : length l.units ≤ vec_capacity l.windows;
  positive : All (λ k. 0 < k) l.windows.items;
}

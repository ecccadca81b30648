use Rattle.std.proofs.Common.{◌≡◌, ◌≤◌, map, take, length, All, vec_len, vec_capacity}
use Rattle.j39_world.specs.Flows.{flow_of}
use Rattle.j39_bus.specs.inside.KeptMessages.{IsFlow}
use Rattle.j39_bus.proofs.flows.flows_of.Given as goal

abbrev pub invariant-loop-flow : goal.invariant-loop-flow
invariant-loop-flow l = record {
  flows : l.flows.items ≡ map (flow_of l.plan.groups.items) (take l.flow-index l.flow-items);
  len : vec_len l.flows ≡ l.flow-index;
  room : length l.flow-items ≤ vec_capacity l.flows;
  fit : All (IsFlow (length l.plan.units.items)) l.flows.items;
}

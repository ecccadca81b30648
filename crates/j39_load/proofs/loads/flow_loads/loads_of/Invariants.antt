use Rattle.std.proofs.Common.{◌≡◌, ◌≤◌, map, take, length, All, vec_len, vec_capacity}
use Rattle.j39_load.specs.FlowLoads.{load_of_flow}
use Rattle.j39_findings.specs.Standing.{stays_of}
use Rattle.j39_load.specs.SoundLoads.{IsSoundIfKnown}
use Rattle.j39_load.proofs.loads.flow_loads.loads_of.Given as goal

abbrev pub invariant-loop-place : goal.invariant-loop-place
invariant-loop-place l = record {
  loads : l.loads.items ≡ map (load_of_flow l.bus.timing l.bus.plan.now (stays_of l.bus.standing.now)) (take l.place l.bus.plan.now.flows.items);
  len : vec_len l.loads ≡ l.place;
  room : length l.bus.plan.now.flows.items ≤ vec_capacity l.loads;
  sound : All IsSoundIfKnown l.loads.items;
}

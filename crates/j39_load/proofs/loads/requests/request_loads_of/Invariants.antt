use Rattle.std.proofs.Common.{◌≡◌, ◌≤◌, map, take, length, All, vec_len, vec_capacity}
use Rattle.j39_load.specs.RequestLoads.{load_of_request}
use Rattle.j39_findings.specs.Standing.{stays_of}
use Rattle.j39_load.specs.SoundLoads.{IsSoundIfAsked}
use Rattle.j39_load.proofs.loads.requests.request_loads_of.Given as goal

abbrev pub invariant-loop-place : goal.invariant-loop-place
invariant-loop-place l = record {
  loads : l.loads.items
      ≡ map (load_of_request l.bus.timing l.bus.plan.now.units.items (stays_of l.bus.standing.now)) (take l.place l.bus.plan.now.requests.items);
  len : vec_len l.loads ≡ l.place;
  room : length l.bus.plan.now.requests.items ≤ vec_capacity l.loads;
  sound : All IsSoundIfAsked l.loads.items;
}

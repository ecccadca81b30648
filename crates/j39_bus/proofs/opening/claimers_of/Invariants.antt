use Rattle.std.proofs.Common.{◌≡◌, ◌≤◌, length, map, take, vec_len, vec_capacity}
use Rattle.j39_bus.specs.Stations.{unstarted}
use Rattle.j39_bus.proofs.opening.claimers_of.Given as goal

abbrev pub invariant-loop-unit : goal.invariant-loop-unit
invariant-loop-unit l = record {
  claimers : l.claimers.items ≡ map (unstarted l.kept) (take l.unit-index l.units);
  len : vec_len l.claimers ≡ l.unit-index;
  room : length l.units ≤ vec_capacity l.claimers;
}

use Rattle.std.proofs.Common.{◌≡◌, ◌≤◌, length, vec_len, vec_capacity}
use Rattle.std.specs.List.{filter, range_with_len}
use Rattle.j39_bus.specs.Stations.{station_at}
use Rattle.j39_world.specs.World.{is_other_on}
use Rattle.j39_bus.proofs.transferring.beginning.others_on.Given as goal

abbrev pub invariant-loop-place : goal.invariant-loop-place
invariant-loop-place l = record {
  targets : l.targets.items ≡ filter (is_other_on (station_at l.claimers) l.unit) (range_with_len 0 l.place);
  len : vec_len l.targets ≤ l.place;
  room : length l.claimers ≤ vec_capacity l.targets;
}

use Rattle.std.proofs.Common.{length}
use Rattle.j39_bus.specs.Queued.{IsTable, pair_in}
use Rattle.j39_world.specs.World.{is_other_on}
use Rattle.j39_bus.specs.Stations.{station_at}
use Rattle.j39_bus.proofs.Postings.{IsPosted, IsRoomLeft}
use Rattle.j39_bus.proofs.claims.post_to_others.Given as goal

abbrev pub invariant-loop-to : goal.invariant-loop-to
invariant-loop-to l = record {
  table : IsTable (length l.fn.claims.lists) l.claims.lists;
  posted : IsPosted (is_other_on (station_at l.claimers) l.from) l.from l.item (pair_in l.fn.claims.lists) l.to (pair_in l.claims.lists);
  room : IsRoomLeft l.from l.to l.fn.claims l.claims;
}

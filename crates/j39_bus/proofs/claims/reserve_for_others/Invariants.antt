use Rattle.std.proofs.Common.{◌≡◌, ◌<◌, ◌≤◌, ℕ, true}
use Rattle.j39_bus.specs.Queued.{room_at}
use Rattle.j39_world.specs.World.{is_other_on}
use Rattle.j39_bus.specs.Stations.{station_at}
use Rattle.j39_bus.proofs.claims.reserve_for_others.Given as goal

abbrev pub invariant-loop-to : goal.invariant-loop-to
invariant-loop-to l = record {
  lists : l.claims.lists ≡ l.fn.claims.lists;
  room : (v : ℕ) → v < l.to → is_other_on (station_at l.claimers) l.from v ≡ true → l.items ≤ room_at l.claims l.from v;
}

use Rattle.std.proofs.Common.{◌≡◌, length, drop}
use Rattle.j39_bus.specs.Queued.{IsTable, pair_in}
use Rattle.j39_bus.specs.inside.KeptMessages.{HasRoomTo}
use Rattle.j39_world.specs.Transfers.{added}
use Rattle.j39_bus.proofs.wire.post_each.Given as goal

abbrev pub invariant-loop-target : goal.invariant-loop-target
invariant-loop-target l = record {
  table : IsTable (length l.fn.wire.lists) l.wire.lists;
  lists : added (pair_in l.wire.lists) l.from (drop l.target-index l.targets) l.item ≡ added (pair_in l.fn.wire.lists) l.from l.targets l.item;
  room : HasRoomTo l.wire l.from (drop l.target-index l.targets);
}

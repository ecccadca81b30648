use Rattle.std.proofs.Common.{◌≡◌, ◌<◌, ℕ, get_or}
use Rattle.j39_bus.specs.Queued.{room_at}
use Rattle.j39_bus.proofs.wire.reserve_each.Given as goal

abbrev pub invariant-loop-target : goal.invariant-loop-target
invariant-loop-target l = record {
  lists : l.wire.lists ≡ l.fn.wire.lists;
  room : (j : ℕ) → j < l.target-index → 0 < room_at l.wire l.from (get_or l.targets j 0);
}

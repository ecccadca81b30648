use Rattle.std.proofs.Common.{◌≡◌, ◌≤◌, ◌*◌, ◌^◌, take, sum_by}
use Rattle.j39_load.specs.declared.frames.broadcast.Broadcast.{Broadcast}
use Rattle.j39_load.proofs.loads.broadcasts.all_packets.Given as goal

abbrev pub invariant-loop-broadcast : goal.invariant-loop-broadcast
invariant-loop-broadcast l = record {
  sum : l.packets ≡ sum_by (λ (b : Broadcast). b.packets) (take l.broadcast-index l.broadcasts);
  small : l.packets ≤ l.broadcast-index * 2 ^ 8;
}

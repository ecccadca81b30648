use Rattle.std.proofs.Common.{◌≡◌, ◌≤◌, ◌*◌, ◌^◌, take, sum_by}
use Rattle.j39_load.specs.Broadcasts.{bits_each}
use Rattle.j39_load.proofs.loads.broadcasts.wanted_packets.Given as goal

abbrev pub invariant-loop-broadcast : goal.invariant-loop-broadcast
invariant-loop-broadcast l = record {
  sum : l.bits ≡ sum_by (λ b. bits_each l.timing b.packets b.period) (take l.broadcast-index l.broadcasts);
  small : l.bits ≤ l.broadcast-index * 2 ^ 32;
}

use Rattle.std.proofs.Common.{◌≡◌, take}
use Rattle.j39_load.specs.Demands.{most_packets}
use Rattle.j39_load.proofs.waits.demands.most_packets.Given as goal

abbrev pub invariant-loop-broadcast : goal.invariant-loop-broadcast
invariant-loop-broadcast l = l.most ≡ most_packets (take l.broadcast-index l.broadcasts)

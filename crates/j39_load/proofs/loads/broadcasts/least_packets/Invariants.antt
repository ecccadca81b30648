use Rattle.j39_load.specs.Broadcasts.{least_packets}
use Rattle.j39_load.proofs.Broadcasting.{IsLeastOf}
use Rattle.j39_load.proofs.loads.broadcasts.least_packets.Given as goal

abbrev pub invariant-loop-broadcast : goal.invariant-loop-broadcast
invariant-loop-broadcast l = IsLeastOf least_packets l.broadcasts l.broadcast-index l.least

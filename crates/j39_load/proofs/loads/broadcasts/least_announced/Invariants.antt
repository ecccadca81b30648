use Rattle.j39_load.specs.Broadcasts.{least_announced}
use Rattle.j39_load.proofs.Broadcasting.{IsLeastOf}
use Rattle.j39_load.proofs.loads.broadcasts.least_announced.Given as goal

abbrev pub invariant-loop-broadcast : goal.invariant-loop-broadcast
invariant-loop-broadcast l = IsLeastOf least_announced l.broadcasts l.broadcast-index l.least

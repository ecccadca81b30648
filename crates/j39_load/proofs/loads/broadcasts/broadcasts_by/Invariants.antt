use Rattle.j39_load.specs.Broadcasts.{broadcast_by}
use Rattle.j39_load.proofs.Broadcasting.{AreKept}
use Rattle.j39_load.proofs.loads.broadcasts.broadcasts_by.Given as goal

abbrev pub invariant-loop-load : goal.invariant-loop-load
invariant-loop-load l = AreKept (broadcast_by l.unit) l.loads l.load-index l.broadcasts.items

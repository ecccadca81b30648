use Rattle.j39_load.specs.Demands.{wanted_by}
use Rattle.j39_load.proofs.Broadcasting.{AreKept}
use Rattle.j39_load.proofs.waits.demands.wants_of.Given as goal

abbrev pub invariant-loop-frames : goal.invariant-loop-frames
invariant-loop-frames l = AreKept (wanted_by l.unit) l.all l.frames-index l.wants.items

use Rattle.j39_bus.proofs.Columns.{AreDropped, in_row_or_column}
use Rattle.j39_bus.proofs.queues.Queues.clear_of.Given as goal

abbrev pub invariant-loop-other : goal.invariant-loop-other
invariant-loop-other g l = AreDropped (in_row_or_column l.unit l.other) l.fn.self l.self

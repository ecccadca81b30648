use Rattle.j39_bus.proofs.Columns.{AreDropped, in_column}
use Rattle.j39_bus.proofs.queues.Queues.clear_to.Given as goal

abbrev pub invariant-loop-from : goal.invariant-loop-from
invariant-loop-from g l = AreDropped (in_column l.to l.from) l.fn.self l.self

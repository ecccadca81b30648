use Rattle.std.proofs.Common.{◌≡◌, length}
use Rattle.j39_run.proofs.planned.run_planned.Given as goal

abbrev pub invariant-loop-unit : goal.invariant-loop-unit
invariant-loop-unit g l = length l.choosers.items ≡ l.unit-index

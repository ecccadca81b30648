use Rattle.std.proofs.Common.{drop}
use Rattle.j39_line_witnesses.proofs.Earlier.{IsDecidedBehind}
use Rattle.j39_line_witnesses.proofs.order.is_earlier.Given as goal

abbrev pub invariant-loop-choice : goal.invariant-loop-choice
invariant-loop-choice l = IsDecidedBehind l.one l.other (drop l.choice l.one) (drop l.choice l.other)

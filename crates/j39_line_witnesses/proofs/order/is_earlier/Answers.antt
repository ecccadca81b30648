use Rattle.std.proofs.Common.{drop}
use Rattle.j39_line_witnesses.proofs.Earlier.{none_at}
use Rattle.j39_line_witnesses.proofs.order.is_earlier.Goals as goal

pub returns-in-None-clause-not_so : goal.returns-in-None-clause-not_so
returns-in-None-clause-not_so c same earlier =
    none_at (drop c.loop-choice.choice c.args.one.now) c.args.other.now c.loop-choice.choice (c.in-None.ensures.lookup).0
    (c.loop-choice.invariant.to earlier)

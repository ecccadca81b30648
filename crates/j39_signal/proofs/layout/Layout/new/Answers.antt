use Rattle.std.proofs.Common.{sym, ◌∙◌}
use Rattle.j39_signal.proofs.LaidOut.{laid_out_more, fault_at, fault_behind}
use Rattle.j39_signal.proofs.layout.Layout.new.Goals as goal

pub returns-in-Some-clause-refused : goal.returns-in-Some-clause-refused
returns-in-Some-clause-refused c =
    fault_at c.args.length c.args.signals.now c.loop-i.i c.index-signals-i.result c.in-Some.fault
    c.loop-i-test.true c.index-signals-i.is c.loop-i.invariant.0 c.loop-i.invariant.1 c.in-Some.ensures.lasting (sym c.fault_after.ensures.fault ∙ c.in-Some.is)

pub loop-i-preserved : goal.loop-i-preserved
loop-i-preserved c = (
  laid_out_more c.args.length c.args.signals.now c.loop-i.i c.index-signals-i.result
      c.loop-i-test.true c.index-signals-i.is c.loop-i.invariant.0 c.in_default.ensures.none,
  fault_behind c.args.length c.args.signals.now c.loop-i.i c.index-signals-i.result _
      c.loop-i-test.true c.index-signals-i.is c.loop-i.invariant.1 (sym c.fault_after.ensures.fault ∙ c.in_default.is),
)

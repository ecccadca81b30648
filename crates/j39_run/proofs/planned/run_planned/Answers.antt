use Rattle.std.proofs.Common.{rules, ◌≡◌, length, ap, arith}
use Rattle.j39_stream.proofs.Answering.{not_begun}
use Rattle.j39_run.proofs.planned.run_planned.Goals as goal

pub returns-in_err-choosers-clause-answers : goal.returns-in_err-choosers-clause-answers
returns-in_err-choosers-clause-answers g c = not_begun _ (search rules)

pub returns-clause-answers : goal.returns-clause-answers
returns-clause-answers g c =
    let count : length c.loop-unit.choosers.items ≡ length c.args.plan.now.units.items =
    omega (arith, c.loop-unit.invariant, c.loop-unit.auto.unit-index-end, c.loop-unit-test.false, ap length c.deref-unit-items.ensures.value) in
    rw count at c.run_text.ensures.answers

pub returns-clause-unread : goal.returns-clause-unread
returns-clause-unread g c =
    let count : length c.loop-unit.choosers.items ≡ length c.args.plan.now.units.items =
    omega (arith, c.loop-unit.invariant, c.loop-unit.auto.unit-index-end, c.loop-unit-test.false, ap length c.deref-unit-items.ensures.value) in
    rw count at c.run_text.ensures.unread

pub returns-clause-whole : goal.returns-clause-whole
returns-clause-whole g c =
    let count : length c.loop-unit.choosers.items ≡ length c.args.plan.now.units.items =
    omega (arith, c.loop-unit.invariant, c.loop-unit.auto.unit-index-end, c.loop-unit-test.false, ap length c.deref-unit-items.ensures.value) in
    rw count at c.run_text.ensures.whole

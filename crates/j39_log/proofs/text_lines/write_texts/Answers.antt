use Rattle.std.proofs.Common.{append_assoc}
use Rattle.std.proofs.lemmas.List.{append-nil, drop_all}
use Rattle.j39_log.specs.TextLines.{text_lines}
use Rattle.j39_log.proofs.TextLists.{lines_from}
use Rattle.j39_log.proofs.text_lines.write_texts.Goals as goal

pub loop-plan-preserved : goal.loop-plan-preserved
loop-plan-preserved c =
    let plan = c.plan-item.result in
    let next = lines_from c.args.texts.now c.args.bytes.now c.loop-plan.plan-index plan c.loop-plan-test.true in
    rw (c.in_ok-write_text.ensures, append_assoc) (rw (next, ← c.plan-item.is) at c.loop-plan.invariant)

pub returns : goal.returns
unfolding text_lines
returns c =
    let done = drop_all c.loop-plan.plan-index c.args.texts.now c.loop-plan-test.false in
    rw (done, append-nil) at c.loop-plan.invariant

use Rattle.std.proofs.Common.{arith}
use Rattle.j39_audit.specs.AuditText.{subjects, word_count, word_lines}
use Rattle.j39_audit.specs.inside.Recalling.{settings_of}
use Rattle.j39_audit.proofs.Writing.{written_all, written_more, written_none}
use Rattle.j39_audit.proofs.summary.write_word_lines.Goals as goal

pub loop-subject-init : goal.loop-subject-init
loop-subject-init c = record { written = written_none; few = omega arith }

pub loop-subject-preserved : goal.loop-subject-preserved
loop-subject-preserved c =
    let before = c.loop-subject.invariant in
    let more = c.in_ok-count.ensures in
    record { written = written_more before.written more.text more.count; few = omega (arith, before.few, more.few) }

pub returns : goal.returns
unfolding word_lines word_count
returns c =
    let before = c.loop-subject.invariant in
    let bound = c.subjects-subject-end.ensures in
    let all = written_all (subjects (settings_of c.args.basis.now) c.args.word)
    (omega (arith, c.loop-subject-test.false, c.loop-subject.auto.subject-end, bound.value)) before.written in
    record { text = all.text_is; count = all.count_is; few = omega (arith, before.few, bound.few, c.loop-subject.auto.subject-end) }

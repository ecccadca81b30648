use Rattle.std.proofs.Common.{◌++◌, ap, ◌∙◌, arith}
use Rattle.j39_audit.specs.AuditText.{groups_named, line_reported, lines_reported, subject_count, subject_lines}
use Rattle.j39_audit.specs.declared.mark.Mark.{Mark}
use Rattle.j39_audit.specs.inside.Auditing.{tallied}
use Rattle.j39_audit.specs.inside.Recalling.{settings_of}
use Rattle.j39_audit.proofs.Writing.{written_all, written_more, written_none}
use Rattle.j39_audit.proofs.summary.write_subject_lines.Goals as goal

pub loop-group-init : goal.loop-group-init
loop-group-init c = record { written = written_none; few = omega arith }

pub loop-group-preserved : goal.loop-group-preserved
loop-group-preserved c =
    let look = tallied c.args.log.now in
    let before = c.loop-group.invariant in
    let more = c.in_ok-count.ensures in
    let mark = c.reported_mark-mark.ensures in
    record {
      written = written_more before.written (more.text ∙ ap (λ (m : Mark). c.loop-group.text ++ line_reported c.args.basis.now.plan.now look m) mark)
          (more.count ∙ ap (λ (m : Mark). lines_reported (look m)) mark);
      few = omega (arith, before.few, more.few);
    }

pub returns : goal.returns
unfolding subject_lines subject_count
returns c =
    let before = c.loop-group.invariant in
    let bound = c.groups_named-group-end.ensures in
    let all = written_all (groups_named (settings_of c.args.basis.now) c.args.word)
    (omega (arith, c.loop-group-test.false, c.loop-group.auto.group-end, bound.value)) before.written in
    record { text = all.text_is; count = all.count_is; few = omega (arith, before.few, bound.few, c.loop-group.auto.group-end) }

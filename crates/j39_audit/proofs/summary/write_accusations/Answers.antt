use Rattle.std.proofs.Common.{◌++◌, ap, ◌∙◌, arith}
use Rattle.j39_audit.specs.AuditText.{accusation_count, accusations, word_count, word_lines}
use Rattle.j39_audit.specs.declared.mark.Word.{Word}
use Rattle.j39_audit.specs.inside.Auditing.{tallied}
use Rattle.j39_audit.specs.inside.Recalling.{settings_of}
use Rattle.j39_audit.proofs.Writing.{written_all, written_more, written_none}
use Rattle.j39_audit.proofs.summary.write_accusations.Goals as goal

pub loop-place-init : goal.loop-place-init
loop-place-init c = record { written = written_none; few = omega arith; within = omega arith }

pub loop-place-preserved : goal.loop-place-preserved
loop-place-preserved c =
    let s = settings_of c.args.basis.now in
    let look = tallied c.args.log.now in
    let before = c.loop-place.invariant in
    let more = c.in_ok-count.ensures in
    let word = c.accusing_at.ensures in
    record {
      written = written_more before.written (more.text ∙ ap (λ (w : Word). c.loop-place.text ++ word_lines s look w) word)
          (more.count ∙ ap (λ (w : Word). word_count s look w) word);
      few = omega (arith, before.few, more.few);
      within = omega (arith, c.loop-place-test.true);
    }

pub returns : goal.returns
unfolding accusations accusation_count
returns c =
    let before = c.loop-place.invariant in
    let all = written_all 19 (omega (arith, c.loop-place-test.false, before.within)) before.written in
    record { text = all.text_is; count = all.count_is }

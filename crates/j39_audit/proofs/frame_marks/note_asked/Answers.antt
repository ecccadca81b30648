use Rattle.std.proofs.Common.{Bool, true, Option, subst}
use Rattle.std.proofs.lemmas.Result.{IfOk-weaker}
use Rattle.j39_audit.specs.Claiming.{was_asked_for}
use Rattle.j39_audit.specs.Looking.{answer_noted, answers_request, noted_if}
use Rattle.j39_audit.specs.declared.mark.Mark.{Mark}
use Rattle.j39_audit.specs.inside.Recalling.{Notes, known_by, sent_as, settings_of}
use Rattle.j39_audit.proofs.Noting.{notes_both}
use Rattle.j39_audit.proofs.frame_marks.note_asked.Goals as goal

pub returns : goal.returns
returns c =
    let line = c.args.line in
    let between = c.note_answer.new.tally in
    let new = c.note_if.new.tally in
    let s = settings_of c.args.basis.now in
    let k = known_by c.args.known.now in
    let m = sent_as c.args.message.now in
    let first = subst (λ (o : Option Mark). Notes c.args.tally.now between (answer_noted line (answers_request s k m) o)) c.requires.mark
    (subst (λ (b : Bool). Notes c.args.tally.now between (answer_noted line b c.args.mark)) c.requires.answers c.in_ok-note_answer.ensures) in
    IfOk-weaker c.note_if.result _ _
    (λ _ last.
    notes_both first
    (subst (λ (b : Mark). Notes between new (noted_if (was_asked_for s k true m.number m.source)
    (record { mark = b; line = line; detail = 0 }))) c.make_mark.ensures
    (subst (λ (b : Bool). Notes between new
    (noted_if b (record { mark = c.make_mark.result; line = line; detail = 0 }))) c.was_asked_for-besides.ensures last)))
    c.note_if.ensures

use Rattle.std.proofs.Common.{◌≡◌, Bool, Option, sym, ap, subst, ◌∙◌}
use Rattle.std.proofs.lemmas.Result.{IfOk-weaker}
use Rattle.std.specs.Option.{option_map}
use Rattle.j39_audit.specs.Looking.{answers_request, mark_noted, message_noted, told, told_of}
use Rattle.j39_audit.specs.SentMessages.{deviation}
use Rattle.j39_audit.specs.declared.mark.Mark.{Mark}
use Rattle.j39_audit.specs.declared.messages.UnitMessage.{UnitMessage}
use Rattle.j39_audit.specs.inside.Recalling.{Notes, known_by, sent_as, settings_of}
use Rattle.j39_audit.proofs.Noting.{notes_both}
use Rattle.j39_audit.proofs.frame_marks.note_message.Goals as goal

pub returns : goal.returns
returns c =
    let s = settings_of c.args.basis.now in
    let k = known_by c.args.known.now in
    let m = sent_as c.in-Some.message in
    let same : c.told_of.result ≡ told s k m = c.told_of.ensures ∙ ap (λ (b : Bool). told_of b c.deviation-mark.result) c.answers_request-answers.ensures
    ∙ ap (λ (o : Option Mark). told_of (answers_request s k m) o) c.deviation-mark.ensures in
    IfOk-weaker c.note_asked.result _ _
    (λ _ asked.
    subst (λ (o : Option UnitMessage). Notes c.args.tally.now c.note_asked.new.tally
    (message_noted s k c.args.line (option_map sent_as o))) (sym c.in-Some.is)
    (notes_both
    (subst (λ (o : Option Mark). Notes c.args.tally.now c.note_deviation.new.tally (mark_noted c.args.line o)) same c.in_ok-note_deviation.ensures)
    (notes_both c.in_ok-note_flows.ensures asked)))
    c.note_asked.ensures

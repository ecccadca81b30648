use Rattle.std.proofs.Common.{◌∷◌, [], Bool, Option, ap, subst, ◌∙◌}
use Rattle.j39_audit.specs.Looking.{counted, message_noted, noted_if}
use Rattle.j39_audit.specs.SentMessages.{SentMessage, noted_at}
use Rattle.j39_audit.specs.declared.mark.Mark.{Mark}
use Rattle.j39_audit.specs.declared.mark.Word.TheVariants.{Urgent}
use Rattle.j39_audit.specs.inside.Recalling.{Notes, known_by, settings_of}
use Rattle.j39_audit.proofs.Noting.{notes_both}
use Rattle.j39_audit.proofs.frame_marks.note_counted.Goals as goal

pub returns : goal.returns
unfolding counted
returns c =
    let first = subst (λ (m : Mark). Notes c.args.tally.now c.note.new.self (record { mark = m; line = c.args.line; detail = 0 } ∷ [])) c.make_mark.ensures
    c.in_ok-note.ensures in
    let message = subst (λ (m : Option SentMessage). Notes c.note.new.self c.note_message.new.tally
    (message_noted (settings_of c.args.basis.now) (known_by c.args.known.now) c.args.line m)) c.message_of.ensures c.in_ok-note_message.ensures in
    let last = subst (Notes c.note_request.new.tally c.note_if.new.tally)
    (ap (λ (m : Mark). noted_if c.is_urgent-urgent.result (record { mark = m; line = c.args.line; detail = 0 })) c.make_mark-2.ensures
    ∙ ap (λ (is : Bool). noted_if is (noted_at c.args.line Urgent c.args.unit 0)) c.is_urgent-urgent.ensures)
    c.in_ok-note_if.ensures in
    notes_both (notes_both (notes_both first message) c.in_ok-note_request.ensures) last

use Rattle.std.proofs.Common.{◌≡◌, ◌∷◌, [], Bool, true, cond, Option, Some, sym, subst}
use Rattle.std.proofs.lemmas.Result.{IfOk-weaker}
use Rattle.j39_audit.specs.Looking.{answer_noted, answer_of}
use Rattle.j39_audit.specs.declared.mark.Mark.{Mark}
use Rattle.j39_audit.specs.inside.Recalling.{Notes}
use Rattle.j39_audit.proofs.Noting.{notes_both}
use Rattle.j39_audit.proofs.frame_marks.note_answer.Goals as goal

pub returns : goal.returns
returns c =
    let old = c.args.tally.now in
    let line = c.args.line in
    let new = c.note-2.new.self in
    let m = c.in-Some.mark in
    let answers : c.args.answers ≡ true = c.if-not-answers.false in
    IfOk-weaker c.note-2.result _ _
    (λ _ second.
    let counted = subst (λ (k : Mark). Notes c.note.new.self new (record { mark = k; line = line; detail = 0 } ∷ [])) c.make_mark.ensures second in
    subst (λ (o : Option Mark). Notes old new (answer_noted line c.args.answers o)) (sym c.in-Some.is)
    (subst (λ (b : Bool). Notes old new (cond b (answer_of line (Some m)) [])) (sym answers) (notes_both c.in_ok-note.ensures counted)))
    c.note-2.ensures

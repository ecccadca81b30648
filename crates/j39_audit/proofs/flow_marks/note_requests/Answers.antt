use Rattle.std.proofs.Common.{◌∷◌, [], Bool, List, if◌then◌else◌, sym, ap, subst, ◌∙◌}
use Rattle.std.specs.Prelude.{OnOk}
use Rattle.j39_audit.specs.Counting.{Noted}
use Rattle.j39_audit.specs.SentMessages.{all_marked, is_nearest_request, requests_noted}
use Rattle.j39_audit.specs.declared.mark.Mark.{Mark}
use Rattle.j39_audit.specs.declared.mark.Word.TheVariants.{Asked}
use Rattle.j39_audit.specs.inside.Recalling.{Notes, known_by, sent_as, settings_of}
use Rattle.j39_audit.proofs.Noting.{notes_none}
use Rattle.j39_audit.proofs.Singling.{nearest_are}
use Rattle.j39_audit.proofs.flow_marks.note_requests.Goals as goal

pub returns-in-Nowhere : goal.returns-in-Nowhere
unfolding requests_noted
returns-in-Nowhere c =
    let nearest = nearest_are c.requests_meant.ensures (sym c.nearest.ensures ∙ c.in-Nowhere.is) in
    rw nearest.alone_is (notes_none c.args.tally.now)

pub returns-in-At : goal.returns-in-At
unfolding requests_noted
returns-in-At c =
    let line = c.args.line in
    let test = is_nearest_request (settings_of c.args.basis.now) (known_by c.args.known.now) (sent_as c.args.message.now) in
    let nearest = nearest_are c.requests_meant.ensures (sym c.nearest.ensures ∙ c.in-At.is) in
    subst (λ (more : List Noted). OnOk c.note.result (Notes c.args.tally.now c.note.new.self more))
    (ap (λ (mark : Mark). record { mark = mark; line = line; detail = 0 } ∷ []) c.make_mark.ensures
    ∙ sym
    (ap (λ (is : Bool). if is then all_marked line Asked test c.args.basis.now.plan.now.requests.items else []) nearest.alone_is ∙ nearest.marks line Asked))
    c.note.ensures

pub returns-in-Several : goal.returns-in-Several
unfolding requests_noted
returns-in-Several c =
    let nearest = nearest_are c.requests_meant.ensures (sym c.nearest.ensures ∙ c.in-Several.is) in
    rw nearest.alone_is (notes_none c.args.tally.now)

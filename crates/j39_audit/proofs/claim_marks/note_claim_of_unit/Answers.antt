use Rattle.std.proofs.Common.{Bool, ap, subst, ◌∙◌}
use Rattle.j39_audit.specs.Looking.{noted_if}
use Rattle.j39_audit.specs.SentMessages.{noted_at}
use Rattle.j39_audit.specs.declared.mark.Mark.{Mark}
use Rattle.j39_audit.specs.declared.mark.Word.TheVariants.{Urgent}
use Rattle.j39_audit.specs.inside.Recalling.{Notes}
use Rattle.j39_audit.proofs.Noting.{notes_both}
use Rattle.j39_audit.proofs.claim_marks.note_claim_of_unit.Goals as goal

pub returns : goal.returns
returns c =
    notes_both c.in_ok-note_place.ensures
    (subst (Notes c.note_place.new.tally c.note_if.new.tally)
    (ap (λ (m : Mark). noted_if c.is_above_unplanned-urgent.result (record { mark = m; line = c.args.line; detail = 0 })) c.make_mark.ensures
    ∙ ap (λ (is : Bool). noted_if is (noted_at c.args.line Urgent c.args.unit 0)) c.is_above_unplanned-urgent.ensures)
    c.in_ok-note_if.ensures)

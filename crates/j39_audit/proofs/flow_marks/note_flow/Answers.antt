use Rattle.std.proofs.Common.{◌&&◌, ◌||◌, ◌∷◌, not, [], List, length, refl, sym, ap, subst, ◌∙◌}
use Rattle.std.specs.Prelude.{OnOk}
use Rattle.std.proofs.lemmas.Option.{slice_get_read}
use Rattle.j39_network.specs.declared.plan.flow_plan.FlowPlan.{FlowPlan}
use Rattle.j39_audit.specs.Counting.{Noted}
use Rattle.j39_audit.specs.SentMessages.{is_of, is_near}
use Rattle.j39_audit.specs.declared.mark.Mark.{Mark}
use Rattle.j39_audit.specs.declared.mark.Word.TheVariants.{Unclear}
use Rattle.j39_audit.specs.inside.Recalling.{Notes, known_by, sent_as, settings_of}
use Rattle.j39_audit.proofs.Noting.{marked_here, marked_not, notes_none}
use Rattle.j39_audit.proofs.flow_marks.note_flow.Goals as goal

pub returns-then-is_nearest_flow : goal.returns-then-is_nearest_flow
returns-then-is_nearest_flow c =
    let s = settings_of c.args.basis.now in
    let k = known_by c.args.known.now in
    let m = sent_as c.args.message.now in
    let all : List FlowPlan = c.args.basis.now.plan.now.flows.items in
    let at = slice_get_read all (length all) c.args.place c.index-flow.result.now refl c.requires c.index-flow.ensures in
    subst (λ (more : List Noted). OnOk c.note.result (Notes c.args.tally.now c.note.new.self more))
    (ap (λ (mark : Mark). record { mark = mark; line = c.args.line; detail = 0 } ∷ []) c.make_mark.ensures
    ∙ sym (marked_here c.args.line Unclear (λ (x : FlowPlan). is_of s k m x && (is_near s k m x.to || not c.args.some_near)) all c.args.place
    c.index-flow.result.now at (sym c.is_nearest_flow.ensures ∙ c.if-is_nearest_flow.true)))
    c.note.ensures

pub returns-else-is_nearest_flow : goal.returns-else-is_nearest_flow
returns-else-is_nearest_flow c =
    let s = settings_of c.args.basis.now in
    let k = known_by c.args.known.now in
    let m = sent_as c.args.message.now in
    let all : List FlowPlan = c.args.basis.now.plan.now.flows.items in
    let at = slice_get_read all (length all) c.args.place c.index-flow.result.now refl c.requires c.index-flow.ensures in
    subst (Notes c.args.tally.now c.args.tally.now)
    (sym (marked_not c.args.line Unclear (λ (x : FlowPlan). is_of s k m x && (is_near s k m x.to || not c.args.some_near)) all c.args.place
    c.index-flow.result.now at (sym c.is_nearest_flow.ensures ∙ c.if-is_nearest_flow.false)))
    (notes_none c.args.tally.now)

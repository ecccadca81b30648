use Rattle.std.proofs.Common.{◌&&◌, ◌||◌, ◌∷◌, not, [], Bool, List, if◌then◌else◌, sym, ap, subst, ◌∙◌}
use Rattle.std.specs.Prelude.{OnOk}
use Rattle.j39_network.specs.declared.plan.flow_plan.FlowPlan.{FlowPlan}
use Rattle.j39_audit.specs.Counting.{Noted}
use Rattle.j39_audit.specs.SentMessages.{all_marked, flows_noted, is_near, is_nearest_flow, is_of, noted_at}
use Rattle.j39_audit.specs.declared.mark.Mark.{Mark}
use Rattle.j39_audit.specs.declared.mark.Word.TheVariants.{Seen, Unclear}
use Rattle.j39_audit.specs.inside.Recalling.{Notes, known_by, sent_as, settings_of}
use Rattle.j39_audit.proofs.Noting.{notes_none}
use Rattle.j39_audit.proofs.Singling.{nearest_are, some_in_all}
use Rattle.j39_audit.proofs.flow_marks.note_flows.Goals as goal

pub returns-in-Nowhere : goal.returns-in-Nowhere
unfolding flows_noted
returns-in-Nowhere c =
    let nearest = nearest_are c.requires (sym c.nearest.ensures ∙ c.in-Nowhere.is) in
    subst (Notes c.args.tally.now c.args.tally.now) (sym (nearest.marks c.args.line _)) (notes_none c.args.tally.now)

pub returns-in-At : goal.returns-in-At
unfolding flows_noted
returns-in-At c =
    let line = c.args.line in
    let place = c.in-At.place in
    let nearest = nearest_are c.requires (sym c.nearest.ensures ∙ c.in-At.is) in
    subst (λ (more : List Noted). OnOk c.note.result (Notes c.args.tally.now c.note.new.self more))
    (ap (λ (mark : Mark). record { mark = mark; line = line; detail = 0 } ∷ []) c.make_mark.ensures
    ∙ sym (nearest.marks line _ ∙ ap (λ (is : Bool). noted_at line (if is then Seen else Unclear) place 0 ∷ []) nearest.alone_is))
    c.note.ensures

pub returns-in-Several : goal.returns-in-Several
unfolding flows_noted
returns-in-Several c =
    let s = settings_of c.args.basis.now in
    let k = known_by c.args.known.now in
    let m = sent_as c.args.message.now in
    let flows : List FlowPlan = c.args.basis.now.plan.now.flows.items in
    let near = some_in_all (λ (f : FlowPlan). is_of s k m f && is_near s k m f.to) flows c.args.meant.near c.requires.near_is in
    let nearest = nearest_are c.requires (sym c.nearest.ensures ∙ c.in-Several.is) in
    subst (λ (more : List Noted). OnOk c.note_each_flow.result (Notes c.args.tally.now c.note_each_flow.new.tally more))
    (ap (λ (some : Bool). all_marked c.args.line Unclear (λ (f : FlowPlan). is_of s k m f && (is_near s k m f.to || not some)) flows)
    (c.has_near.ensures ∙ sym near)
    ∙ sym (ap (λ (is : Bool). all_marked c.args.line (if is then Seen else Unclear) (is_nearest_flow s k m) flows) nearest.alone_is))
    c.note_each_flow.ensures

use Rattle.std.proofs.Common.{◌≡◌, ◌&&◌, ◌||◌, not, ℕ, length, subst, arith}
use Rattle.j39_network.specs.declared.plan.flow_plan.FlowPlan.{FlowPlan}
use Rattle.j39_audit.specs.Below.{each_below}
use Rattle.j39_audit.specs.SentMessages.{all_marked, is_of, is_near, marked}
use Rattle.j39_audit.specs.declared.mark.Word.TheVariants.{Unclear}
use Rattle.j39_audit.specs.inside.Recalling.{Notes, known_by, sent_as, settings_of}
use Rattle.j39_audit.proofs.Noting.{notes_more, notes_none_below}
use Rattle.j39_audit.proofs.flow_marks.note_each_flow.Goals as goal

pub loop-place-init : goal.loop-place-init
loop-place-init c = notes_none_below c.args.tally.now _

pub loop-place-preserved : goal.loop-place-preserved
loop-place-preserved c = notes_more _ c.loop-place.place c.loop-place.invariant c.in_ok-note_flow.ensures

pub returns : goal.returns
unfolding all_marked
returns c =
    let s = settings_of c.args.basis.now in
    let k = known_by c.args.known.now in
    let m = sent_as c.args.message.now in
    let all = c.args.basis.now.plan.now.flows.items in
    let count = c.len-place-end.ensures in
    let done = c.loop-place-test.false in
    let end : c.loop-place.place ≡ length all = omega (arith, count, done) in
    subst (λ (n : ℕ). Notes c.args.tally.now c.loop-place.tally (each_below
    (marked c.args.line Unclear (λ (x : FlowPlan). is_of s k m x && (is_near s k m x.to || not c.args.some_near)) all) n)) end
    c.loop-place.invariant

use Rattle.std.proofs.Common.{◌&&◌, ◌||◌, not}
use Rattle.j39_network.specs.declared.plan.flow_plan.FlowPlan.{FlowPlan}
use Rattle.j39_audit.specs.Below.{each_below}
use Rattle.j39_audit.specs.SentMessages.{is_near, is_of, marked}
use Rattle.j39_audit.specs.declared.mark.Word.TheVariants.{Unclear}
use Rattle.j39_audit.specs.inside.Recalling.{Notes, known_by, sent_as, settings_of}
use Rattle.j39_audit.proofs.flow_marks.note_each_flow.Given as goal

abbrev pub invariant-loop-place : goal.invariant-loop-place
invariant-loop-place l =
    let s = settings_of l.basis in
    let k = known_by l.known in
    let m = sent_as l.message in
    Notes l.fn.tally l.tally
    (each_below (marked l.line Unclear (λ (x : FlowPlan). is_of s k m x && (is_near s k m x.to || not l.some_near)) l.basis.plan.now.flows.items) l.place)

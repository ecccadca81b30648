use Rattle.j39_network.specs.declared.plan.flow_plan.FlowPlan.{FlowPlan}
use Rattle.j39_audit.specs.SentMessages.{is_near, is_of}
use Rattle.j39_audit.specs.inside.Recalling.{known_by, sent_as, settings_of}
use Rattle.j39_audit.specs.inside.Singling.{AreMeant}
use Rattle.j39_audit.proofs.flow_marks.flows_meant.Given as goal

abbrev pub invariant-loop-place : goal.invariant-loop-place
invariant-loop-place l =
    let s = settings_of l.basis in
    let k = known_by l.known in
    let m = sent_as l.message in
    AreMeant (is_of s k m) (λ (f : FlowPlan). is_near s k m f.to) l.basis.plan.now.flows.items l.place l.meant

use Rattle.j39_network.specs.declared.plan.request_plan.RequestPlan.{RequestPlan}
use Rattle.j39_audit.specs.SentMessages.{asks_by_plan, is_near}
use Rattle.j39_audit.specs.inside.Recalling.{known_by, sent_as, settings_of}
use Rattle.j39_audit.specs.inside.Singling.{AreMeant}
use Rattle.j39_audit.proofs.flow_marks.requests_meant.Given as goal

abbrev pub invariant-loop-place : goal.invariant-loop-place
invariant-loop-place l =
    let s = settings_of l.basis in
    let k = known_by l.known in
    let m = sent_as l.message in
    AreMeant (asks_by_plan s k m) (λ (r : RequestPlan). is_near s k m r.to) l.basis.plan.now.requests.items l.place l.meant

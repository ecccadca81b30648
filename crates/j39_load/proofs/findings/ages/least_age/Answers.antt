use Rattle.std.proofs.Common.{◌++◌, ℕ, List, take, Option, sym, ap, ◌∙◌}
use Rattle.j39_network.specs.declared.plan.flow_plan.FlowPlan.{FlowPlan}
use Rattle.j39_load.specs.Ages.{ages_for, least, smaller_known}
use Rattle.j39_load.specs.LineLists.{lines_of_each}
use Rattle.j39_load.proofs.Before.{more}
use Rattle.j39_load.proofs.LeastKnown.{least_of_both}
use Rattle.j39_load.proofs.findings.ages.least_age.Goals as goal

pub loop-place-preserved : goal.loop-place-preserved
loop-place-preserved c =
    let k = c.loop-place.place in
    let flows = c.args.flows.now in
    let flow = c.index-flows-place.result in
    let report = ages_for c.args.timing c.args.requests.now c.args.delays.now c.args.need.now in
    let before : List ℕ = lines_of_each report 0 (take k flows) in
    c.smaller-least.ensures
    ∙ ap (λ (o : Option ℕ). smaller_known o c.age_for.result) c.loop-place.invariant
    ∙ ap (smaller_known (least before)) c.age_for.ensures
    ∙ sym (least_of_both before (report k flow))
    ∙ ap (λ (f : FlowPlan). least (before ++ report k f)) c.index-flows-place.is
    ∙ ap least (sym (more report k flows flow c.loop-place-test.true))

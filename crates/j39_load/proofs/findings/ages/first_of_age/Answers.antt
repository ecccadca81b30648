use Rattle.std.proofs.Common.{◌++◌, ℕ, List, take, Option, sym, ap, ◌∙◌}
use Rattle.std.specs.Option.{option_or}
use Rattle.j39_network.specs.declared.plan.flow_plan.FlowPlan.{FlowPlan}
use Rattle.j39_load.specs.Ages.{first_of, place_of_age}
use Rattle.j39_load.specs.LineLists.{lines_of_each}
use Rattle.j39_load.proofs.Before.{more}
use Rattle.j39_load.proofs.LeastKnown.{first_of_both}
use Rattle.j39_load.proofs.findings.ages.first_of_age.Goals as goal

pub loop-place-preserved : goal.loop-place-preserved
loop-place-preserved c =
    let k = c.loop-place.place in
    let flows = c.args.flows.now in
    let flow = c.index-flows-place.result in
    let report = place_of_age c.args.timing c.args.requests.now c.args.delays.now c.args.need.now c.args.age in
    let before : List ℕ = lines_of_each report 0 (take k flows) in
    c.or-first.ensures
    ∙ ap (λ (o : Option ℕ). option_or o c.place_of_age.result) c.loop-place.invariant
    ∙ ap (option_or (first_of before)) c.place_of_age.ensures
    ∙ sym (first_of_both before (report k flow))
    ∙ ap (λ (f : FlowPlan). first_of (before ++ report k f)) c.index-flows-place.is
    ∙ ap first_of (sym (more report k flows flow c.loop-place-test.true))

use Rattle.std.proofs.Common.{get_or, sym, arith, ◌∙◌}
use Rattle.std.proofs.lemmas.Bool.{and_from}
use Rattle.j39_network.specs.declared.plan.flow_plan.FlowPlan.{FlowPlan}
use Rattle.j39_follow.specs.Fits.{fits, fits_all, is_for_all}
use Rattle.j39_follow.proofs.Flows.ToAll.{first_that_passes, none_that_passes, unfit_for_all}
use Rattle.j39_follow.proofs.flow.sending.flow_to_all.Goals as goal

pub loop-place-init : goal.loop-place-init
loop-place-init c = λ k flow less. unfit_for_all c.args.group c.args.sent (get_or c.args.groups.now.flows.items k flow) (c.requires k flow less)

pub returns-then-is_fit : goal.returns-then-is_fit
returns-then-is_fit c =
    let flow : FlowPlan = c.index-flow.result.now in
    let passes = and_from (is_for_all flow.to) (fits c.args.group c.args.sent flow) (sym c.is_for_all.ensures ∙ c.if-is_for_all.true)
    (sym c.is_fit.ensures ∙ c.if-is_fit.true) in
    first_that_passes (fits_all c.args.group c.args.sent) c.plan-plan.result.now c.args.groups.now c.loop-place.place flow c.plan-plan.ensures (omega arith)
    c.index-flow.ensures passes c.loop-place.invariant

pub returns : goal.returns
returns c =
    none_that_passes (fits_all c.args.group c.args.sent) c.plan-plan.result.now c.args.groups.now c.loop-place.place c.plan-plan.ensures (omega arith)
    c.loop-place.invariant

use Rattle.std.proofs.Common.{sym, arith, ◌∙◌}
use Rattle.j39_follow.specs.Fits.{fits}
use Rattle.j39_follow.proofs.Flows.ToAll.{first_that_passes, none_that_passes}
use Rattle.j39_follow.proofs.flow.sending.first_flow.Goals as goal

pub returns-then-is_fit : goal.returns-then-is_fit
returns-then-is_fit c =
    first_that_passes (fits c.args.group c.args.sent) c.plan-plan.result.now c.args.groups.now c.loop-place.place c.index.result.now c.plan-plan.ensures
    (omega arith) c.index.ensures (sym c.is_fit.ensures ∙ c.if-is_fit.true) c.loop-place.invariant

pub returns : goal.returns
returns c =
    none_that_passes (fits c.args.group c.args.sent) c.plan-plan.result.now c.args.groups.now c.loop-place.place c.plan-plan.ensures (omega arith)
    c.loop-place.invariant

use Rattle.std.proofs.Common.{[], ◌++◌, ap, ◌∙◌}
use Rattle.j39_network.specs.declared.plan.flow_plan.FlowPlan.{FlowPlan}
use Rattle.j39_load.specs.LineLists.{lines_of_each}
use Rattle.j39_line_findings.specs.Conditions.{astray_by}
use Rattle.j39_line_witnesses.specs.FlowTests.{flow_test}
use Rattle.j39_line_witnesses.specs.Presences.{condition_of, conditions_in}
use Rattle.j39_line_witnesses.proofs.Listing.{one_further}
use Rattle.j39_line_witnesses.proofs.conditions.astray_by_each.Goals as goal

pub loop-answered-init : goal.loop-answered-init
unfolding lines_of_each
loop-answered-init c = ap conditions_in c.new-found.ensures.items

pub loop-answered-preserved : goal.loop-answered-preserved
loop-answered-preserved c =
    one_further condition_of (astray_by c.args.line.now c.args.place (flow_test c.args.line.now.plan.groups.items c.args.one.now)
    (flow_test c.args.line.now.plan.groups.items c.args.other.now)) c.loop-answered.answered c.args.line.now.plan.flows.items c.flow-item.result [] c.loop-answered.found.items c.add_astray_by.new.found.items
    (rw c.deref-flow-items.ensures.value at c.loop-answered-test.true) c.loop-answered.invariant
    (c.in_ok-add_astray_by.ensures ∙ ap (λ (x : FlowPlan). conditions_in c.loop-answered.found.items
    ++ (astray_by c.args.line.now c.args.place (flow_test c.args.line.now.plan.groups.items c.args.one.now)
    (flow_test c.args.line.now.plan.groups.items c.args.other.now)) c.loop-answered.answered x) (rw c.deref-flow-items.ensures.value at c.flow-item.is))

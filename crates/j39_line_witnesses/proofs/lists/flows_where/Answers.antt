use Rattle.std.proofs.Common.{[], ◌++◌, ap, ◌∙◌}
use Rattle.j39_network.specs.declared.plan.flow_plan.FlowPlan.{FlowPlan}
use Rattle.j39_load.specs.LineLists.{lines_of_each}
use Rattle.j39_line_findings.specs.Conditions.{flow_where}
use Rattle.j39_line_witnesses.specs.FlowTests.{flow_test}
use Rattle.j39_line_witnesses.specs.Presences.{parts_in}
use Rattle.j39_line_witnesses.proofs.Listing.{one_further}
use Rattle.j39_line_witnesses.proofs.lists.flows_where.Goals as goal

pub loop-place-init : goal.loop-place-init
unfolding lines_of_each
loop-place-init c = ap parts_in c.new-found.ensures.items

pub loop-place-preserved : goal.loop-place-preserved
loop-place-preserved c =
    one_further (λ parts. parts.items)
    (flow_where
    (flow_test c.args.line.now.plan.groups.items c.args.test.now)) c.loop-place.place c.args.line.now.plan.flows.items c.flow-item.result [] c.loop-place.found.items c.add_flow_where.new.found.items
    (rw c.deref-flow-items.ensures.value at c.loop-place-test.true) c.loop-place.invariant
    (c.in_ok-add_flow_where.ensures ∙ ap (λ (x : FlowPlan). parts_in c.loop-place.found.items
    ++ (flow_where (flow_test c.args.line.now.plan.groups.items c.args.test.now)) c.loop-place.place x)
    (rw c.deref-flow-items.ensures.value at c.flow-item.is))

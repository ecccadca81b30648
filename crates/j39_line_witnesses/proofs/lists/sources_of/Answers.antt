use Rattle.std.proofs.Common.{[], ◌++◌, ap, ◌∙◌}
use Rattle.j39_network.specs.declared.plan.flow_plan.FlowPlan.{FlowPlan}
use Rattle.j39_load.specs.LineLists.{lines_of_each}
use Rattle.j39_line_findings.specs.Conditions.{source_parts}
use Rattle.j39_line_witnesses.specs.Presences.{parts_in}
use Rattle.j39_line_witnesses.proofs.Listing.{one_further}
use Rattle.j39_line_witnesses.proofs.lists.sources_of.Goals as goal

pub loop-place-init : goal.loop-place-init
unfolding lines_of_each
loop-place-init c = ap parts_in c.new-found.ensures.items

pub loop-place-preserved : goal.loop-place-preserved
loop-place-preserved c =
    one_further (λ parts. parts.items)
    (source_parts c.args.line.now c.args.need.now) c.loop-place.place c.args.line.now.plan.flows.items c.flow-item.result [] c.loop-place.found.items c.add_source.new.found.items
    (rw c.deref-flow-items.ensures.value at c.loop-place-test.true) c.loop-place.invariant
    (c.in_ok-add_source.ensures ∙ ap (λ (x : FlowPlan). parts_in c.loop-place.found.items
    ++ (source_parts c.args.line.now c.args.need.now) c.loop-place.place x) (rw c.deref-flow-items.ensures.value at c.flow-item.is))

use Rattle.std.proofs.Common.{[], ◌++◌, ap, ◌∙◌}
use Rattle.j39_network.specs.declared.plan.flow_plan.FlowPlan.{FlowPlan}
use Rattle.j39_load.specs.LineLists.{lines_of_each}
use Rattle.j39_line_findings.specs.Conditions.{sent_with_any}
use Rattle.j39_line_witnesses.specs.Presences.{condition_of, conditions_in}
use Rattle.j39_line_witnesses.proofs.Listing.{one_further}
use Rattle.j39_line_witnesses.proofs.private_pairs.PrivatePair.sent_together.Goals as goal

pub loop-place-init : goal.loop-place-init
unfolding lines_of_each
loop-place-init c = ap conditions_in c.new-found.ensures.items

pub loop-place-preserved : goal.loop-place-preserved
loop-place-preserved c =
    one_further condition_of
    (sent_with_any c.args.self.now.line.now c.args.self.now.first c.args.self.now.second c.args.self.now.group.now c.args.self.now.other.now) c.loop-place.place c.args.self.now.line.now.plan.flows.items c.flow-item.result [] c.loop-place.found.items c.add_sent_with_any.new.found.items
    (rw c.deref-flow-items.ensures.value at c.loop-place-test.true) c.loop-place.invariant
    (c.in_ok-add_sent_with_any.ensures ∙ ap (λ (x : FlowPlan). conditions_in c.loop-place.found.items
    ++ (sent_with_any c.args.self.now.line.now c.args.self.now.first c.args.self.now.second c.args.self.now.group.now c.args.self.now.other.now) c.loop-place.place x) (rw c.deref-flow-items.ensures.value at c.flow-item.is))

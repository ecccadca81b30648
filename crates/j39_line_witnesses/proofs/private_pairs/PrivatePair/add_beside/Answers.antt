use Rattle.std.proofs.Common.{◌++◌, ap, sym, ◌∙◌}
use Rattle.j39_network.specs.declared.plan.flow_plan.FlowPlan.{FlowPlan}
use Rattle.std.proofs.lemmas.List.{append-nil}
use Rattle.j39_load.specs.LineLists.{lines_of_each}
use Rattle.j39_line_findings.specs.Conditions.{sent_with}
use Rattle.j39_line_witnesses.specs.Presences.{condition_of, conditions_in}
use Rattle.j39_line_witnesses.proofs.Listing.{one_further}
use Rattle.j39_line_witnesses.proofs.private_pairs.PrivatePair.add_beside.Goals as goal

pub loop-at-init : goal.loop-at-init
unfolding lines_of_each
loop-at-init c = sym (append-nil (conditions_in c.args.found.now.items))

pub loop-at-preserved : goal.loop-at-preserved
loop-at-preserved c =
    one_further condition_of
    (sent_with c.args.self.now.line.now c.args.self.now.first c.args.self.now.second c.args.self.now.group.now c.args.self.now.other.now c.args.place c.args.flow.now) c.loop-at.at c.args.self.now.line.now.plan.flows.items c.beside-item.result (conditions_in c.args.found.now.items) c.loop-at.found.items c.add_sent_with.new.found.items
    (rw c.deref-beside-items.ensures.value at c.loop-at-test.true) c.loop-at.invariant
    (c.in_ok-add_sent_with.ensures ∙ ap (λ (x : FlowPlan). conditions_in c.loop-at.found.items
    ++ (sent_with c.args.self.now.line.now c.args.self.now.first c.args.self.now.second c.args.self.now.group.now c.args.self.now.other.now c.args.place c.args.flow.now) c.loop-at.at x) (rw c.deref-beside-items.ensures.value at c.beside-item.is))

use Rattle.std.proofs.Common.{◌++◌, ap, sym, ◌∙◌}
use Rattle.j39_network.specs.declared.plan.request_plan.RequestPlan.{RequestPlan}
use Rattle.std.proofs.lemmas.List.{append-nil}
use Rattle.j39_load.specs.LineLists.{lines_of_each}
use Rattle.j39_line_findings.specs.Conditions.{answer_with}
use Rattle.j39_line_witnesses.specs.Presences.{parts_in}
use Rattle.j39_line_witnesses.proofs.Listing.{one_further}
use Rattle.j39_line_witnesses.proofs.lists.add_answers.Goals as goal

pub loop-asked-init : goal.loop-asked-init
unfolding lines_of_each
loop-asked-init c = sym (append-nil (parts_in c.args.found.now.items))

pub loop-asked-preserved : goal.loop-asked-preserved
loop-asked-preserved c =
    one_further (λ parts. parts.items) (answer_with c.args.place c.args.flow.now) c.loop-asked.asked c.args.requests.now c.index-requests-asked.result
    (parts_in c.args.found.now.items) c.loop-asked.found.items c.add_answer.new.found.items
    c.loop-asked-test.true c.loop-asked.invariant (c.in_ok-add_answer.ensures ∙ ap
    (λ (x : RequestPlan). parts_in c.loop-asked.found.items ++ (answer_with c.args.place c.args.flow.now) c.loop-asked.asked x) c.index-requests-asked.is)

use Rattle.std.proofs.Common.{◌++◌, ap, sym, ◌∙◌}
use Rattle.std.proofs.lemmas.List.{append-nil}
use Rattle.j39_load.specs.LineLists.{lines_of_each}
use Rattle.j39_network.specs.declared.plan.request_plan.RequestPlan.{RequestPlan}
use Rattle.j39_line_witnesses.specs.ReportedChoices.{asking_part}
use Rattle.j39_line_witnesses.proofs.ChoiceLists.{one_added}
use Rattle.j39_line_witnesses.proofs.choices.add_all_asking.Goals as goal

pub loop-place-init : goal.loop-place-init
unfolding lines_of_each
loop-place-init c = sym (append-nil c.args.parts.now.items)

pub loop-place-preserved : goal.loop-place-preserved
loop-place-preserved c =
    one_added
    (asking_part c.args.flow.now) c.loop-place.place c.args.requests.now c.index-requests-place.result c.args.parts.now.items c.loop-place.parts.items c.add_asking.new.parts.items
    c.loop-place-test.true c.loop-place.invariant
    (c.in_ok-add_asking.ensures ∙ ap (λ (x : RequestPlan). c.loop-place.parts.items
    ++ asking_part c.args.flow.now c.loop-place.place x) c.index-requests-place.is)

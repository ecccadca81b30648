use Rattle.std.proofs.Common.{◌++◌, ◌∷◌, [], List, take, sym, ap, ◌∙◌}
use Rattle.std.proofs.lemmas.List.{take_more}
use Rattle.j39_network.specs.declared.plan.group_plan.GroupPlan.{GroupPlan}
use Rattle.j39_log.specs.NamedReports.{all_numbered, first_names}
use Rattle.j39_log.proofs.Naming.{all_numbered_more}
use Rattle.j39_log.proofs.names.parameter_table.Goals as goal

pub loop-group-init : goal.loop-group-init
unfolding all_numbered
loop-group-init c = c.new-table.ensures

pub loop-group-preserved : goal.loop-group-preserved
loop-group-preserved c =
    let groups : List GroupPlan = c.args.groups.now in
    let i = c.loop-group.group-index in
    let group : GroupPlan = c.group-item.result in
    let more = take_more groups i group c.loop-group-test.true ∙ ap (λ (g : GroupPlan). take i groups ++ g ∷ []) (sym c.group-item.is) in
    c.in_ok-add_signals.ensures (all_numbered (take i groups)) c.loop-group.invariant
    ∙ ap first_names (sym (ap all_numbered more ∙ all_numbered_more (take i groups) group))

use Rattle.std.proofs.Common.{[], ◌++◌, ap, sym, ◌∙◌}
use Rattle.j39_load.specs.LineLists.{lines_of_each}
use Rattle.j39_variant_search.specs.VariantSearch.{box_flags}
use Rattle.j39_line_witnesses.specs.Presences.{condition_of}
use Rattle.j39_line_witnesses.specs.ReportedChoices.{choices_if_met}
use Rattle.j39_line_witnesses.specs.declared.presence.Presence.{Presence}
use Rattle.j39_line_witnesses.proofs.Listing.{one_further}
use Rattle.j39_line_witnesses.proofs.choices.each_met.Goals as goal

pub loop-condition-init : goal.loop-condition-init
unfolding lines_of_each
loop-condition-init c = ap box_flags c.new-met.ensures.items

pub loop-condition-preserved : goal.loop-condition-preserved
loop-condition-preserved c =
    let old = c.loop-condition.met.items in
    one_further (λ choices. choices.items) (λ _ condition. choices_if_met c.args.line.now c.args.variant.now
    (condition_of condition)) c.loop-condition.condition-index c.args.conditions.now
    c.condition-item.result [] old c.add_met.new.met.items c.loop-condition-test.true c.loop-condition.invariant
    (c.in_ok-add_met.ensures ∙ ap (λ (x : Presence). box_flags old ++ choices_if_met c.args.line.now c.args.variant.now (condition_of x)) c.condition-item.is)

use Rattle.std.proofs.Common.{◌∷◌, ◌++◌, [], Bool, List, ap, ◌∙◌}
use Rattle.std.proofs.lemmas.List.{map-append}
use Rattle.j39_load.specs.LineLists.{lines_of_each}
use Rattle.j39_variant_search.specs.VariantSearch.{box_flags}
use Rattle.j39_variants.specs.declared.line.Choice.{Choice}
use Rattle.j39_line_witnesses.specs.PartBoxes.{box_test, flags_of_choice}
use Rattle.j39_line_witnesses.proofs.Listing.{one_further}
use Rattle.j39_line_witnesses.proofs.boxes.flags_by.Goals as goal

pub loop-choice-init : goal.loop-choice-init
unfolding lines_of_each
loop-choice-init c = ap box_flags c.new-flags.ensures.items

pub loop-choice-preserved : goal.loop-choice-preserved
loop-choice-preserved c =
    let k = c.loop-choice.choice in
    let old = c.loop-choice.flags.items in
    rw c.in_ok-push.ensures.items
    (one_further (λ choice. choice.items) (λ n choice. flags_of_choice (box_test c.args.line.now c.args.test.now) n choice
    ∷ []) k c.args.line.now.choices.items c.reported-item.result []
    old (old ++ c.in_ok-flags_of_choice.field-0 ∷ []) (rw c.deref-reported-items.ensures.value at c.loop-choice-test.true) c.loop-choice.invariant
    (map-append (λ choice. choice.items) old (c.in_ok-flags_of_choice.field-0 ∷ [])
    ∙ ap (λ (x : List Bool). box_flags old ++ x ∷ [])
    (c.in_ok-flags_of_choice.ensures ∙ ap (λ (x : Choice). flags_of_choice (box_test c.args.line.now c.args.test.now) k x)
    (rw c.deref-reported-items.ensures.value at c.reported-item.is))))

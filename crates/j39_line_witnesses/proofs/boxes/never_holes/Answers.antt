use Rattle.std.proofs.Common.{◌++◌, [], List, ap, ◌∙◌}
use Rattle.j39_load.specs.LineLists.{lines_of_each}
use Rattle.j39_variants.specs.declared.line.Alternative.{Alternative}
use Rattle.j39_variant_search.specs.VariantSearch.{box_flags, boxes_flags}
use Rattle.j39_line_witnesses.specs.PartBoxes.{never_hole}
use Rattle.j39_line_witnesses.proofs.Listing.{one_further}
use Rattle.j39_line_witnesses.proofs.boxes.never_holes.Goals as goal

pub loop-never-init : goal.loop-never-init
unfolding lines_of_each
loop-never-init c = ap boxes_flags c.new-holes.ensures.items

pub loop-never-preserved : goal.loop-never-preserved
loop-never-preserved c =
    let old = c.loop-never.holes.items in
    one_further (λ box. box_flags box.items) (λ n never. never_hole c.args.line.now never.items) c.loop-never.never-index c.args.line.now.nevers.items
    c.never-item.result [] old c.add_hole.new.holes.items (rw c.deref-never-items.ensures.value at c.loop-never-test.true) c.loop-never.invariant
    (c.in_ok-add_hole.ensures ∙ ap (λ (xs : List Alternative). boxes_flags old ++ never_hole c.args.line.now xs)
    (c.deref.ensures.value ∙ ap (λ never. never.items) (rw c.deref-never-items.ensures.value at c.never-item.is)))

use Rattle.std.proofs.Common.{◌++◌, List, ap, sym, ◌∙◌}
use Rattle.std.proofs.lemmas.List.{append-nil}
use Rattle.j39_load.specs.LineLists.{lines_of_each}
use Rattle.j39_line_findings.specs.declared.part.LinePart.{LinePart}
use Rattle.j39_variant_search.specs.VariantSearch.{box_flags, boxes_flags}
use Rattle.j39_line_witnesses.specs.PartBoxes.{parts_hole}
use Rattle.j39_line_witnesses.proofs.Listing.{one_further}
use Rattle.j39_line_witnesses.proofs.boxes.add_holes.Goals as goal

pub loop-parts-init : goal.loop-parts-init
unfolding lines_of_each
loop-parts-init c = sym (append-nil (boxes_flags c.args.holes.now.items))

pub loop-parts-preserved : goal.loop-parts-preserved
loop-parts-preserved c =
    let old = c.loop-parts.holes.items in
    one_further (λ box. box_flags box.items) (λ n parts. parts_hole c.args.line.now parts.items) c.loop-parts.parts-index c.args.lacking.now
    c.parts-item.result (boxes_flags c.args.holes.now.items) old c.add_hole.new.holes.items c.loop-parts-test.true c.loop-parts.invariant
    (c.in_ok-add_hole.ensures
    ∙ ap (λ (xs : List LinePart). boxes_flags old ++ parts_hole c.args.line.now xs) (c.deref.ensures.value ∙ ap (λ parts. parts.items) c.parts-item.is))

use Rattle.std.proofs.Common.{◌≡◌, ◌++◌, take}
use Rattle.j39_load.specs.LineLists.{lines_of_each}
use Rattle.j39_variant_search.specs.VariantSearch.{boxes_flags}
use Rattle.j39_line_witnesses.specs.PartBoxes.{parts_hole}
use Rattle.j39_line_witnesses.proofs.boxes.add_holes.Given as goal

abbrev pub invariant-loop-parts : goal.invariant-loop-parts
invariant-loop-parts l = boxes_flags l.holes.items ≡ boxes_flags l.initial.holes.items ++ lines_of_each (λ n parts. parts_hole l.line parts.items) 0
    (take l.parts-index l.lacking)

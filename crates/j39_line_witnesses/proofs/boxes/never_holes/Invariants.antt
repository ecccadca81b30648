use Rattle.std.proofs.Common.{◌≡◌, take}
use Rattle.j39_load.specs.LineLists.{lines_of_each}
use Rattle.j39_variant_search.specs.VariantSearch.{boxes_flags}
use Rattle.j39_line_witnesses.specs.PartBoxes.{never_hole}
use Rattle.j39_line_witnesses.proofs.boxes.never_holes.Given as goal

abbrev pub invariant-loop-never : goal.invariant-loop-never
invariant-loop-never l = boxes_flags l.holes.items ≡ lines_of_each (λ n never. never_hole l.line never.items) 0 (take l.never-index l.line.nevers.items)

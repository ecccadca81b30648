use Rattle.std.proofs.Common.{◌≡◌, ◌∷◌, [], take}
use Rattle.j39_load.specs.LineLists.{lines_of_each}
use Rattle.j39_variant_search.specs.VariantSearch.{box_flags}
use Rattle.j39_line_witnesses.specs.PartBoxes.{box_test, flags_of_choice}
use Rattle.j39_line_witnesses.proofs.boxes.flags_by.Given as goal

abbrev pub invariant-loop-choice : goal.invariant-loop-choice
invariant-loop-choice l = box_flags l.flags.items
    ≡ lines_of_each (λ c choice. flags_of_choice (box_test l.line l.test) c choice ∷ []) 0 (take l.choice l.line.choices.items)

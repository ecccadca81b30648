use Rattle.std.proofs.Common.{◌≡◌, take}
use Rattle.j39_load.specs.LineLists.{lines_of_each}
use Rattle.j39_variant_search.specs.VariantSearch.{box_flags}
use Rattle.j39_line_witnesses.specs.Presences.{condition_of}
use Rattle.j39_line_witnesses.specs.ReportedChoices.{choices_if_met}
use Rattle.j39_line_witnesses.proofs.choices.each_met.Given as goal

abbrev pub invariant-loop-condition : goal.invariant-loop-condition
invariant-loop-condition l = box_flags l.met.items
    ≡ lines_of_each (λ _ condition. choices_if_met l.line l.variant (condition_of condition)) 0 (take l.condition-index l.conditions)

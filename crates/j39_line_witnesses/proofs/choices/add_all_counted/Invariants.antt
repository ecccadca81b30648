use Rattle.std.proofs.Common.{◌≡◌, ◌++◌, take}
use Rattle.j39_load.specs.LineLists.{lines_of_each}
use Rattle.j39_line_witnesses.specs.ReportedChoices.{counted_with}
use Rattle.j39_line_witnesses.proofs.choices.add_all_counted.Given as goal

abbrev pub invariant-loop-parts : goal.invariant-loop-parts
invariant-loop-parts l = l.counted.items ≡ l.initial.counted.items ++ lines_of_each (λ _ parts. counted_with l.line l.together parts.items) 0
    (take l.parts-index l.lacking)

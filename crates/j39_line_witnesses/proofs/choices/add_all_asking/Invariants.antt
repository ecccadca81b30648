use Rattle.std.proofs.Common.{◌≡◌, ◌++◌, take}
use Rattle.j39_load.specs.LineLists.{lines_of_each}
use Rattle.j39_line_witnesses.specs.ReportedChoices.{asking_part}
use Rattle.j39_line_witnesses.proofs.choices.add_all_asking.Given as goal

abbrev pub invariant-loop-place : goal.invariant-loop-place
invariant-loop-place l = l.parts.items ≡ l.initial.parts.items ++ lines_of_each (asking_part l.flow) 0 (take l.place l.requests)

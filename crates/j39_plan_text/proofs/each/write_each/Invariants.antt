use Rattle.std.proofs.Common.{◌≡◌, ◌++◌, take}
use Rattle.j39_load.specs.LineLists.{lines_of_each}
use Rattle.j39_plan_text.proofs.each.write_each.Given as goal

abbrev pub invariant-loop-place : goal.invariant-loop-place
invariant-loop-place g l = l.text ≡ l.initial.text ++ lines_of_each (g.W.WriteLines.lines l.writer) 0 (take l.place l.values)

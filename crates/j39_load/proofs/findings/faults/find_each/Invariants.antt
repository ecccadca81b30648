use Rattle.std.proofs.Common.{◌≡◌, ◌++◌, take}
use Rattle.j39_load.specs.LineLists.{lines_of_each}
use Rattle.j39_load.specs.inside.FlowSearch.{found_at}
use Rattle.j39_load.proofs.findings.faults.find_each.Given as goal

abbrev pub invariant-loop-flow : goal.invariant-loop-flow
invariant-loop-flow l = record {
  found : l.findings.items ≡ l.initial.findings.items ++ lines_of_each (found_at l.fault) 0 (take l.flow l.delays);
}

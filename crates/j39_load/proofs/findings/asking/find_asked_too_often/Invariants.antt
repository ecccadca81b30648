use Rattle.std.proofs.Common.{◌≡◌, ◌++◌, take}
use Rattle.j39_load.specs.LineLists.{lines_of_each}
use Rattle.j39_load.specs.LoadFindings.{too_often}
use Rattle.j39_load.proofs.findings.asking.find_asked_too_often.Given as goal

abbrev pub invariant-loop-place : goal.invariant-loop-place
invariant-loop-place l = record {
  found : l.findings.items ≡ l.initial.findings.items ++ lines_of_each (too_often l.requests) 0 (take l.place l.flows);
}

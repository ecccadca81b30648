use Rattle.std.proofs.Common.{◌≡◌, ◌++◌, take}
use Rattle.j39_load.specs.Ages.{oldness}
use Rattle.j39_load.specs.LineLists.{lines_of_each}
use Rattle.j39_load.proofs.findings.ages.find_old_needs.Given as goal

abbrev pub invariant-loop-place : goal.invariant-loop-place
invariant-loop-place l = record {
  found : l.findings.items ≡ l.initial.findings.items ++ lines_of_each (oldness l.timing l.requests l.flows l.delays) 0 (take l.place l.needs);
}

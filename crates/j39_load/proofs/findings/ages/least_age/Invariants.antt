use Rattle.std.proofs.Common.{◌≡◌, take}
use Rattle.j39_load.specs.Ages.{ages_for, least}
use Rattle.j39_load.specs.LineLists.{lines_of_each}
use Rattle.j39_load.proofs.findings.ages.least_age.Given as goal

abbrev pub invariant-loop-place : goal.invariant-loop-place
invariant-loop-place l = l.least ≡ least (lines_of_each (ages_for l.timing l.requests l.delays l.need) 0 (take l.place l.flows))

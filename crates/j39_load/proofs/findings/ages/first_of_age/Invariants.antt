use Rattle.std.proofs.Common.{◌≡◌, take}
use Rattle.j39_load.specs.Ages.{first_of, place_of_age}
use Rattle.j39_load.specs.LineLists.{lines_of_each}
use Rattle.j39_load.proofs.findings.ages.first_of_age.Given as goal

abbrev pub invariant-loop-place : goal.invariant-loop-place
invariant-loop-place l = l.first ≡ first_of (lines_of_each (place_of_age l.timing l.requests l.delays l.need l.age) 0 (take l.place l.flows))

use Rattle.j39_load.proofs.AskedShares.{AreCombined}
use Rattle.j39_load.proofs.findings.asked_share.combine.Given as goal

abbrev pub invariant-loop-place : goal.invariant-loop-place
invariant-loop-place l = AreCombined l.number l.initial.number l.other l.times l.other_times l.place l.over

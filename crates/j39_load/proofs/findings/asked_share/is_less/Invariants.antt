use Rattle.j39_load.proofs.AskedShares.{IsLess}
use Rattle.j39_load.proofs.findings.asked_share.is_less.Given as goal

abbrev pub invariant-loop-place : goal.invariant-loop-place
invariant-loop-place l = IsLess l.number l.other l.place l.less

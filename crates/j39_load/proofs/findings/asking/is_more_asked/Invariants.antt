use Rattle.std.proofs.Common.{◌≡◌, ◌≤◌, ◌+◌, false, take}
use Rattle.j39_load.specs.AskedFlows.{asking_periods, is_more_than_one}
use Rattle.j39_load.specs.inside.AskedShares.{IsShareOf}
use Rattle.j39_load.proofs.findings.asking.is_more_asked.Given as goal

abbrev pub invariant-loop-request : goal.invariant-loop-request
invariant-loop-request l =
    IsShareOf l.period (asking_periods (take l.request-index l.requests) l.flow) l.share
    × (l.share.count ≤ l.request-index + 1)
    × (is_more_than_one l.period (asking_periods (take l.request-index l.requests) l.flow) ≡ false)

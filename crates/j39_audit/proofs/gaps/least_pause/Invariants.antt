use Rattle.std.proofs.Common.{◌≡◌}
use Rattle.j39_audit.specs.Below.{least_below}
use Rattle.j39_audit.specs.Gaps.{single_pause}
use Rattle.j39_audit.proofs.gaps.least_pause.Given as goal

abbrev pub invariant-loop-place : goal.invariant-loop-place
invariant-loop-place l = l.least ≡ least_below (single_pause l.plan) l.place

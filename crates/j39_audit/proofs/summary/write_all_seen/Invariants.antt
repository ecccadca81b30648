use Rattle.std.proofs.Common.{◌≡◌, ◌++◌}
use Rattle.j39_audit.specs.Below.{each_below}
use Rattle.j39_audit.specs.inside.Auditing.{seen_at, tallied}
use Rattle.j39_audit.proofs.summary.write_all_seen.Given as goal

abbrev pub invariant-loop-place : goal.invariant-loop-place
invariant-loop-place l = l.text ≡ l.initial.text ++ each_below (seen_at l.word l.plan (tallied l.log)) l.place

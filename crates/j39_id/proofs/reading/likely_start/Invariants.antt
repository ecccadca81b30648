use Rattle.std.proofs.Common.{◌≤◌}
use Rattle.j39_id.specs.Limits.{frame_bytes}
use Rattle.j39_id.proofs.reading.likely_start.Given as goal

abbrev pub invariant-loop-start : goal.invariant-loop-start
invariant-loop-start l = l.bytes ≤ frame_bytes

abbrev pub decreases-loop-start : goal.decreases-loop-start
decreases-loop-start l = l.bytes

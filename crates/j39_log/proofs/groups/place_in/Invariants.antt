use Rattle.std.proofs.Common.{◌≡◌, ℕ, ◌<◌, false, get_or}
use Rattle.j39_network.specs.declared.plan.group_plan.GroupPlan.{GroupPlan}
use Rattle.j39_log.specs.LogFrames.{is_planned_as}
use Rattle.j39_log.proofs.groups.place_in.Given as goal

abbrev pub invariant-loop-place : goal.invariant-loop-place
invariant-loop-place l = (k : ℕ) (d : GroupPlan) → k < l.place → is_planned_as l.pgn l.bytes (get_or l.groups k d) ≡ false

use Rattle.std.proofs.Common.{◌≡◌, ◌+◌, ◌<◌, ◌≤◌, ℕ, drop, length}
use Rattle.j39_network.specs.PlanLimits.{group_limit}
use Rattle.j39_log.specs.inside.FirstFlows.{first_flow, start_at}
use Rattle.j39_log.proofs.first_flows.first_flows.Given as goal

abbrev pub invariant-loop-place : goal.invariant-loop-place
invariant-loop-place l =
    (l.place ≤ length l.flows)
    × ((group : ℕ) → group < group_limit → start_at l.starts group ≡ l.place + first_flow group (drop l.place l.flows))

abbrev pub decreases-loop-place : goal.decreases-loop-place
decreases-loop-place l = l.place

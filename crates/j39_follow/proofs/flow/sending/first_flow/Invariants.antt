use Rattle.std.proofs.Common.{◌≡◌, ◌<◌, ℕ, false, get_or}
use Rattle.j39_network.specs.declared.plan.flow_plan.FlowPlan.{FlowPlan}
use Rattle.j39_follow.specs.Fits.{fits}
use Rattle.j39_follow.proofs.flow.sending.first_flow.Given as goal

abbrev pub invariant-loop-place : goal.invariant-loop-place
invariant-loop-place l = (k : ℕ) (flow : FlowPlan) → k < l.place → fits l.group l.sent (get_or l.groups.flows.items k flow) ≡ false

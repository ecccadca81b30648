-- Where the flows of a group begin.
use Rattle.std.specs.Prelude.{◌≡◌, ◌==◌, ◌<◌, ℕ, Bool, List, slice_index_or}
use Rattle.std.specs.List.{position_or_len}
use Rattle.j39_network.specs.PlanLimits.{group_limit}
use Rattle.j39_network.specs.declared.plan.flow_plan.FlowPlan.{FlowPlan}

abbrev pub is_flow_of : ℕ → FlowPlan → Bool
is_flow_of group flow = flow.group == group

-- the place of the first flow of the group, or how many flows there are
abbrev pub first_flow : ℕ → List FlowPlan → ℕ
first_flow group flows = position_or_len (is_flow_of group) flows

abbrev pub start_at : List ℕ → ℕ → ℕ
start_at starts group = slice_index_or starts group 0

abbrev pub AreFirstFlows : List FlowPlan → List ℕ → Type 0
AreFirstFlows flows starts = (group : ℕ) → group < group_limit → start_at starts group ≡ first_flow group flows

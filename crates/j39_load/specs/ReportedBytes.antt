-- Whose bytes are that were written signal after signal: where no signal has a bit of the group's selector they can be of this group alone.
use Rattle.std.specs.Prelude.{◌≡◌, ℕ, List, All}
use Rattle.j39_signal.specs.Laid.{IsSelectorBit}
use Rattle.j39_signal.specs.Places.{Covers}
use Rattle.j39_search.specs.ListPlaces.{ValueAt}
use Rattle.j39_network.specs.PrivateGroups.{CanBe}
use Rattle.j39_network.specs.declared.plan.Plan.{Plan}
use Rattle.j39_network.specs.declared.plan.flow_plan.FlowPlan.{FlowPlan}
use Rattle.j39_network.specs.declared.plan.group_plan.GroupPlan.{GroupPlan}
use Rattle.j39_load.specs.ReadInTime.{signals_of_bytes}

-- no signal in these bytes has a bit of the group's selector
abbrev pub LeaveSelector : GroupPlan → List ℕ → Type 0
LeaveSelector group bytes = (j : ℕ) → IsSelectorBit group.when j → All (λ s. ¬ Covers s j) (signals_of_bytes group bytes)

-- a message of the group's number with these bytes, from the flow's sender to where it goes, can be one of the group, and of no other one
pub record IsStatedOf (plan : Plan) (flow : FlowPlan) (group : GroupPlan) (bytes : List ℕ) : Type 0 where
  pub fits : ValueAt (CanBe plan group.pgn bytes flow.sender flow.to) plan.groups.items flow.group
  pub alone : (h : ℕ) → ValueAt (CanBe plan group.pgn bytes flow.sender flow.to) plan.groups.items h → h ≡ flow.group

-- Private groups: whose a message is.
use Rattle.std.specs.Prelude.{◌≡◌, ◌⊎◌, ℕ, true, false, List, All as AllOf}
use Rattle.j39_signal.specs.Selectors.{is_selected}
use Rattle.j39_search.specs.ListPlaces.{ValueAt, SomeMeets}
use Rattle.j39_network.specs.PlannedFlows.{MayBeOneFrameToAll, IsToOne, Sends}
use Rattle.j39_network.specs.declared.plan.Plan.{Plan}
use Rattle.j39_network.specs.declared.plan.group_plan.GroupPlan.{GroupPlan}
use Rattle.j39_network.specs.declared.plan.flow_plan.FlowPlan.{FlowPlan}
use Rattle.j39_network.specs.declared.plan.to.To.{To}
use Rattle.j39_network.specs.declared.plan.to.To.TheVariants.{All}

-- the flow sends the group from the unit to where a message went: to all go also the frames that name no destination
pub record Fits (plan : Plan) (group : GroupPlan) (sender : ℕ) (to : To) (flow : FlowPlan) : Type 0 where
  pub sends : Sends plan.groups.items group flow
  pub from : flow.sender ≡ sender
  pub reaches : (flow.to ≡ to) ⊎ (IsToOne flow × (to ≡ All) × MayBeOneFrameToAll group)

-- a message of this number with these bytes, from the unit to there, can be one of the group
pub record CanBe (plan : Plan) (pgn : ℕ) (bytes : List ℕ) (sender : ℕ) (to : To) (group : GroupPlan) : Type 0 where
  pub number : group.pgn ≡ pgn
  pub selected : is_selected group.when bytes ≡ true
  pub fits : SomeMeets (Fits plan group sender to) plan.flows.items

-- it can be one of one group
abbrev pub OneGroupFits : Plan → Type 0
OneGroupFits plan = (pgn : ℕ) (bytes : List ℕ) (sender : ℕ) (to : To) (g h : ℕ) → ValueAt (CanBe plan pgn bytes sender to) plan.groups.items g
    → ValueAt (CanBe plan pgn bytes sender to) plan.groups.items h → g ≡ h

-- ---- plans without private groups

abbrev pub HasNoPrivate : Plan → Type 0
HasNoPrivate plan = AllOf (λ group. group.private ≡ false) plan.groups.items

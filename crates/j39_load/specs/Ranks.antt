-- Between which identifiers the frames of a flow lie, and those of a request, whatever addresses the units of a plan come to hold.
use Rattle.std.specs.Prelude.{◌≡◌, ◌≢◌, ℕ, ◌<◌, ◌≤◌, ◌⊎◌, Bool, true, length, Some}
use Rattle.std.specs.List.{slice_get}
use Rattle.j39_id.specs.Addresses.{global_address, in_pool}
use Rattle.j39_id.specs.Name.{is_arbitrary}
use Rattle.j39_network.specs.declared.plan.Plan.{Plan}
use Rattle.j39_network.specs.declared.plan.flow_plan.FlowPlan.{FlowPlan}
use Rattle.j39_network.specs.declared.plan.group_plan.GroupPlan.{GroupPlan}
use Rattle.j39_network.specs.declared.plan.request_plan.RequestPlan.{RequestPlan}
use Rattle.j39_network.specs.declared.plan.timing.Timing.{Timing}
use Rattle.j39_network.specs.declared.plan.to.To.TheVariants.{One}
use Rattle.j39_network.specs.declared.plan.unit_plan.UnitPlan.{UnitPlan}
use Rattle.j39_load.specs.Loads.{broadcast_ident, greatest_address, group_ident, is_always_short, least_address, of_unit, packet_ident, twin_ident}
use Rattle.j39_load.specs.RequestLoads.{request_ident}
use Rattle.j39_network.specs.PlannedUnits.{unit_at, units_of}
use Rattle.j39_network.specs.Staying.{StaysBeside}

-- each unit of the plan holds its planned address, or one of the pool where it may choose and doesn't stay, with strangers where they come
abbrev pub AreHeldByPlan : Plan → (ℕ → ℕ) → Type 0
AreHeldByPlan plan held = (u : ℕ) → u < length plan.units.items
    → (held u ≡ (unit_at (units_of plan) u).preferred)
    ⊎ ((in_pool (held u) ≡ true) × (is_arbitrary (unit_at (units_of plan) u).name ≡ true) × ¬ StaysBeside plan.strangers (units_of plan) u)

-- the units of a flow are those of the plan
pub record AreUnitsPlanned (plan : Plan) (flow : FlowPlan) : Type 0 where
  pub sender : flow.sender < length plan.units.items
  pub receiver : (v : ℕ) → flow.to ≡ One v → v < length plan.units.items

-- the identifiers of a flow's frames lie between the least and the greatest one: those of single frames, of packets, and of its sender's
-- frames of either group of the transport protocol to all
pub record LieBetween (plan : Plan) (timing : Timing) (stays : UnitPlan → Bool) (held : ℕ → ℕ) (group : GroupPlan) (flow : FlowPlan) : Type 0 where
  pub least : group_ident (of_unit plan.units.items (least_address stays)) group flow ≤ group_ident held group flow
  pub greatest : group_ident held group flow ≤ group_ident (of_unit plan.units.items (greatest_address stays)) group flow
  pub least_packet : packet_ident timing (of_unit plan.units.items (least_address stays)) flow ≤ packet_ident timing held flow
  pub greatest_packet : packet_ident timing held flow ≤ packet_ident timing (of_unit plan.units.items (greatest_address stays)) flow
  pub least_broadcast : (pgn : ℕ) → broadcast_ident timing pgn (of_unit plan.units.items (least_address stays)) flow.sender
      ≤ broadcast_ident timing pgn held flow.sender
  pub greatest_broadcast : (pgn : ℕ) → broadcast_ident timing pgn held flow.sender
      ≤ broadcast_ident timing pgn (of_unit plan.units.items (greatest_address stays)) flow.sender

-- so does the identifier of a request
pub record RequestLiesBetween (plan : Plan) (stays : UnitPlan → Bool) (held : ℕ → ℕ) (request : RequestPlan) : Type 0 where
  pub least : request_ident (of_unit plan.units.items (least_address stays)) request ≤ request_ident held request
  pub greatest : request_ident held request ≤ request_ident (of_unit plan.units.items (greatest_address stays)) request

-- of the units that are named (those that are on, say, or that frames are for) each holds an address, and no two of them one
pub record AreHeldApart (named : ℕ → Bool) (held : ℕ → ℕ) : Type 0 where
  pub range : (u : ℕ) → named u ≡ true → held u < global_address
  pub apart : (u v : ℕ) → u ≢ v → named u ≡ true → named v ≡ true → held u ≢ held v

-- the flow at this place, between units that are named, sends each message of this group in one frame
pub record IsShortFlow (plan : Plan) (named : ℕ → Bool) (place : ℕ) (flow : FlowPlan) (group : GroupPlan) : Type 0 where
  pub its : slice_get plan.flows.items place ≡ Some flow
  pub sent : slice_get plan.groups.items flow.group ≡ Some group
  pub short : is_always_short group ≡ true
  pub sender : named flow.sender ≡ true
  pub receiver : (v : ℕ) → flow.to ≡ One v → named v ≡ true

-- the groups of two flows are distinguished by their data, and their frames have one identifier, whatever addresses the units hold
pub record AreTwinFlows (group : GroupPlan) (flow : FlowPlan) (second : GroupPlan) (other : FlowPlan) : Type 0 where
  pub number : ℕ
  pub first_is : twin_ident group flow ≡ Some number
  pub second_is : twin_ident second other ≡ Some number
  pub alike : (held : ℕ → ℕ) → group_ident held group flow ≡ group_ident held second other

-- a request of a unit that is named, to one that is or to all
pub record IsAskedBetween (named : ℕ → Bool) (request : RequestPlan) : Type 0 where
  pub sender : named request.sender ≡ true
  pub receiver : (v : ℕ) → request.to ≡ One v → named v ≡ true

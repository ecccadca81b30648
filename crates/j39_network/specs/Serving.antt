-- Which flows answer a request, and which bring a unit what it needs (SAE J1939-21, requests).
use Rattle.std.specs.Prelude.{◌≡◌, ◌≢◌, ℕ, ◌⊎◌, List, Some, true, Bool, false, not, ◌&&◌, ◌||◌, ◌==◌, Option, None}
use Rattle.j39_search.specs.ListPlaces.{ValueAt, SomeMeets}
use Rattle.j39_network.specs.declared.plan.group_plan.GroupPlan.{GroupPlan}
use Rattle.j39_network.specs.declared.plan.flow_plan.FlowPlan.{FlowPlan}
use Rattle.j39_network.specs.declared.plan.need_plan.NeedPlan.{NeedPlan}
use Rattle.j39_network.specs.declared.plan.request_plan.RequestPlan.{RequestPlan}
use Rattle.j39_network.specs.declared.plan.to.To.TheVariants.{All, One}
use Rattle.j39_network.specs.PlannedFlows.{IsOneFrameToAll, IsToOne}
use Rattle.std.specs.List.{list_any}
use Rattle.j39_network.specs.declared.plan.to.To.{To}

-- ---- requests

-- the flow answers the request: it sends the group that is asked for, comes from another unit than the one that asks, which is the one that
-- is asked where only one is, and goes to the one that asks or to all (SAE J1939-21, requests)
pub record Serves (request : RequestPlan) (flow : FlowPlan) : Type 0 where
  pub group : flow.group ≡ request.group
  pub other : flow.sender ≢ request.sender
  pub asked : (request.to ≡ All) ⊎ (request.to ≡ One flow.sender)
  pub reaches : (flow.to ≡ All) ⊎ (flow.to ≡ One request.sender)

-- some flow answers it, some that goes to one unit, some that goes to all
abbrev pub IsServed : List FlowPlan → RequestPlan → Type 0
IsServed flows request = SomeMeets (Serves request) flows

abbrev pub IsServedToOne : List FlowPlan → RequestPlan → Type 0
IsServedToOne flows request = SomeMeets (λ flow. Serves request flow × IsToOne flow) flows

abbrev pub IsServedToAll : List FlowPlan → RequestPlan → Type 0
IsServedToAll flows request = SomeMeets (λ flow. Serves request flow × (flow.to ≡ All)) flows

abbrev pub AsksOne : RequestPlan → Type 0
AsksOne request = (unit : ℕ) × (request.to ≡ One unit)

abbrev pub AsksAll : RequestPlan → Type 0
AsksAll request = request.to ≡ All

-- some message of the group asked for can name a receiver
abbrev pub MayNameReceiver : List GroupPlan → RequestPlan → Type 0
MayNameReceiver groups request = ValueAt (λ group. ¬ IsOneFrameToAll group) groups request.group

-- ---- needs

-- a flow that is sent only as an answer comes where some request is there that it serves; any other comes by itself
abbrev pub IsAskedFor : List RequestPlan → FlowPlan → Type 0
IsAskedFor requests flow = flow.on_request ≡ true → SomeMeets (λ request. Serves request flow) requests

-- the flow brings the need's unit what it needs: it goes to this unit or to all, comes from another one, which is the need's where it
-- names one, and is asked for where it has to be
pub record Meets (requests : List RequestPlan) (need : NeedPlan) (flow : FlowPlan) : Type 0 where
  pub group : flow.group ≡ need.group
  pub other : flow.sender ≢ need.unit
  pub from : (u : ℕ) → need.from ≡ Some u → flow.sender ≡ u
  pub reaches : (flow.to ≡ All) ⊎ (flow.to ≡ One need.unit)
  pub comes : IsAskedFor requests flow

-- ---- the same as tests

abbrev pub is_to_one : To → Bool
is_to_one All = false
is_to_one (One receiver) = true

abbrev pub is_to : To → ℕ → Bool
is_to All unit = false
is_to (One receiver) unit = receiver == unit

abbrev pub have_same_receiver : To → To → Bool
have_same_receiver All to = not (is_to_one to)
have_same_receiver (One receiver) to = is_to to receiver

abbrev pub is_reached : To → ℕ → Bool
is_reached to unit = not (is_to_one to) || is_to to unit

abbrev pub serves : RequestPlan → FlowPlan → Bool
serves request flow =
    flow.group == request.group
    && (not (flow.sender == request.sender) && (is_reached request.to flow.sender && is_reached flow.to request.sender))

abbrev pub is_served : List FlowPlan → RequestPlan → Bool
is_served flows request = list_any (serves request) flows

abbrev pub is_from : Option ℕ → ℕ → Bool
is_from None sender = true
is_from (Some unit) sender = sender == unit

abbrev pub serves_some : List RequestPlan → FlowPlan → Bool
serves_some requests flow = list_any (λ request. serves request flow) requests

abbrev pub is_asked_for : List RequestPlan → FlowPlan → Bool
is_asked_for requests flow = not flow.on_request || serves_some requests flow

abbrev pub meets : List RequestPlan → NeedPlan → FlowPlan → Bool
meets requests need flow =
    flow.group == need.group
    && (not (flow.sender == need.unit)
    && (is_from need.from flow.sender && (is_reached flow.to need.unit && is_asked_for requests flow)))

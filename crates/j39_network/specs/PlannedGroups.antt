-- Which planned groups can be sent and read, and why another can't.
use Rattle.std.specs.Prelude.{◌≢◌, ℕ, ◌⊎◌, List, take, All, ◌≡◌, None}
use Rattle.j39_id.specs.Pgn.{IsPgn}
use Rattle.j39_signal.specs.LayoutParts.{LayoutParts}
use Rattle.j39_signal.specs.Places.{IsAlwaysInside, LaysOutFrom}
use Rattle.j39_signal.specs.Refusals.{HasLayoutFault}
use Rattle.j39_signal.specs.declared.layout_error.LayoutError.{LayoutError}
use Rattle.j39_signal.specs.declared.layout_error.LayoutError.TheVariants.{Memory as NoMemory}
use Rattle.j39_search.specs.ListPlaces.{ValueAt}
use Rattle.j39_network.specs.declared.plan.group_plan.GroupPlan.{GroupPlan}
use Rattle.j39_network.specs.declared.planned_groups.GroupFault.{GroupFault}
use Rattle.j39_network.specs.declared.planned_groups.GroupFault.TheVariants.{Refused, Memory}
use Rattle.j39_signal.specs.Selectors.{EndsInside}
use Rattle.j39_network.specs.declared.plan.Plan.{Plan}

-- the bits of its selector lie inside each of its messages
abbrev pub IsSelectorInside : GroupPlan → Type 0
IsSelectorInside group = EndsInside group.length group.when

abbrev pub HasNoSelectors : Plan → Type 0
HasNoSelectors plan = All (λ group. group.when ≡ None) plan.groups.items

-- the layout of a group
abbrev pub layout_of : GroupPlan → LayoutParts
layout_of group = record { length = group.length; most = group.most; when = group.when; signals = group.signals.items }

-- the group's number is one of a group, its signals lay out its payloads, and the bits of its selector lie inside each of them
pub record IsSendable (group : GroupPlan) : Type 0 where
  pub number : IsPgn group.pgn
  pub layout : LaysOutFrom group.length group.most group.signals.items
  pub selector : IsSelectorInside group

-- its number is no group's, there is a fault that keeps its signals from laying out its longest payloads, one of them that isn't optional ends
-- behind the shortest, or a bit of its selector lies behind it
abbrev pub IsRefusedGroup : GroupPlan → Type 0
IsRefusedGroup group =
    (¬ IsPgn group.pgn)
    ⊎ (((e : LayoutError) × (e ≢ NoMemory) × HasLayoutFault group.most group.signals.items e)
    ⊎ ((¬ All (IsAlwaysInside group.length) group.signals.items) ⊎ (¬ IsSelectorInside group)))

-- what keeps a group from having a layout; where it is memory alone, it could have one
abbrev pub HasGroupFault : GroupPlan → GroupFault → Type 0
HasGroupFault group Refused = IsRefusedGroup group
HasGroupFault group Memory = IsSendable group

-- the first group that is refused
abbrev pub IsFirstRefused : List GroupPlan → ℕ → Type 0
IsFirstRefused groups g = All IsSendable (take g groups) × ValueAt IsRefusedGroup groups g

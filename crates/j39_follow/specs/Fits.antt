-- The group and the flow of a message: by its number and length, by who sent it, and to whom it went.
use Rattle.std.specs.Prelude.{◌≡◌, ◌≢◌, ◌<◌, ◌⊎◌, ℕ, nat_le, ◌==◌, ◌&&◌, Bool, true, false, List, length as count, Option, Some, None}
use Rattle.std.specs.List.{position}
use Rattle.std.specs.Option.{option_or}
use Rattle.j39_signal.specs.Selectors.{is_selected}
use Rattle.j39_search.specs.ListPlaces.{ValueAt}
use Rattle.j39_network.specs.declared.plan.Plan.{Plan}
use Rattle.j39_network.specs.declared.plan.flow_plan.FlowPlan.{FlowPlan}
use Rattle.j39_network.specs.declared.plan.group_plan.GroupPlan.{GroupPlan}
use Rattle.j39_network.specs.declared.plan.to.To.{To}
use Rattle.j39_network.specs.declared.plan.to.To.TheVariants.{All as ToAll, One as ToOne}
use Rattle.j39_follow.specs.declared.flow.sending.Aim.{Aim}
use Rattle.j39_follow.specs.declared.flow.sending.Aim.TheVariants.{All, One}
use Rattle.j39_follow.specs.declared.flow.sending.Sending.{Sending}

-- who is meant by a flow gets the message: all of a flow to all, one of a flow to one;
-- a single frame of PDU2 names no destination, so one of a flow to a unit goes to all
abbrev pub reaches : To → Aim → Bool → Bool
reaches ToAll All unaddressed = true
reaches (ToOne unit) (One receiver) unaddressed = unit == receiver
reaches (ToOne unit) All unaddressed = unaddressed
reaches _ _ unaddressed = false

abbrev pub is_unit : Option ℕ → ℕ → Bool
is_unit None unit = false
is_unit (Some u) unit = u == unit

-- a flow of this group fits what was sent
abbrev pub fits : ℕ → Sending → FlowPlan → Bool
fits group sent flow = flow.group == group && (is_unit sent.sender flow.sender && reaches flow.to sent.aim sent.unaddressed)

abbrev pub is_for_all : To → Bool
is_for_all ToAll = true
is_for_all (ToOne unit) = false

-- and it goes to all
abbrev pub fits_all : ℕ → Sending → FlowPlan → Bool
fits_all group sent flow = is_for_all flow.to && fits group sent flow

-- the first flow of the group that fits and goes to all, or where none does the first that fits; of a message that names its destination
-- all that fit go to all, or none does
abbrev pub fitting_flow : Plan → ℕ → Sending → Option ℕ
fitting_flow plan group sent = option_or (position (fits_all group sent) plan.flows.items) (position (fits group sent) plan.flows.items)

-- messages of the group may have so many bytes
abbrev pub may_have_bytes : GroupPlan → ℕ → Bool
may_have_bytes group bytes = nat_le group.length bytes && nat_le bytes group.most

-- the group at this place has the number and so many bytes, its selector takes them, and it isn't private, or a flow of it fits
pub record IsPlannedAs (plan : Plan) (pgn : ℕ) (bytes : List ℕ) (sent : Sending) (place : ℕ) (group : GroupPlan) : Type 0 where
  pub number : group.pgn ≡ pgn
  pub length : may_have_bytes group (count bytes) ≡ true
  pub selected : is_selected group.when bytes ≡ true
  pub own : (group.private ≡ false) ⊎ (fitting_flow plan place sent ≢ None)

abbrev pub MayBeGroup : Plan → ℕ → List ℕ → Sending → ℕ → Type 0
MayBeGroup plan pgn bytes sent place = ValueAt (IsPlannedAs plan pgn bytes sent place) plan.groups.items place

-- the group of these bytes of this number: the first that it may be
abbrev pub IsSentGroup : Plan → ℕ → List ℕ → Sending → Option ℕ → Type 0
IsSentGroup plan pgn bytes sent (Some place) =
    MayBeGroup plan pgn bytes sent place × ((earlier : ℕ) → earlier < place → ¬ MayBeGroup plan pgn bytes sent earlier)
IsSentGroup plan pgn bytes sent None = (place : ℕ) → ¬ MayBeGroup plan pgn bytes sent place

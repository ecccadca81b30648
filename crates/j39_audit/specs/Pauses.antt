-- Where the pauses of flows end: what is known of the newest message then says nothing of the next one.
use Rattle.std.specs.Prelude.{ℕ, ◌||◌, ◌&&◌, ◌==◌, not, nat_le, Bool, false, if◌then◌else◌, List, [], ◌∷◌, ◌++◌, Option, Some, None}
use Rattle.std.specs.List.{slice_get}
use Rattle.std.specs.Option.{option_map_or}
use Rattle.j39_id.specs.Addresses.{is_address}
use Rattle.j39_id.specs.declared.frame.Frame.{Frame}
use Rattle.j39_network.specs.declared.plan.Plan.{Plan}
use Rattle.j39_network.specs.declared.plan.flow_plan.FlowPlan.{FlowPlan}
use Rattle.j39_network.specs.declared.plan.group_plan.GroupPlan.{GroupPlan}
use Rattle.j39_network.specs.declared.plan.to.To.{To}
use Rattle.j39_network.specs.declared.plan.to.To.TheVariants.{All as ToAll, One as ToOne}
use Rattle.j39_audit.specs.Claiming.{Knowledge, is_at}
use Rattle.j39_audit.specs.Counting.{Noted}
use Rattle.j39_audit.specs.Looking.{claimant, is_claim}
use Rattle.j39_audit.specs.Settings.{Settings}
use Rattle.j39_audit.specs.declared.mark.Word.{Word}
use Rattle.j39_audit.specs.declared.mark.Word.TheVariants.{Unclear}
use Rattle.j39_audit.specs.declared.pauses.Ending.{Ending}
use Rattle.j39_audit.specs.declared.pauses.Ending.TheVariants.{Nothing, OfUnit, OfAll}
use Rattle.j39_audit.specs.declared.pauses.LastFrame.{LastFrame}

-- ---- claims

-- at a claim those of the flows from the unit, or to it alone; and all, where it moves a unit, or is the first one of an address by no unit
abbrev pub ending_at : Knowledge → ℕ → Option ℕ → Ending
ending_at k source (Some u) = if is_at (k.last u) source then OfUnit u else OfAll
ending_at k source None = if is_address source && not (k.taken source) then OfAll else Nothing

abbrev pub ending_of : Settings → Knowledge → Frame → Ending
ending_of s k f = if is_claim f then ending_at k f.ident.sa (claimant s f).unit else Nothing

-- the flow is from the unit, or to it alone
abbrev pub goes_to_it : ℕ → To → Bool
goes_to_it u ToAll = false
goes_to_it u (ToOne v) = v == u

unfoldable pub is_with_unit : Settings → ℕ → ℕ → Bool
is_with_unit s u n = option_map_or (λ (flow : FlowPlan). flow.sender == u || goes_to_it u flow.to) (slice_get s.plan.flows.items n) false

-- ---- messages that are unclear

-- the flows of which a frame may be a message, where they are several
abbrev pub unclear_as : Word → ℕ → List ℕ → List ℕ
unclear_as Unclear n ns = ns ++ n ∷ []
unclear_as _ n ns = ns

abbrev pub unclear_behind : List ℕ → List Noted → List ℕ
unclear_behind ns [] = ns
unclear_behind ns (n ∷ rest) = unclear_behind (unclear_as n.mark.word n.mark.subject ns) rest

-- ---- messages that deviate

-- the groups at two places have one number
abbrev pub group_has_number : Plan → ℕ → ℕ → Bool
group_has_number plan g number = option_map_or (λ (group : GroupPlan). group.pgn == number) (slice_get plan.groups.items g) false

abbrev pub have_one_number : Plan → ℕ → ℕ → Bool
have_one_number plan g h = option_map_or (λ (group : GroupPlan). group_has_number plan h group.pgn) (slice_get plan.groups.items g) false

-- the flow is the unit's, and its group has the number of this one: a message that deviates from the group stands for one of the flow
unfoldable pub is_stood_for : Plan → ℕ → ℕ → ℕ → Bool
is_stood_for plan u g n =
    option_map_or (λ (flow : FlowPlan). flow.sender == u && have_one_number plan g flow.group) (slice_get plan.flows.items n) false

abbrev pub stands_for : Plan → Option ℕ → Option ℕ → ℕ → Bool
stands_for plan None unit n = false
stands_for plan (Some g) None n = false
stands_for plan (Some g) (Some u) n = is_stood_for plan u g n

-- ---- who is there until then

-- the last frame of a flow's sender, or of those of its sender and of its one receiver the one of the earlier line
abbrev pub earlier_of : Option LastFrame → Option LastFrame → Option LastFrame
earlier_of None b = None
earlier_of (Some a) None = None
earlier_of (Some a) (Some b) = Some (if nat_le a.line b.line then a else b)

abbrev pub last_of_ends : (ℕ → Option LastFrame) → ℕ → To → Option LastFrame
last_of_ends last sender ToAll = last sender
last_of_ends last sender (ToOne v) = earlier_of (last sender) (last v)

-- What the transfer steps need of a plan: what each flow sends to whom, and how much each unit lets be sent to it at once.
use Rattle.std.specs.Prelude.{◌≡◌, ◌==◌, ℕ, Bool, true, ◌&&◌, not, nat_eq, nat_le, List, map, slice_index_or, Some, None}
use Rattle.std.specs.List.{slice_get}
use Rattle.std.specs.Option.{option_map_or}
use Rattle.j39_id.specs.Limits.{frame_bytes}
use Rattle.j39_id.specs.Pgn.{is_pdu2}
use Rattle.j39_tp.specs.declared.sending.dest.Dest.{Dest}
use Rattle.j39_tp.specs.declared.sending.dest.Dest.TheVariants as dests
use Rattle.j39_network.specs.declared.plan.Plan.{Plan}
use Rattle.j39_network.specs.declared.plan.flow_plan.FlowPlan.{FlowPlan}
use Rattle.j39_network.specs.declared.plan.group_plan.GroupPlan.{GroupPlan}
use Rattle.j39_network.specs.declared.plan.to.To.{To}
use Rattle.j39_network.specs.declared.plan.to.To.TheVariants.{All, One}
use Rattle.j39_world.specs.declared.flow.Flow.{Flow}

-- a planned flow; it names its group by place
abbrev pub flow_of : List GroupPlan → FlowPlan → Flow
flow_of groups f = record {
  pgn = option_map_or (λ (g : GroupPlan). g.pgn) (slice_get groups f.group) 0;
  priority = option_map_or (λ (g : GroupPlan). g.priority) (slice_get groups f.group) 0;
  length = option_map_or (λ (g : GroupPlan). g.length) (slice_get groups f.group) 0;
  most = option_map_or (λ (g : GroupPlan). g.most) (slice_get groups f.group) 0;
  when = option_map_or (λ (g : GroupPlan). g.when) (slice_get groups f.group) None;
  sender = f.sender;
  to = f.to;
}

-- the flows in their order in the plan
abbrev pub flows_of : Plan → List Flow
flows_of plan = map (flow_of plan.groups.items) plan.flows.items

-- how many packets each unit lets be sent to it for one CTS
abbrev pub windows_of : Plan → List ℕ
windows_of plan = map (λ p. p.window) plan.units.items

abbrev pub window_at : List ℕ → ℕ → ℕ
window_at windows u = slice_index_or windows u 1

abbrev pub dest_of : To → Dest
dest_of All = dests.All
dest_of (One v) = dests.One

-- a message of so many bytes is sent in one frame
abbrev pub is_short : ℕ → Bool
is_short size = nat_le size frame_bytes

-- a flow has messages of so many bytes
abbrev pub has_length : Flow → ℕ → Bool
has_length flow bytes = nat_le flow.length bytes && nat_le bytes flow.most

-- a flow to one unit goes to another one, and its group can be sent to one
abbrev pub can_go_to : Flow → To → Bool
can_go_to flow All = true
can_go_to flow (One v) = not (nat_eq v flow.sender) && not (is_pdu2 flow.pgn && is_short flow.most)

abbrev pub can_be_sent : Flow → Bool
can_be_sent flow = can_go_to flow flow.to

-- the flow at this place of the plan goes from the unit to these
abbrev pub FlowGoes : Plan → ℕ → ℕ → To → Type 0
FlowGoes plan f u to = (flow : Flow) × (slice_get (flows_of plan) f ≡ Some flow) × (flow.sender ≡ u) × (flow.to ≡ to)

-- ---- plans whose groups have one length each

-- the flow has messages of one length
abbrev pub HasOneLength : Flow → Type 0
HasOneLength flow = (flow.most ≡ flow.length) × ((bytes : ℕ) → has_length flow bytes ≡ (flow.length == bytes))

abbrev pub HaveOneLengthEach : Plan → Type 0
HaveOneLengthEach plan = (f : ℕ) (flow : Flow) → slice_get (flows_of plan) f ≡ Some flow → HasOneLength flow

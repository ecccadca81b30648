-- What a flow sends, and whether in one frame that names no destination (SAE J1939-21).
use Rattle.std.specs.Prelude.{◌≡◌, ℕ, ◌≤◌, List}
use Rattle.j39_id.specs.Limits.{frame_bytes}
use Rattle.j39_id.specs.Pgn.{pdu2_first, pf_of}
use Rattle.j39_search.specs.ListPlaces.{ValueAt}
use Rattle.j39_network.specs.declared.plan.group_plan.GroupPlan.{GroupPlan}
use Rattle.j39_network.specs.declared.plan.flow_plan.FlowPlan.{FlowPlan}
use Rattle.j39_network.specs.declared.plan.to.To.TheVariants.{One}

-- ---- groups

-- a group each message of which is sent in one frame, and whose frames name no destination
abbrev pub IsOneFrameToAll : GroupPlan → Type 0
IsOneFrameToAll group = (pdu2_first ≤ pf_of group.pgn) × (group.most ≤ frame_bytes)

-- a group some message of which is sent so
abbrev pub MayBeOneFrameToAll : GroupPlan → Type 0
MayBeOneFrameToAll group = (pdu2_first ≤ pf_of group.pgn) × (group.length ≤ frame_bytes)

-- the flow sends the group, which its label names
abbrev pub Sends : List GroupPlan → GroupPlan → FlowPlan → Type 0
Sends groups group flow = ValueAt (λ sent. sent.label.bytes ≡ group.label.bytes) groups flow.group

-- ---- flows

abbrev pub IsToOne : FlowPlan → Type 0
IsToOne flow = (receiver : ℕ) × (flow.to ≡ One receiver)

-- they send one group from one unit to the same receivers
abbrev pub AreOneFlow : FlowPlan → FlowPlan → Type 0
AreOneFlow f h = (f.group ≡ h.group) × (f.sender ≡ h.sender) × (f.to ≡ h.to)

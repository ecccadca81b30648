-- A frame of what a plan has, in the plan's own words: of a flow's message that goes in one frame, also where others of the flow are long, of a long
-- message to one unit or to all, or a request.
-- No stream stands here, and nothing that is reported of what a flow asks of the bus.
use Rattle.std.specs.Prelude.{◌≡◌, ℕ, ◌+◌, ◌*◌, ◌<◌, ◌≤◌, ◌⊎◌, Bool, true, false, Some}
use Rattle.std.specs.List.{slice_get}
use Rattle.j39_id.specs.Ident.{identifier_of}
use Rattle.j39_id.specs.Services.{connection_management, data_transfer, request}
use Rattle.j39_network.specs.declared.plan.Plan.{Plan}
use Rattle.j39_network.specs.declared.plan.flow_plan.FlowPlan.{FlowPlan}
use Rattle.j39_network.specs.declared.plan.group_plan.GroupPlan.{GroupPlan}
use Rattle.j39_network.specs.declared.plan.pace.Pace.{Pace}
use Rattle.j39_network.specs.declared.plan.request_plan.RequestPlan.{RequestPlan}
use Rattle.j39_network.specs.declared.plan.timing.Timing.{Timing}
use Rattle.j39_network.specs.declared.plan.to.To.{To}
use Rattle.j39_network.specs.declared.plan.to.To.TheVariants.{All, One}
use Rattle.j39_network.specs.declared.plan.unit_plan.UnitPlan.{UnitPlan}
use Rattle.j39_load.specs.AskedFlows.{is_answering}
use Rattle.j39_load.specs.Clocks.{bit_time, longest_million, million, shortest_million}
use Rattle.j39_timing.specs.TimedFrames.{Schedule}
use Rattle.j39_timing.specs.Traffic.{IsQueuedAt}

-- ---- time

-- in millionths of a microsecond, by whichever clocks: a moment counts at the bit that begins next, less than a bit later

-- the second of two bits is so many milliseconds of true time behind the first at most
abbrev pub IsWithinMs : Timing → ℕ → ℕ → ℕ → Type 0
IsWithinMs timing ms a b = b * bit_time timing.bitrate * longest_million timing ≤ a * bit_time timing.bitrate * longest_million timing + 1000 * ms * million

-- or it may be more
abbrev pub IsMsBefore : Timing → ℕ → ℕ → ℕ → Type 0
IsMsBefore timing ms a b = a * bit_time timing.bitrate * longest_million timing + 1000 * ms * million < b * bit_time timing.bitrate * longest_million timing

-- so many milliseconds at most of each clock that a unit can have
abbrev pub IsWithinEachMs : Timing → ℕ → ℕ → ℕ → Type 0
IsWithinEachMs timing ms a b =
    b * bit_time timing.bitrate * longest_million timing ≤ a * bit_time timing.bitrate * longest_million timing + 1000 * ms * shortest_million timing

-- so many milliseconds at most of some clock that a unit can have
abbrev pub IsWithinUnitMs : Timing → ℕ → ℕ → ℕ → Type 0
IsWithinUnitMs timing ms a b =
    b * bit_time timing.bitrate * shortest_million timing < (a + 1) * bit_time timing.bitrate * shortest_million timing + 1000 * ms * longest_million timing

-- or at least
abbrev pub IsMsBehind : Timing → ℕ → ℕ → ℕ → Type 0
IsMsBehind timing ms a b =
    a * bit_time timing.bitrate * longest_million timing + 1000 * ms * shortest_million timing < (b + 1) * bit_time timing.bitrate * longest_million timing

-- ---- sources

-- what a frame is of a long message to one unit (SAE J1939-21): the request to send, a packet by its number from 0, the clear to send for as many
-- packets as the receiver takes at once, by its number from 0, or the acknowledgement of the message's end
pub data Part : Type 0 where
  RequestToSend : Part
  Packet : ℕ → Part
  ClearToSend : ℕ → Part
  EndAcknowledged : Part

-- of what a frame is: of a flow, by its place, each message of which goes in one frame, a message in one frame of a flow that has long ones too, of
-- a long message of a flow to one unit, of a request, by its place, or of a unit's long messages to all, by its place and the message's number: the
-- announcement, or a packet by its number from 0
pub data Source : Type 0 where
  Single : ℕ → Source
  First : ℕ → Source
  InSession : ℕ → Part → Source
  Asking : ℕ → Source
  Announcing : ℕ → ℕ → Source
  Carrying : ℕ → ℕ → ℕ → Source

-- the long messages to all of each unit, by its place, numbered in the order in which it sends them
pub record Broadcasts : Type 0 where
  pub count : ℕ → ℕ
  -- the flow of a message
  pub flow : ℕ → ℕ → ℕ
  -- its release, the bit from which it is wanted, and the one at which its announcement is queued
  pub release : ℕ → ℕ → ℕ
  pub wanted : ℕ → ℕ → ℕ
  pub announced : ℕ → ℕ → ℕ
  -- how many packets it has
  pub packets : ℕ → ℕ → ℕ

-- what each frame is of, by its place, and when its message had its release: a frame of a long message to all counts from where it is queued
pub record FrameSources : Type 0 where
  pub source : ℕ → Source
  pub release : ℕ → ℕ
  pub broadcasts : Broadcasts

-- at each bit, of each unit by its place: whether it is named (the unit is on, or a frame that is queued is for it), and the address that it holds: of
-- one that is off this is the one that it is sent to
pub record Held : Type 0 where
  pub named : ℕ → ℕ → Bool
  pub address : ℕ → ℕ → ℕ

-- where a message goes: to all, or to the address that the unit holds
abbrev pub goes_to : (ℕ → ℕ) → To → ℕ
goes_to address All = 255
goes_to address (One v) = address v

-- ---- messages of one frame

-- the frame is one of a flow, by its place
pub record IsSingleFrame (plan : Plan) (timing : Timing) (s : Schedule) (held : Held) (f release p : ℕ) : Type 0 where
  pub flow : FlowPlan
  pub its : slice_get plan.flows.items f ≡ Some flow
  pub pace : Pace
  pub paced : flow.pace ≡ Some pace
  pub group : GroupPlan
  pub of : slice_get plan.groups.items flow.group ≡ Some group
  -- a frame has eight bytes at most, and takes 80 bits and 10 more for each of them at most
  pub short : group.most ≤ 8
  pub length : s.bits p ≤ 80 + 10 * group.most
  -- it is queued at its release, or as much behind it as the jitter allows
  pub release_first : release ≤ s.queued p
  pub jitter_at_most : IsWithinUnitMs timing pace.jitter release (s.queued p)
  -- while it is queued its units are named, and it has the group's priority and number, and the addresses that they hold
  pub sender_named : (t : ℕ) → IsQueuedAt s p t → held.named t flow.sender ≡ true
  pub receiver_named : (t v : ℕ) → IsQueuedAt s p t → flow.to ≡ One v → held.named t v ≡ true
  pub identifier : (t : ℕ) → IsQueuedAt s p t
      → s.ident p ≡ identifier_of group.priority group.pgn (goes_to (held.address t) flow.to) (held.address t flow.sender)

-- the frame is a message of a flow, by its place, of which others are long: trouble codes of SAE J1939-73, say, while there are none or one
pub record IsFirstFrame (plan : Plan) (timing : Timing) (s : Schedule) (held : Held) (f release p : ℕ) : Type 0 where
  pub flow : FlowPlan
  pub its : slice_get plan.flows.items f ≡ Some flow
  pub pace : Pace
  pub paced : flow.pace ≡ Some pace
  pub group : GroupPlan
  pub of : slice_get plan.groups.items flow.group ≡ Some group
  pub short : group.length ≤ 8
  pub long : 8 < group.most
  pub length : s.bits p ≤ 160
  pub release_first : release ≤ s.queued p
  pub jitter_at_most : IsWithinUnitMs timing pace.jitter release (s.queued p)
  -- while it is queued its units are named, and it has the group's priority and number, and the addresses that they hold
  pub sender_named : (t : ℕ) → IsQueuedAt s p t → held.named t flow.sender ≡ true
  pub receiver_named : (t v : ℕ) → IsQueuedAt s p t → flow.to ≡ One v → held.named t v ≡ true
  pub identifier : (t : ℕ) → IsQueuedAt s p t
      → s.ident p ≡ identifier_of group.priority group.pgn (goes_to (held.address t) flow.to) (held.address t flow.sender)

-- ---- long messages to one unit

-- a message of so many bytes has this part: a packet carries seven of them, and the receiver takes so many packets at once
abbrev pub IsPart : ℕ → ℕ → Part → Type 0
IsPart bytes window RequestToSend = Unit {0}
IsPart bytes window (Packet k) = 7 * k < bytes
IsPart bytes window (ClearToSend k) = 7 * (window * k) < bytes
IsPart bytes window EndAcknowledged = Unit {0}

-- its identifier, by the addresses of sender and receiver: the sender asks and sends packets, the receiver answers
abbrev pub part_identifier : Timing → Part → ℕ → ℕ → ℕ
part_identifier timing RequestToSend sender receiver = identifier_of timing.transport_priority connection_management receiver sender
part_identifier timing (Packet k) sender receiver = identifier_of timing.transport_priority data_transfer receiver sender
part_identifier timing (ClearToSend k) sender receiver = identifier_of timing.transport_priority connection_management sender receiver
part_identifier timing EndAcknowledged sender receiver = identifier_of timing.transport_priority connection_management sender receiver

-- the frame is one of a flow's long message to one unit
pub record IsSessionFrame (plan : Plan) (timing : Timing) (s : Schedule) (held : Held) (f : ℕ) (part : Part) (release p : ℕ) : Type 0 where
  pub flow : FlowPlan
  pub its : slice_get plan.flows.items f ≡ Some flow
  pub pace : Pace
  pub paced : flow.pace ≡ Some pace
  pub group : GroupPlan
  pub of : slice_get plan.groups.items flow.group ≡ Some group
  pub long : 8 < group.most
  pub receiver : ℕ
  pub to_one : flow.to ≡ One receiver
  pub unit : UnitPlan
  pub receiver_is : slice_get plan.units.items receiver ≡ Some unit
  -- no message of the group is longer than planned, and its receiver takes as many packets at once as its unit does
  pub is_part : IsPart group.most unit.window part
  pub length : s.bits p ≤ 160
  -- the message has ended before the next one of its flow is queued
  pub release_first : release ≤ s.queued p
  pub jitter_at_most : IsWithinUnitMs timing (pace.period + pace.jitter) release (s.queued p)
  -- while it is queued both units are named, and it has the addresses that they hold
  pub sender_named : (t : ℕ) → IsQueuedAt s p t → held.named t flow.sender ≡ true
  pub receiver_named : (t : ℕ) → IsQueuedAt s p t → held.named t receiver ≡ true
  pub identifier : (t : ℕ) → IsQueuedAt s p t → s.ident p ≡ part_identifier timing part (held.address t flow.sender) (held.address t receiver)

-- ---- requests

-- the frame is one of a request, by its place: three bytes of priority 6, queued when it is wanted
pub record IsRequestFrame (plan : Plan) (s : Schedule) (held : Held) (r release p : ℕ) : Type 0 where
  pub asked : RequestPlan
  pub its : slice_get plan.requests.items r ≡ Some asked
  pub ms : ℕ
  pub paced : asked.period ≡ Some ms
  pub length : s.bits p ≤ 80 + 10 * 3
  pub at_once : s.queued p ≡ release
  -- while it is queued its units are named, and it has the addresses that they hold
  pub sender_named : (t : ℕ) → IsQueuedAt s p t → held.named t asked.sender ≡ true
  pub receiver_named : (t v : ℕ) → IsQueuedAt s p t → asked.to ≡ One v → held.named t v ≡ true
  pub identifier : (t : ℕ) → IsQueuedAt s p t → s.ident p ≡ identifier_of 6 request (goes_to (held.address t) asked.to) (held.address t asked.sender)

-- ---- long messages to all

-- the frame is one of a unit's message of this number to all, and has the group number of announcements or of packets
pub record IsBroadcastFrame (timing : Timing) (s : Schedule) (held : Held) (b : Broadcasts) (number u m release p : ℕ) : Type 0 where
  pub known : m < b.count u
  pub length : s.bits p ≤ 160
  pub at_once : s.queued p ≡ release
  -- while it is queued its unit is named, and it has the address that this holds
  pub sender_named : (t : ℕ) → IsQueuedAt s p t → held.named t u ≡ true
  pub identifier : (t : ℕ) → IsQueuedAt s p t → s.ident p ≡ identifier_of timing.transport_priority number 255 (held.address t u)

-- ---- all of them

-- the frame is one of this source
abbrev pub IsFrameOf : Plan → Timing → Schedule → Held → Broadcasts → Source → ℕ → ℕ → Type 0
IsFrameOf plan timing s held b (Single f) release p = IsSingleFrame plan timing s held f release p
IsFrameOf plan timing s held b (First f) release p = IsFirstFrame plan timing s held f release p
IsFrameOf plan timing s held b (InSession f part) release p = IsSessionFrame plan timing s held f part release p
IsFrameOf plan timing s held b (Asking r) release p = IsRequestFrame plan s held r release p
IsFrameOf plan timing s held b (Announcing u m) release p = IsBroadcastFrame timing s held b connection_management u m release p
IsFrameOf plan timing s held b (Carrying u m k) release p = IsBroadcastFrame timing s held b data_transfer u m release p × (k < b.packets u m)

-- times are promised of it: of a flow with long messages none is of those that go in one frame, and none of long ones to one unit and of requests
abbrev pub HasTime : Source → Type 0
HasTime (Single f) = Unit {0}
HasTime (First f) = ⊥
HasTime (InSession f part) = ⊥
HasTime (Asking r) = ⊥
HasTime (Announcing u m) = Unit {0}
HasTime (Carrying u m k) = Unit {0}

-- nothing that isn't planned has its identifier
abbrev pub HasOwnIdentifier : Source → Type 0
HasOwnIdentifier (Single f) = Unit {0}
HasOwnIdentifier (First f) = Unit {0}
HasOwnIdentifier (InSession f part) = ⊥
HasOwnIdentifier (Asking r) = ⊥
HasOwnIdentifier (Announcing u m) = Unit {0}
HasOwnIdentifier (Carrying u m k) = Unit {0}

-- it is a frame of a unit's long messages to all
abbrev pub IsToAllBy : ℕ → Source → Type 0
IsToAllBy u (Single f) = ⊥
IsToAllBy u (First f) = ⊥
IsToAllBy u (InSession f part) = ⊥
IsToAllBy u (Asking r) = ⊥
IsToAllBy u (Announcing v m) = v ≡ u
IsToAllBy u (Carrying v m k) = v ≡ u

-- the flow has this period, in milliseconds, and doesn't come only as an answer to requests that have one
pub record HasPeriodMs (plan : Plan) (f ms : ℕ) : Type 0 where
  pub flow : FlowPlan
  pub its : slice_get plan.flows.items f ≡ Some flow
  pub pace : Pace
  pub paced : flow.pace ≡ Some pace
  pub is : pace.period ≡ ms
  pub unasked : is_answering plan.requests.items flow ≡ false

-- and so has the source; what a unit sends to all comes by its own gaps
abbrev pub IsSentEvery : Plan → Source → ℕ → Type 0
IsSentEvery plan (Single f) ms = HasPeriodMs plan f ms
IsSentEvery plan (First f) ms = HasPeriodMs plan f ms
IsSentEvery plan (InSession f part) ms = HasPeriodMs plan f ms
IsSentEvery plan (Asking r) ms = (asked : RequestPlan) × (slice_get plan.requests.items r ≡ Some asked) × (asked.period ≡ Some ms)
IsSentEvery plan (Announcing u m) ms = ⊥
IsSentEvery plan (Carrying u m k) ms = ⊥

-- the unit sends the part of a flow's long message
abbrev pub SendsPart : FlowPlan → Part → ℕ → Type 0
SendsPart flow RequestToSend u = flow.sender ≡ u
SendsPart flow (Packet k) u = flow.sender ≡ u
SendsPart flow (ClearToSend k) u = flow.to ≡ One u
SendsPart flow EndAcknowledged u = flow.to ≡ One u

-- the unit sends the source's frames
abbrev pub IsSentByUnit : Plan → Source → ℕ → Type 0
IsSentByUnit plan (Single f) u = (flow : FlowPlan) × (slice_get plan.flows.items f ≡ Some flow) × (flow.sender ≡ u)
IsSentByUnit plan (First f) u = (flow : FlowPlan) × (slice_get plan.flows.items f ≡ Some flow) × (flow.sender ≡ u)
IsSentByUnit plan (InSession f part) u = (flow : FlowPlan) × (slice_get plan.flows.items f ≡ Some flow) × SendsPart flow part u
IsSentByUnit plan (Asking r) u = (asked : RequestPlan) × (slice_get plan.requests.items r ≡ Some asked) × (asked.sender ≡ u)
IsSentByUnit plan (Announcing v m) u = v ≡ u
IsSentByUnit plan (Carrying v m k) u = v ≡ u

-- the unit sends frames of the source's message: of a long one to one unit both ends do
abbrev pub TakesPart : Plan → Source → ℕ → Type 0
TakesPart plan (Single f) u = IsSentByUnit plan (Single f) u
TakesPart plan (First f) u = IsSentByUnit plan (First f) u
TakesPart plan (InSession f part) u = (flow : FlowPlan) × (slice_get plan.flows.items f ≡ Some flow) × ((flow.sender ≡ u) ⊎ (flow.to ≡ One u))
TakesPart plan (Asking r) u = IsSentByUnit plan (Asking r) u
TakesPart plan (Announcing v m) u = v ≡ u
TakesPart plan (Carrying v m k) u = v ≡ u

-- What a unit keeps of the plan on a bus, whatever others do: its planned frames are those of the plan's flows and requests, in the words of the bus's
-- schedule, and carry what these bring, and what it sends besides keeps to what the plan reports of it.
use Rattle.std.specs.Prelude.{◌≡◌, ◌≢◌, ℕ, ◌*◌, ◌^◌, ◌<◌, ◌≤◌, Bool, true, false, List, length, slice_index, Option, Some}
use Rattle.std.specs.List.{slice_get}
use Rattle.j39_id.specs.Addresses.{null_address}
use Rattle.j39_id.specs.Ident.{bits}
use Rattle.j39_id.specs.Lines.{Line}
use Rattle.j39_id.specs.declared.frame.Frame.{Frame}
use Rattle.j39_signal.specs.Selectors.{is_selected}
use Rattle.j39_network.specs.declared.plan.Plan.{Plan}
use Rattle.j39_network.specs.declared.plan.flow_plan.FlowPlan.{FlowPlan}
use Rattle.j39_network.specs.declared.plan.group_plan.GroupPlan.{GroupPlan}
use Rattle.j39_network.specs.declared.plan.timing.Timing.{Timing}
use Rattle.j39_tp.specs.Packets.{bam_control, pgn_in, rts_control, size_in}
use Rattle.j39_tp.specs.declared.packet.Packet.{Packet}
use Rattle.j39_timing.specs.TimedFrames.{Schedule}
use Rattle.j39_load.specs.BusTimes.{timing_of}
use Rattle.j39_load.specs.KeepsBroadcasts.{IsMessageToAll}
use Rattle.j39_load.specs.KeepsPlan.{KeepsToPlan}
use Rattle.j39_load.specs.SentFrames.{Announcing, Asking, Broadcasts, Carrying, ClearToSend, EndAcknowledged, First, FrameSources, Held, InSession, IsFrameOf, IsSentByUnit, Packet as CarriedPacket, RequestToSend, Single, Source}
use Rattle.j39_log_laws.specs.HolderReports.{HaveOwnNumbers}
use Rattle.j39_audit.specs.Claiming.{HeardClaims, Knowledge}
use Rattle.j39_audit.specs.Looking.{IsPacketOf, is_claim, message_sent}
use Rattle.j39_audit.specs.SentMessages.{SentMessage}
use Rattle.j39_audit.specs.Settings.{AreMoving, Settings}
use Rattle.j39_audit.specs.declared.mark.Word.TheVariants.{Address, Cannot, Layout, NoFlow, Priority, Urgent}
use Rattle.j39_audit_laws.specs.FoundLines.{IsFrameAt}
use Rattle.j39_audit_laws.specs.OwnPart.{AreItsOwn, ClaimsAddresses, IsItsAddress, IsItsNumber, IsNotNamed, IsOfFlowPlanned}

-- ---- a bus and its log

-- of each frame of a bus, by its place, the unit that sends it, if one of the plan does, and what it is on the wire
pub record WireFrames : Type 0 where
  pub unit : ℕ → Option ℕ
  pub frame : ℕ → Frame

-- the frames of a log are frames of the bus: line for line the one at this place
pub record ShowsFrames (s : Settings) (log : List Line) (bus : Schedule) (wire : WireFrames) (place : ℕ → ℕ) : Type 0 where
  pub known : (number : ℕ) (claims : HeardClaims) (f : Frame) (packet : Option Packet) → IsFrameAt s log number claims f packet → place number < bus.count
  pub is : (number : ℕ) (claims : HeardClaims) (f : Frame) (packet : Option Packet) → IsFrameAt s log number claims f packet → wire.frame (place number) ≡ f

-- ---- what planned frames carry

-- these bytes are a message of the group
pub record IsGroupMessage (group : GroupPlan) (bytes : List ℕ) : Type 0 where
  pub at_least : group.length ≤ length bytes
  pub at_most : length bytes ≤ group.most
  pub selected : is_selected group.when bytes ≡ true

-- they announce one, by its size and the group's number
pub record IsGroupAnnounced (group : GroupPlan) (bytes : List ℕ) : Type 0 where
  pub at_least : group.length ≤ size_in bytes
  pub at_most : size_in bytes ≤ group.most
  pub number : pgn_in bytes ≡ group.pgn

-- so it is of the group of the flow at a place
abbrev pub OfFlowsGroup : Plan → ℕ → (GroupPlan → Type 0) → Type 0
OfFlowsGroup plan k Holds = (flow : FlowPlan) (group : GroupPlan) → slice_get plan.flows.items k ≡ Some flow
    → slice_get plan.groups.items flow.group ≡ Some group → Holds group

-- by their first byte they are no announcement
abbrev pub AnnounceNothing : List ℕ → Type 0
AnnounceNothing bytes = (slice_index bytes 0 ≢ rts_control) × (slice_index bytes 0 ≢ bam_control)

-- the bytes of a frame of this source
abbrev pub CarriesPlanned : Plan → Broadcasts → Source → List ℕ → Type 0
CarriesPlanned plan b (Single k) bytes = OfFlowsGroup plan k (λ group. IsGroupMessage group bytes)
CarriesPlanned plan b (First k) bytes = OfFlowsGroup plan k (λ group. IsGroupMessage group bytes)
CarriesPlanned plan b (InSession k RequestToSend) bytes = OfFlowsGroup plan k (λ group. IsGroupAnnounced group bytes)
CarriesPlanned plan b (InSession k (CarriedPacket j)) bytes = Unit {0}
CarriesPlanned plan b (InSession k (ClearToSend j)) bytes = AnnounceNothing bytes
CarriesPlanned plan b (InSession k EndAcknowledged) bytes = AnnounceNothing bytes
CarriesPlanned plan b (Asking r) bytes = Unit {0}
CarriesPlanned plan b (Announcing u m) bytes = OfFlowsGroup plan (b.flow u m) (λ group. IsGroupAnnounced group bytes)
CarriesPlanned plan b (Carrying u m k) bytes = Unit {0}

-- ---- what a unit keeps

-- a frame of the unit that isn't planned looks so: a claim is one of an address of the unit, and only where this claims; and where it is a message with a
-- number of one of the unit's groups, or announces one, this looks like one of its flows
pub record LooksBesidePlan (plan : Plan) (u : ℕ) (f : Frame) : Type 0 where
  pub claims : is_claim f ≡ true → (f.ident.sa ≢ null_address) × ClaimsAddresses plan u × IsItsAddress plan u f.ident.sa
  pub messages : (packet : Option Packet) (m : SentMessage) → IsPacketOf f packet → message_sent u f packet ≡ Some m → IsItsNumber plan u m.number
      → (k : Knowledge) → IsOfFlowPlanned plan k m

-- and has the priority of what isn't planned or a larger number
pub record KeepsBesidePlan (plan : Plan) (timing : Timing) (u ident : ℕ) (f : Frame) : Type 0 where
  pub looks : LooksBesidePlan plan u f
  pub priority : timing.unplanned_priority * 2 ^ 26 ≤ ident

-- a planned one is of a flow or a request of the unit, or of a long message that it receives
pub record KeepsToFlows (plan : Plan) (timing : Timing) (bus : Schedule) (held : Held) (sent : FrameSources) (u p : ℕ) (f : Frame) : Type 0 where
  pub is : IsFrameOf plan timing bus held sent.broadcasts (sent.source p) (sent.release p) p
  pub its : IsSentByUnit plan (sent.source p) u
  pub carries : CarriesPlanned plan sent.broadcasts (sent.source p) f.payload.items

pub record KeepsOwnFrames (plan : Plan) (timing : Timing) (bus : Schedule) (wire : WireFrames) (planned : ℕ → Bool) (sent : FrameSources) (held : Held) (u : ℕ)
    : Type 0 where
  -- the frames are those of the schedule, each ready before it begins
  pub ident : (p : ℕ) → p < bus.count → wire.unit p ≡ Some u → bits (wire.frame p).ident ≡ bus.ident p
  pub queued_first : (p : ℕ) → p < bus.count → wire.unit p ≡ Some u → bus.queued p ≤ bus.start p
  -- each unit holds one of its addresses
  pub held_own : (t v : ℕ) → v < length plan.units.items → IsItsAddress plan v (held.address t v)
  pub messages : (m : ℕ) → m < sent.broadcasts.count u → IsMessageToAll plan timing sent.broadcasts u m
  pub flows : (p : ℕ) → p < bus.count → wire.unit p ≡ Some u → planned p ≡ true → KeepsToFlows plan timing bus held sent u p (wire.frame p)
  pub besides : (p : ℕ) → p < bus.count → wire.unit p ≡ Some u → planned p ≡ false → KeepsBesidePlan plan timing u (bus.ident p) (wire.frame p)

-- ---- who keeps it isn't accused

-- no line of the words that speak of a unit's frames one by one is written of it
pub record IsNotAccused (s : Settings) (log : List Line) (u : ℕ) : Type 0 where
  pub address : IsNotNamed s log Address u
  pub cannot : IsNotNamed s log Cannot u
  pub layout : IsNotNamed s log Layout u
  pub no_flow : IsNotNamed s log NoFlow u
  pub priority : IsNotNamed s log Priority u
  pub urgent : IsNotNamed s log Urgent u

-- on each bus, of any log of it, also one that lacks frames, where frames of an address at which the unit alone may be, and claims of its NAMEs, are its own
abbrev pub KeepersAreNotAccused : Type 0
KeepersAreNotAccused = (s : Settings) (log : List Line) (timing : Timing) (bus : Schedule) (wire : WireFrames) (place : ℕ → ℕ) (planned : ℕ → Bool)
    (sent : FrameSources) (held : Held) (u : ℕ) → AreMoving s.plan s.moving → HaveOwnNumbers s.plan → timing_of s.plan ≡ Some timing
    → ShowsFrames s log bus wire place → AreItsOwn s log (λ number. wire.unit (place number)) u
    → KeepsOwnFrames s.plan timing bus wire planned sent held u → IsNotAccused s log u

-- ---- a bus that keeps to its plan

-- what its schedule doesn't report: each frame of a unit is on the wire as there, and where it is planned it is one that the unit sends; each that is
-- planned carries what its flow brings; each unit holds one of its addresses; and what isn't planned looks so
pub record CarriesPlan (plan : Plan) (bus : Schedule) (wire : WireFrames) (planned : ℕ → Bool) (sent : FrameSources) (held : Held) : Type 0 where
  pub ident : (p u : ℕ) → p < bus.count → wire.unit p ≡ Some u → bits (wire.frame p).ident ≡ bus.ident p
  pub sender : (p u : ℕ) → p < bus.count → wire.unit p ≡ Some u → planned p ≡ true → IsSentByUnit plan (sent.source p) u
  pub flows : (p : ℕ) → p < bus.count → planned p ≡ true → CarriesPlanned plan sent.broadcasts (sent.source p) (wire.frame p).payload.items
  pub held_own : (t v : ℕ) → v < length plan.units.items → IsItsAddress plan v (held.address t v)
  pub besides : (p u : ℕ) → p < bus.count → wire.unit p ≡ Some u → planned p ≡ false → LooksBesidePlan plan u (wire.frame p)

-- on such a bus no unit is accused
abbrev pub KeptPlansAreNotAccused : Type 0
KeptPlansAreNotAccused = (s : Settings) (log : List Line) (timing : Timing) (bus : Schedule) (wire : WireFrames) (place : ℕ → ℕ) (planned : ℕ → Bool)
    (sent : FrameSources) (held : Held) → AreMoving s.plan s.moving → HaveOwnNumbers s.plan → timing_of s.plan ≡ Some timing
    → ((p : ℕ) → p < bus.count → bus.queued p ≤ bus.start p) → KeepsToPlan s.plan timing bus planned sent held
    → CarriesPlan s.plan bus wire planned sent held → ShowsFrames s log bus wire place
    → (u : ℕ) → AreItsOwn s log (λ number. wire.unit (place number)) u → IsNotAccused s log u

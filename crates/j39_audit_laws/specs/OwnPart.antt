-- What a unit keeps of its own part, whatever others do, and that no line is written of it then.
use Rattle.std.specs.Prelude.{◌≡◌, ◌≢◌, ◌⊎◌, ℕ, ◌<◌, ◌≤◌, true, false, List, [], Option, Some}
use Rattle.std.specs.FinSet.{contains}
use Rattle.std.specs.List.{slice_get}
use Rattle.j39_id.specs.Addresses.{global_address, in_pool, is_address, null_address}
use Rattle.j39_id.specs.FrameMeaning.{name_in}
use Rattle.j39_id.specs.Ident.{pgn_of}
use Rattle.j39_id.specs.Lines.{Line}
use Rattle.j39_id.specs.Name.{is_arbitrary}
use Rattle.j39_id.specs.Services.{connection_management, data_transfer}
use Rattle.j39_id.specs.declared.frame.Frame.{Frame}
use Rattle.j39_signal.specs.Selectors.{is_selected}
use Rattle.j39_network.specs.PlannedUnits.{units_of}
use Rattle.j39_network.specs.Staying.{StaysBeside}
use Rattle.j39_network.specs.declared.plan.Plan.{Plan}
use Rattle.j39_network.specs.declared.plan.flow_plan.FlowPlan.{FlowPlan}
use Rattle.j39_network.specs.declared.plan.group_plan.GroupPlan.{GroupPlan}
use Rattle.j39_network.specs.declared.plan.timing.Timing.{Timing}
use Rattle.j39_network.specs.declared.plan.to.To.{To}
use Rattle.j39_network.specs.declared.plan.to.To.TheVariants.{All as ToAll, One as ToOne}
use Rattle.j39_network.specs.declared.plan.unit_plan.UnitPlan.{UnitPlan}
use Rattle.j39_follow.specs.Who.{unit_of_name}
use Rattle.j39_tp.specs.declared.packet.Packet.{Packet}
use Rattle.j39_audit.specs.AuditPasts.{AuditPast, AuditsLines, nothing_read}
use Rattle.j39_audit.specs.AuditText.{look_at, subject_lines}
use Rattle.j39_audit.specs.Claiming.{HeardClaims, Knowledge, knowledge, sender_at, was_asked_for}
use Rattle.j39_audit.specs.Looking.{is_claim, is_single, message_sent}
use Rattle.j39_audit.specs.SentMessages.{SentMessage}
use Rattle.j39_audit.specs.Settings.{Settings}
use Rattle.j39_audit.specs.declared.mark.Word.{Word}
use Rattle.j39_audit.specs.declared.senders.SureSender.TheVariants.{Unit as OfUnit}
use Rattle.j39_audit_laws.specs.FoundLines.{HasToSayCannot, IsFrameAt, MayMoveThere}

-- ---- the plan

-- an address of the unit: its planned one, or where it may choose and doesn't stay, each of 128 to 247 that isn't kept
-- free, and with strangers those that are
pub record IsItsAddress (plan : Plan) (u a : ℕ) : Type 0 where
  pub unit : UnitPlan
  pub unit_is : slice_get plan.units.items u ≡ Some unit
  pub planned_or_free : (unit.address ≡ a) ⊎ ((is_arbitrary unit.name ≡ true) × (¬ StaysBeside plan.strangers (units_of plan) u)
      × (in_pool a ≡ true) × ((0 < plan.strangers) ⊎ (contains plan.keep_free a ≡ false)))

-- the unit claims addresses
pub record ClaimsAddresses (plan : Plan) (u : ℕ) : Type 0 where
  pub unit : UnitPlan
  pub unit_is : slice_get plan.units.items u ≡ Some unit
  pub claims : unit.claims ≡ true

-- the number is that of a group which isn't private, or of which the unit has a flow
pub record IsItsNumber (plan : Plan) (u number : ℕ) : Type 0 where
  pub place : ℕ
  pub group : GroupPlan
  pub group_is : slice_get plan.groups.items place ≡ Some group
  pub number_is : group.pgn ≡ number
  pub own : (group.private ≡ false)
      ⊎ ((n : ℕ) × (flow : FlowPlan) × (slice_get plan.flows.items n ≡ Some flow) × (flow.group ≡ place) × (flow.sender ≡ u))

-- a message of a flow to these goes to all, or to an address of the one unit or to where it claimed last; or its
-- identifier names no destination
abbrev pub GoesAsPlanned : Plan → Knowledge → SentMessage → To → Type 0
GoesAsPlanned plan k m ToAll = (m.unaddressed ≡ true) ⊎ (m.destination ≡ global_address)
GoesAsPlanned plan k m (ToOne v) =
    (m.unaddressed ≡ true) ⊎ ((m.destination ≢ global_address) × (IsItsAddress plan v m.destination ⊎ (k.last v ≡ Some m.destination)))

-- the message is of this flow of the unit: of its group, with a length that the group may have, and where it is one
-- frame with bytes that its selector takes and with its priority; and it goes where the flow goes
pub record IsOfFlowPlanned (plan : Plan) (k : Knowledge) (m : SentMessage) : Type 0 where
  pub place : ℕ
  pub flow : FlowPlan
  pub flow_is : slice_get plan.flows.items place ≡ Some flow
  pub sender : flow.sender ≡ m.unit
  pub group : GroupPlan
  pub group_is : slice_get plan.groups.items flow.group ≡ Some group
  pub number : group.pgn ≡ m.number
  pub at_least : group.length ≤ m.size
  pub at_most : m.size ≤ group.most
  pub selected : (bytes : List ℕ) → m.bytes ≡ Some bytes → is_selected group.when bytes ≡ true
  pub priority : (priority : ℕ) → m.priority ≡ Some priority → group.priority ≡ priority
  pub goes : GoesAsPlanned plan k m flow.to

-- ---- whose a frame is

-- which unit of the plan sent the frame of each line, if one did; a log doesn't show it
abbrev pub SentBy : Type 0
SentBy = ℕ → Option ℕ

-- frames of an address at which the unit alone may be are its own, and so are claims of its NAMEs
pub record AreItsOwn (s : Settings) (log : List Line) (sent : SentBy) (u : ℕ) : Type 0 where
  pub frames : (number : ℕ) (claims : HeardClaims) (f : Frame) (packet : Option Packet) → IsFrameAt s log number claims f packet
      → is_claim f ≡ false → is_address f.ident.sa ≡ true → sender_at s (knowledge s claims) f.ident.sa ≡ OfUnit u → sent number ≡ Some u
  pub claims : (number : ℕ) (claims : HeardClaims) (f : Frame) (packet : Option Packet) → IsFrameAt s log number claims f packet
      → is_claim f ≡ true → unit_of_name s.plan (name_in f) ≡ Some u → sent number ≡ Some u

-- it is so of each frame of the unit, with the claims before it
abbrev pub OfItsFrames : Settings → List Line → SentBy → ℕ → (HeardClaims → Frame → Option Packet → Type 0) → Type 0
OfItsFrames s log sent u Holds = (number : ℕ) (claims : HeardClaims) (f : Frame) (packet : Option Packet)
    → IsFrameAt s log number claims f packet → sent number ≡ Some u → Holds claims f packet

-- ---- what it keeps

-- it never says that it can't claim an address
abbrev pub AlwaysCan : Settings → List Line → SentBy → ℕ → Type 0
AlwaysCan s log sent u = OfItsFrames s log sent u (λ claims f packet. is_claim f ≡ true → f.ident.sa ≢ null_address)

-- or it does so only where it has to give way, as its NAME doesn't let it choose
abbrev pub SaysCannotWhereItHasTo : Settings → List Line → SentBy → ℕ → Type 0
SaysCannotWhereItHasTo s log sent u = OfItsFrames s log sent u
    (λ claims f packet. is_claim f ≡ true → f.ident.sa ≡ null_address → HasToSayCannot s claims f u)

-- it claims only where the plan says that it claims, and its claims are of its addresses
abbrev pub ClaimsItsOwn : Settings → List Line → SentBy → ℕ → Type 0
ClaimsItsOwn s log sent u = OfItsFrames s log sent u
    (λ claims f packet. is_claim f ≡ true → f.ident.sa ≢ null_address → ClaimsAddresses s.plan u × IsItsAddress s.plan u f.ident.sa)

-- or, where it has to give way and its NAME lets it choose, of one that isn't kept free
abbrev pub ClaimsWhereItMay : Settings → List Line → SentBy → ℕ → Type 0
ClaimsWhereItMay s log sent u = OfItsFrames s log sent u
    (λ claims f packet. is_claim f ≡ true → f.ident.sa ≢ null_address
    → (ClaimsAddresses s.plan u × IsItsAddress s.plan u f.ident.sa) ⊎ MayMoveThere s claims f u)

-- each message that has, or announces, a number of one of its groups is of one of its flows
abbrev pub LooksAsPlanned : Settings → List Line → SentBy → ℕ → Type 0
LooksAsPlanned s log sent u = OfItsFrames s log sent u (λ claims f packet. (m : SentMessage) → message_sent u f packet ≡ Some m
    → IsItsNumber s.plan u m.number → IsOfFlowPlanned s.plan (knowledge s claims) m)

-- or it was asked for, as the lines before it show
abbrev pub LooksPlannedOrAsked : Settings → List Line → SentBy → ℕ → Type 0
LooksPlannedOrAsked s log sent u = OfItsFrames s log sent u (λ claims f packet. (m : SentMessage) → message_sent u f packet ≡ Some m
    → IsItsNumber s.plan u m.number
    → IsOfFlowPlanned s.plan (knowledge s claims) m ⊎ (was_asked_for s (knowledge s claims) false m.number m.source ≡ true))

-- a frame that is a group's by its number, or one of a long message with the priority of these or a lower one
abbrev pub IsByThePlan : Settings → Timing → ℕ → Frame → Type 0
IsByThePlan s t u f =
    ((is_single (pgn_of f.ident) ≡ true) × IsItsNumber s.plan u (pgn_of f.ident))
    ⊎ (((pgn_of f.ident ≡ connection_management) ⊎ (pgn_of f.ident ≡ data_transfer)) × (t.transport_priority ≤ f.ident.priority))

-- what it sends besides has `unplanned_priority` or a larger number
abbrev pub WaitsForPlanned : Settings → List Line → SentBy → ℕ → Type 0
WaitsForPlanned s log sent u = OfItsFrames s log sent u (λ claims f packet. (t : Timing) → s.plan.timing ≡ Some t
    → f.ident.priority < t.unplanned_priority → IsByThePlan s t u f)

-- ---- what isn't written then

-- no line of this word is written of the unit
abbrev pub IsNotNamed : Settings → List Line → Word → ℕ → Type 0
IsNotNamed s log word u = (end : AuditPast) → AuditsLines s nothing_read log end → subject_lines s (look_at end) word u ≡ []

-- ---- that all can be kept

-- by some senders each unit keeps all of this
abbrev pub EachKeepsItsPart : Settings → List Line → Type 0
EachKeepsItsPart s log =
    (sent : SentBy) × ((u : ℕ) → AreItsOwn s log sent u × AlwaysCan s log sent u × ClaimsItsOwn s log sent u × LooksAsPlanned s log sent u)

-- That all that is asked of a bus, of its frames on the wire and of a whole log of it can be kept at once.
use Rattle.std.specs.Prelude.{◌≡◌, ℕ, ◌≤◌, true, false, List, length, Option, Some}
use Rattle.std.specs.List.{slice_get}
use Rattle.hex.specs.Hex.{IsBytes}
use Rattle.j39_id.specs.Ident.{bits, identifier_of}
use Rattle.j39_id.specs.Lines.{Line}
use Rattle.j39_id.specs.Pgn.{IsPgn}
use Rattle.j39_id.specs.Services.{is_service}
use Rattle.j39_id.specs.declared.frame.Frame.{Frame}
use Rattle.j39_network.specs.PlannedUnits.{unit_at, units_of}
use Rattle.j39_network.specs.declared.plan.Plan.{Plan}
use Rattle.j39_network.specs.declared.plan.flow_plan.FlowPlan.{FlowPlan}
use Rattle.j39_network.specs.declared.plan.group_plan.GroupPlan.{GroupPlan}
use Rattle.j39_network.specs.declared.plan.pace.Pace.{Pace}
use Rattle.j39_network.specs.declared.plan.timing.Timing.{Timing}
use Rattle.j39_tp.specs.declared.packet.Packet.{Packet}
use Rattle.j39_world.specs.HeldAddresses.{ArePlannedApart}
use Rattle.j39_load.specs.AskedFlows.{is_answering}
use Rattle.j39_load.specs.Clocks.{bit_time}
use Rattle.j39_load.specs.KeepsPlan.{KeptBus}
use Rattle.j39_load.specs.SentFrames.{Single, goes_to}
use Rattle.j39_audit.specs.AuditPasts.{AuditPast, AuditsLines, nothing_read}
use Rattle.j39_audit.specs.Looking.{IsPacketOf}
use Rattle.j39_audit.specs.Settings.{Settings}
use Rattle.j39_audit_laws.specs.ByLoad.{AreOfFlow}
use Rattle.j39_audit_laws.specs.KeptLogs.{AreSeenAs, IsLogOfBus, IsWholeLog, KeepsItsPeriod}
use Rattle.j39_audit_laws.specs.KeptParts.{CarriesPlan, IsGroupMessage, KeepsOwnFrames, ShowsFrames, WireFrames}
use Rattle.j39_audit_laws.specs.MarkRecords.{KeepsTime}
use Rattle.j39_audit_laws.specs.OwnPart.{AreItsOwn}
use Rattle.j39_audit_laws.specs.PauseLines.{FrameLine, time_there}

-- a flow each message of which goes in one frame, with a period of less than a second, of a group whose number is none of the network's own; and it
-- doesn't come only as an answer to requests that have a period
pub record IsOftenSent (plan : Plan) (f : ℕ) (flow : FlowPlan) (pace : Pace) (group : GroupPlan) : Type 0 where
  pub its : slice_get plan.flows.items f ≡ Some flow
  pub paced : flow.pace ≡ Some pace
  pub often : pace.period ≤ 990
  pub of : slice_get plan.groups.items flow.group ≡ Some group
  pub short : group.most ≤ 8
  pub number : IsPgn group.pgn
  pub own : is_service group.pgn ≡ false
  pub unasked : is_answering plan.requests.items flow ≡ false

-- a frame of the flow, from its planned address, to the planned one of its receiver
pub record IsPlannedFrameOf (plan : Plan) (flow : FlowPlan) (group : GroupPlan) (frame : Frame) : Type 0 where
  pub ident : bits frame.ident
      ≡ identifier_of group.priority group.pgn (goes_to (λ u. (unit_at (units_of plan) u).preferred) flow.to) (unit_at (units_of plan) flow.sender).preferred
  pub message : IsGroupMessage group frame.payload.items
  pub bytes : IsBytes frame.payload.items

-- a bus and a log of it, in which two lines are such a frame, at 1.000 and at 1.990 seconds: the bus keeps to the plan, its frames on the wire carry
-- what this brings, and so do those of each unit, the flow keeps its period, and the log is a whole one of the bus, in which what is of a unit alone
-- is its own
pub record CanBeLogged (s : Settings) (timing : Timing) (f : ℕ) (frame : Frame) : Type 0 where
  pub bus : KeptBus s.plan timing
  pub wire : WireFrames
  pub carries : CarriesPlan s.plan bus.s wire bus.planned bus.sent bus.held
  pub own : (u : ℕ) → KeepsOwnFrames s.plan timing bus.s wire bus.planned bus.sent bus.held u
  pub log : List Line
  pub place : ℕ → ℕ
  pub shows : ShowsFrames s log bus.s wire place
  pub clock : ℕ → ℕ
  pub keeps_time : KeepsTime (bit_time timing.bitrate) clock
  pub logged : IsLogOfBus s log bus.s clock place
  pub whole : IsWholeLog s log bus.s clock place
  pub its_own : (u : ℕ) → AreItsOwn s log (λ number. wire.unit (place number)) u
  pub ms : ℕ
  pub period : KeepsItsPeriod s.plan timing bus.s bus.held f ms bus.sent.release (λ p. true)
  pub of_flow : AreOfFlow bus.planned bus.sent f (λ p. true)
  pub seen : AreSeenAs s log place f (λ p. true)
  pub end : AuditPast
  pub audited : AuditsLines s nothing_read log end
  pub lines : length log ≡ 2
  pub first : FrameLine s log 1
  pub first_is : (first.f ≡ frame) × (bus.sent.source (place 1) ≡ Single f) × (time_there first ≡ Some 1000000)
  pub second : FrameLine s log 2
  pub second_is : (second.f ≡ frame) × (bus.sent.source (place 2) ≡ Single f) × (time_there second ≡ Some 1990000)

abbrev pub CanPlansBeLogged : Settings → Type 0
CanPlansBeLogged s = ArePlannedApart (units_of s.plan) → (written timing : Timing) → s.plan.timing ≡ Some written → (f : ℕ) (flow : FlowPlan) (pace : Pace)
    (group : GroupPlan) → IsOftenSent s.plan f flow pace group → (frame : Frame) (packet : Option Packet) → IsPacketOf frame packet
    → IsPlannedFrameOf s.plan flow group frame → CanBeLogged s timing f frame

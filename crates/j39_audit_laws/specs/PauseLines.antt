-- What the lines of a log are for a flow with a pause: its messages, frames of its ends, and where its pause ends.
use Rattle.std.specs.Prelude.{◌≡◌, ◌≢◌, ◌⊎◌, ◌||◌, ℕ, true, List, [], Contains, Option, Some}
use Rattle.std.specs.List.{slice_get}
use Rattle.j39_id.specs.FrameLine.{HasLineFault, Spells}
use Rattle.j39_id.specs.Ident.{pgn_of}
use Rattle.j39_id.specs.Lines.{Line, Short as ShortLine, Long}
use Rattle.j39_id.specs.declared.frame.Frame.{Frame}
use Rattle.j39_id.specs.declared.line_error.LineError.{LineError}
use Rattle.j39_id.specs.declared.line_error.LineError.TheVariants.{Empty, ShortIdent}
use Rattle.j39_network.specs.declared.plan.flow_plan.FlowPlan.{FlowPlan}
use Rattle.j39_network.specs.declared.plan.group_plan.GroupPlan.{GroupPlan}
use Rattle.j39_follow.specs.LogLines.{IsElsewhere, IsReadPart, NamesInterface, IsTimeText}
use Rattle.j39_tp.specs.declared.packet.Packet.{Packet}
use Rattle.j39_audit.specs.AuditPasts.{AuditPast, counted_for, gap_before, noted_newly}
use Rattle.j39_audit.specs.Breaks.{line_time}
use Rattle.j39_audit.specs.Claiming.{HeardClaims, knowledge}
use Rattle.j39_audit.specs.Looking.{is_single}
use Rattle.j39_audit.specs.MessageStreams.{is_in_stream, nothing_sighted, sighted_behind}
use Rattle.j39_audit.specs.Moments.{begins_anew}
use Rattle.j39_audit.specs.Pauses.{ending_of, is_with_unit, stands_for, unclear_behind}
use Rattle.j39_audit.specs.Settings.{Settings}
use Rattle.j39_audit.specs.declared.pauses.Ending.TheVariants.{OfUnit as EndsOfUnit, OfAll as EndsOfAll}
use Rattle.j39_audit_laws.specs.FoundLines.{IsFrameAt, IsLineOf, IsReadHere}
use Rattle.j39_audit.specs.Again.{is_again}
use Rattle.j39_audit.specs.declared.again.TakenFrame.{TakenFrame}

-- ---- lines

-- the line of this number is too long, or it is read as no frame; one without a word, or with an identifier of 11 bits, isn't bad
abbrev pub IsBadAt : Settings → List Line → ℕ → Type 0
IsBadAt s log number =
    ((past : AuditPast) × IsLineOf s log number past Long)
    ⊎ ((past : AuditPast) × (line : List ℕ) × IsLineOf s log number past (ShortLine line) × (part : List ℕ) × (named : Option (List ℕ))
    × (e : LineError) × IsReadHere past line part named × HasLineFault part e × (e ≢ Empty) × (e ≢ ShortIdent))

-- it is passed over: it is from elsewhere, or has no word
abbrev pub IsPassedOver : Settings → List Line → ℕ → Type 0
IsPassedOver s log number = (past : AuditPast) × (line : List ℕ) × IsLineOf s log number past (ShortLine line) × (part : List ℕ) × (named : Option (List ℕ))
    × IsReadPart line part × NamesInterface part named × (IsElsewhere past.interface part named ⊎ HasLineFault part Empty)

-- a frame at the line of this number, and its time, if it has one
pub record FrameLine (s : Settings) (log : List Line) (number : ℕ) : Type 0 where
  pub claims : HeardClaims
  pub f : Frame
  pub packet : Option Packet
  pub at : IsFrameAt s log number claims f packet

abbrev pub time_there : {s : Settings} {log : List Line} {number : ℕ} → FrameLine s log number → Option ℕ
time_there {s} l = line_time s.plan l.at.time

-- it is read as a frame that stands there again
pub record IsAgainAt (s : Settings) (log : List Line) (number : ℕ) : Type 0 where
  pub past : AuditPast
  pub line : List ℕ
  pub line_is : IsLineOf s log number past (ShortLine line)
  pub part : List ℕ
  pub named : Option (List ℕ)
  pub reads : IsReadHere past line part named
  pub f : Frame
  pub time : List ℕ
  pub spelled : Spells part f
  pub time_is : IsTimeText line time
  pub again : is_again s.plan past.taken (line_time s.plan time) f ≡ true

-- of a frame before that was seen of this flow
pub record IsAgainOf (s : Settings) (log : List Line) (number n : ℕ) : Type 0 where
  pub at : IsAgainAt s log number
  pub taken : TakenFrame
  pub taken_is : at.past.taken ≡ Some taken
  pub flow : taken.flow ≡ Some n

-- ---- what a frame is

-- it is seen of this flow, as one of its messages, by the plan
abbrev pub IsSeenOf : {s : Settings} {log : List Line} {number : ℕ} → FrameLine s log number → ℕ → Type 0
IsSeenOf {s} l n = (sighted_behind nothing_sighted (noted_newly s l.at.past (time_there l) l.f l.packet)).flow ≡ Some n

-- it counts for this unit
abbrev pub CountsFor : {s : Settings} {log : List Line} {number : ℕ} → FrameLine s log number → ℕ → Type 0
CountsFor {s} l u = counted_for s l.at.past (time_there l) l.f l.packet ≡ Some u

-- it is a claim by which the pause of the flow ends
abbrev pub ClaimEndsPause : {s : Settings} {log : List Line} {number : ℕ} → FrameLine s log number → ℕ → Type 0
ClaimEndsPause {s} l n =
    (ending_of s (knowledge s l.claims) l.f ≡ EndsOfAll)
    ⊎ ((u : ℕ) × (ending_of s (knowledge s l.claims) l.f ≡ EndsOfUnit u) × (is_with_unit s u n ≡ true))

-- it may be a message of the flow, and of another one
abbrev pub IsUnclearOf : {s : Settings} {log : List Line} {number : ℕ} → FrameLine s log number → ℕ → Type 0
IsUnclearOf {s} l n = Contains (unclear_behind [] (noted_newly s l.at.past (time_there l) l.f l.packet)) n

-- it is a message that deviates from the plan, and stands for one of the flow
abbrev pub StandsForMessage : {s : Settings} {log : List Line} {number : ℕ} → FrameLine s log number → ℕ → Type 0
StandsForMessage {s} l n = stands_for s.plan (sighted_behind nothing_sighted (noted_newly s l.at.past (time_there l) l.f l.packet)).deviating
    (sighted_behind nothing_sighted (noted_newly s l.at.past (time_there l) l.f l.packet)).unit n ≡ true

-- times begin anew just before it, or a gap ends there
abbrev pub BeginsAnew : {s : Settings} {log : List Line} {number : ℕ} → FrameLine s log number → Type 0
BeginsAnew {s} l = (begins_anew s.stamps l.at.past.newest (time_there l) || gap_before s l.at.past (time_there l)) ≡ true

-- ---- a flow and its lines

-- a message of the flow, of the sort that its stream has
pub record IsMessageAt (s : Settings) (log : List Line) (number n : ℕ) : Type 0 where
  pub line : FrameLine s log number
  pub time : ℕ
  pub time_is : time_there line ≡ Some time
  pub seen : IsSeenOf line n
  pub flow : FlowPlan
  pub flow_is : slice_get s.plan.flows.items n ≡ Some flow
  pub group : GroupPlan
  pub group_is : slice_get s.plan.groups.items flow.group ≡ Some group
  pub sort : is_in_stream group (is_single (pgn_of line.f.ident)) ≡ true

-- its pause ends at a line: this is bad, or a frame at which times begin anew or a gap ends, a claim that ends it, or a message that is unclear
abbrev pub EndsPauseAt : Settings → List Line → ℕ → ℕ → Type 0
EndsPauseAt s log number n =
    IsBadAt s log number
    ⊎ ((l : FrameLine s log number) × (BeginsAnew l ⊎ (ClaimEndsPause l n ⊎ IsUnclearOf l n)))

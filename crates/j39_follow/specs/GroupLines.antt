-- What `follow` and `read` write of the groups of one log.
use Rattle.std.specs.Prelude.{◌≡◌, ◌⊎◌, ℕ, Bool, List, [], ◌∷◌, ◌++◌, Option, Some}
use Rattle.std.specs.List.{All, flat_map, slice_get}
use Rattle.j39_id.specs.Lines.{lines}
use Rattle.j39_id.specs.declared.frame.Frame.{Frame}
use Rattle.j39_network.specs.PrivateGroups.{HasNoPrivate}
use Rattle.j39_network.specs.declared.plan.Plan.{Plan}
use Rattle.j39_network.specs.declared.plan.group_plan.GroupPlan.{GroupPlan}
use Rattle.j39_log.specs.NamedReports.{named_reading_lines, named_report}
use Rattle.j39_log.specs.ReadText.{Past, ReadsLines, nothing_yet}
use Rattle.j39_follow.specs.Alike.{IsUndirected}
use Rattle.j39_follow.specs.Contests.{Timed}
use Rattle.j39_follow.specs.FollowReports.{IsNotice, Message, frame_line, message_line}
use Rattle.j39_follow.specs.FollowText.{FollowedPast, FollowsLines, frames_seen, nothing_followed}
use Rattle.j39_follow.specs.Received.{IsReceived}
use Rattle.j39_follow.specs.Who.{ChangesHands}
use Rattle.j39_tp.specs.declared.packet.Packet.{Packet}

-- one message of one group of the plan: `follow` reports it by who sent it to whom and by which flow, `read` by its addresses
pub record ReportOneMessage (plan : Plan) (followed read : List ℕ) : Type 0 where
  pub place : ℕ
  pub group : GroupPlan
  pub front : List ℕ
  pub way : List ℕ
  pub flow : Option ℕ
  pub message : Message
  pub group_is : slice_get plan.groups.items place ≡ Some group
  pub followed_is : followed ≡ message_line group front way flow message ++ named_reading_lines plan group message.bytes
  pub read_is : read ≡ named_report plan group message.ident message.bytes

-- one message of one group of the plan that `follow` alone reports: its receiver says that it has it whole, and its packets didn't come in order
pub record ReportsReceived (plan : Plan) (followed read : List ℕ) : Type 0 where
  pub place : ℕ
  pub group : GroupPlan
  pub front : List ℕ
  pub way : List ℕ
  pub flow : Option ℕ
  pub message : Message
  pub packets : List Packet
  pub size : ℕ
  pub received : IsReceived packets size message.pgn message.bytes
  pub group_is : slice_get plan.groups.items place ≡ Some group
  pub followed_is : followed ≡ message_line group front way flow message ++ named_reading_lines plan group message.bytes
  pub read_is : read ≡ []

-- what is written at one line: by `follow` what the frame reports of addresses and requests, or of itself, and then of a group; by `read` of a group
pub record LineTexts : Type 0 where
  pub notice : List ℕ
  pub followed : List ℕ
  pub read : List ℕ

unfoldable pub all_followed : List LineTexts → List ℕ
all_followed = flat_map (λ line. line.notice ++ line.followed)

unfoldable pub all_read : List LineTexts → List ℕ
all_read = flat_map (λ line. line.read)

-- a notice is what some frame reports, or a frame itself
abbrev pub IsNoticed : Plan → LineTexts → Type 0
IsNoticed plan line =
    (line.notice ≡ [])
    ⊎ ((log : List Timed) × (front : List ℕ) × (f : Frame) × IsNotice plan log front f line.notice)
    ⊎ ((front : List ℕ) × (way : List ℕ) × (f : Frame) × (line.notice ≡ frame_line front way f))

-- `follow` writes of no group, or of the message that `read` writes of, or of one that was received out of order, and `read` of none
abbrev pub IsThinned : Plan → LineTexts → Type 0
IsThinned plan line =
    (line.followed ≡ []) ⊎ ReportOneMessage plan line.followed line.read ⊎ ReportsReceived plan line.followed line.read

-- both write of no group, or of one message, or `follow` alone of one that was received out of order
abbrev pub IsWhole : Plan → LineTexts → Type 0
IsWhole plan line =
    ((line.followed ≡ []) × (line.read ≡ [])) ⊎ ReportOneMessage plan line.followed line.read ⊎ ReportsReceived plan line.followed line.read

-- at none of these frames an address changes hands
abbrev pub StayInHands : Plan → List Frame → Type 0
StayInHands plan frames =
    (before : List Frame) (f : Frame) (behind : List Frame) → frames ≡ before ++ f ∷ behind → (address : ℕ) → ¬ ChangesHands plan before f address

-- line after line, the messages that `follow` reports are reported by `read`, but those received out of order, and all that `read` reports where no address changes hands at these frames
pub record ReportAlike (plan : Plan) (frames : List Frame) (reports texts : List ℕ) : Type 0 where
  pub rows : List LineTexts
  pub reports_are : reports ≡ all_followed rows
  pub texts_are : texts ≡ all_read rows
  pub noticed : All (IsNoticed plan) rows
  pub thinned : All (IsThinned plan) rows
  pub whole : StayInHands plan frames → All (IsWhole plan) rows

-- ---- a law

-- of a plan without private groups, and a log in which no line ends in a direction and none is elsewhere
abbrev pub GroupsAreReportedAlike : Type 0
GroupsAreReportedAlike = (plan : Plan) (all_frames : Bool) (log : List ℕ) (followed : FollowedPast) (read : Past) (reports texts : List ℕ)
    → HasNoPrivate plan → All IsUndirected (lines log) → FollowsLines plan all_frames nothing_followed (lines log) followed reports
    → followed.elsewhere ≡ 0 → ReadsLines plan nothing_yet (lines log) read texts
    → ReportAlike plan (frames_seen followed.seen) reports texts

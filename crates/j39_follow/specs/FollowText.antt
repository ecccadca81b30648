-- The text that the follow command writes for a plan and a log.
use Rattle.std.specs.Prelude.{◌≡◌, ℕ, ◌+◌, ◌≤◌, ◌==◌, ◌⊎◌, Bool, true, false, if◌then◌else◌, List}
use Rattle.std.specs.Prelude.{[], ◌∷◌, ◌++◌, length, map, count_by, codes, Some, None, Option}
use Rattle.std.specs.List.{All, position}
use Rattle.std.specs.Option.{option_eq}
use Rattle.j39_id.specs.FrameLine.{Spells, HasLineFault}
use Rattle.j39_id.specs.Lines.{Line, Short, Long, lines}
use Rattle.j39_id.specs.declared.frame.Frame.{Frame}
use Rattle.j39_id.specs.declared.line_error.LineError.{LineError}
use Rattle.j39_id.specs.declared.line_error.LineError.TheVariants.{Empty, ShortIdent}
use Rattle.j39_network.specs.Serving.{meets}
use Rattle.j39_network.specs.PlannedGroups.{IsSendable, IsFirstRefused}
use Rattle.j39_network.specs.declared.plan.Plan.{Plan}
use Rattle.j39_network.specs.declared.plan.flow_plan.FlowPlan.{FlowPlan}
use Rattle.j39_network.specs.declared.plan.group_plan.GroupPlan.{GroupPlan}
use Rattle.j39_network.specs.declared.plan.need_plan.NeedPlan.{NeedPlan}
use Rattle.j39_network.specs.declared.plan.request_plan.RequestPlan.{RequestPlan}
use Rattle.j39_network.specs.declared.plan.to.To.{To}
use Rattle.j39_network.specs.declared.plan.to.To.TheVariants.{All as ToAll, One as ToOne}
use Rattle.j39_network.specs.declared.plan.unit_plan.UnitPlan.{UnitPlan}
use Rattle.j39_search.specs.ListPlaces.{in_each}
use Rattle.j39_log.specs.LogFrames.{IsPacket}
use Rattle.j39_log.specs.LogPairs.{Seen, heard}
use Rattle.j39_log.specs.ReadText.{CarriesNone, refused_plan_line}
use Rattle.j39_tp.specs.Carried.{Carried}
use Rattle.j39_tp.specs.declared.packet.Packet.{Packet}
use Rattle.j39_tp.specs.declared.packet.Packet.TheVariants.{EndAck}
use Rattle.j39_text.specs.Labels.{group_label, need_text, unit_label}
use Rattle.j39_text.specs.Texts.{field, place_field}
use Rattle.j39_stream.specs.declared.verdict.Verdict.{Verdict}
use Rattle.j39_stream.specs.declared.verdict.Verdict.TheVariants.{Done, Findings, Refused, Unreadable}
use Rattle.j39_follow.specs.Contests.{Timed}
use Rattle.j39_follow.specs.FollowReports.{AreEventsOf, IsBareText, IsGroupOfMessage, IsMessageReport, IsNotice, in_frame, stamp}
use Rattle.j39_follow.specs.Received.{IsReceived, turned, way_packets}
use Rattle.j39_follow.specs.LoggedRequests.{times_answered, times_asked, times_refused}
use Rattle.j39_follow.specs.declared.request.event.Event.{Event}
use Rattle.j39_follow.specs.declared.message.Sort.{Sort}
use Rattle.j39_follow.specs.declared.message.Sort.TheVariants.{Grouped, Other}
use Rattle.j39_follow.specs.Holders.{HoldsByFrames}
use Rattle.j39_follow.specs.LogLines.{IsElsewhere, IsReadPart, IsTimeText, NamesInterface, interface_behind, moment_of}
use Rattle.j39_follow.specs.Who.{ChangesHands, IsUnitHeard, is_name_of}

-- ---- what each two addresses heard

abbrev pub frames_seen : List Seen → List Frame
frames_seen seen = map (λ (s : Seen). s.frame) seen

-- at this frame, after those, one of the two addresses changes hands
abbrev pub OneChangesHands : Plan → List Seen → Seen → ℕ → ℕ → Type 0
OneChangesHands plan before x source destination =
    ChangesHands plan (frames_seen before) x.frame source ⊎ ChangesHands plan (frames_seen before) x.frame destination

-- the last of these frames is one at which it does
abbrev pub EndsInChange : Plan → List Seen → ℕ → ℕ → Type 0
EndsInChange plan seen source destination =
    (front : List Seen) × (x : Seen) × (seen ≡ front ++ x ∷ []) × OneChangesHands plan front x source destination

-- the packets that a pair heard since one of its addresses last changed hands
pub record HeardSince (plan : Plan) (seen : List Seen) (source destination : ℕ) (packets : List Packet) : Type 0 where
  pub before : List Seen
  pub since : List Seen
  pub row : seen ≡ before ++ since
  pub anew : (before ≡ []) ⊎ EndsInChange plan before source destination
  pub steady : (front : List Seen) (x : Seen) (back : List Seen) → since ≡ front ++ x ∷ back
      → ¬ OneChangesHands plan (before ++ front) x source destination
  pub packets_are : packets ≡ heard source destination since

-- ---- a frame

-- the transport packet that is heard of a frame, these being the lines up to it; of a frame that is a group none is
abbrev pub IsFollowedAs : Plan → List Timed → Frame → Option Packet → Type 0
IsFollowedAs plan log f (Some p) = IsGroupOfMessage plan log (in_frame f) None × IsPacket f p
IsFollowedAs plan log f None = ((p : Packet) → ¬ IsPacket f p) ⊎ ((g : ℕ) × IsGroupOfMessage plan log (in_frame f) (Some g))

-- what is written where a packet ends a message, and what that counts as
abbrev pub IsCarriedReport : Plan → List Timed → List ℕ → List Packet → ℕ → Frame → List Sort → List ℕ → Type 0
IsCarriedReport plan log front h place f sorts text =
    ((pgn : ℕ) × (bytes : List ℕ) × (sort : Sort) × Carried h place pgn bytes
    × IsMessageReport plan log front (record { pgn = pgn; bytes = bytes; ident = f.ident; framed = None }) sort text
    × (sorts ≡ sort ∷ []))
    ⊎ (CarriesNone h place × (sorts ≡ []) × (text ≡ []))

-- at a packet, behind those of its pair
abbrev pub IsInOrderReport : Plan → List Seen → List Timed → List ℕ → Frame → Packet → List Sort → List ℕ → Type 0
IsInOrderReport plan before log front f p sorts text =
    (h : List Packet) × HeardSince plan before f.ident.sa f.ident.ps h
    × IsCarriedReport plan log front (h ++ p ∷ []) (length h) f sorts text

-- what is written where the receiver says that it has a message whole whose packets didn't come in order, and what that counts as: the message
-- goes the other way round, and behind these packets of it
abbrev pub IsReceivedReport : Plan → List Timed → List ℕ → List Packet → ℕ → ℕ → Frame → List Sort → List ℕ → Type 0
IsReceivedReport plan log front h size pgn f sorts text =
    ((bytes : List ℕ) × (sort : Sort) × IsReceived h size pgn bytes
    × IsMessageReport plan log front (record { pgn = pgn; bytes = bytes; ident = turned f.ident; framed = None }) sort text
    × (sorts ≡ sort ∷ []))
    ⊎ (((bytes : List ℕ) → ¬ IsReceived h size pgn bytes) × (sorts ≡ []) × (text ≡ []))

abbrev pub IsPacketReport : Plan → List Seen → List Timed → List ℕ → Frame → Option Packet → List Sort → List ℕ → Type 0
IsPacketReport plan before log front f None sorts text = (sorts ≡ []) × (text ≡ [])
IsPacketReport plan before log front f (Some (EndAck size pgn)) sorts text =
    (h : List Packet) × (is : HeardSince plan before f.ident.ps f.ident.sa h)
    × IsReceivedReport plan log front (way_packets f.ident.ps f.ident.sa is.since) size pgn f sorts text
IsPacketReport plan before log front f (Some p) sorts text = IsInOrderReport plan before log front f p sorts text

-- ---- a log

-- what came so far: how many lines, the frames with what is heard of them and with their times, the interface of the log, what was sent, what
-- was reported of requests, and how many lines were passed over
pub record FollowedPast : Type 0 where
  pub number : ℕ
  pub seen : List Seen
  pub timed : List Timed
  pub interface : Option (List ℕ)
  pub sent : List Sort
  pub events : List Event
  pub skipped : ℕ
  pub bad : ℕ
  pub elsewhere : ℕ

abbrev pub nothing_followed : FollowedPast
nothing_followed = record { number = 0; seen = []; timed = []; interface = None; sent = []; events = []; skipped = 0; bad = 0; elsewhere = 0 }

abbrev pub with_bad_line : FollowedPast → FollowedPast
with_bad_line past = record past { bad = past.bad + 1 }

-- a line without a word isn't counted, and one of an 11-bit identifier is skipped
abbrev pub line_passed_over : LineError → FollowedPast → FollowedPast
line_passed_over Empty past = past
line_passed_over ShortIdent past = record past { skipped = past.skipped + 1 }
line_passed_over _ past = with_bad_line past

-- the lines up to this one, which spells a frame
abbrev pub lines_with : FollowedPast → Frame → List ℕ → List Timed
lines_with past f time = past.timed ++ record { frame = f; time = moment_of time } ∷ []

-- from what came so far a frame leads to this, and this is written at it: what it reports, what it is, the frame itself where all frames are reported
-- and it neither reports nor is anything, and what it ends
pub record FollowsFrame (plan : Plan) (all_frames : Bool) (past : FollowedPast) (time : List ℕ) (named : Option (List ℕ)) (f : Frame)
    (next : FollowedPast) (text : List ℕ) : Type 0 where
  pub packet : Option Packet
  pub sort : Sort
  pub sorts : List Sort
  pub events : List Event
  pub notice : List ℕ
  pub report : List ℕ
  pub bare : List ℕ
  pub carried : List ℕ
  pub heard_as : IsFollowedAs plan (lines_with past f time) f packet
  pub notice_is : IsNotice plan (lines_with past f time) (stamp past.number time) f notice
  pub report_is : IsMessageReport plan (lines_with past f time) (stamp past.number time) (in_frame f) sort report
  pub bare_is : IsBareText plan all_frames (lines_with past f time) (stamp past.number time) f (notice ++ report) bare
  pub carried_is : IsPacketReport plan past.seen (lines_with past f time) (stamp past.number time) f packet sorts carried
  pub events_are : AreEventsOf plan (lines_with past f time) f (sort ∷ sorts) events
  pub text_is : text ≡ notice ++ (report ++ (bare ++ carried))
  pub next_is : next ≡ record past {
    seen = past.seen ++ record { frame = f; packet = packet } ∷ [];
    timed = lines_with past f time;
    interface = interface_behind past.interface named;
    sent = past.sent ++ sort ∷ sorts;
    events = past.events ++ events;
  }

-- a line that isn't elsewhere is read: as the frame that its part spells, or it is passed over
abbrev pub FollowsPart : Plan → Bool → FollowedPast → List ℕ → List ℕ → Option (List ℕ) → FollowedPast → List ℕ → Type 0
FollowsPart plan all_frames past line part named next text =
    ((f : Frame) × (time : List ℕ) × Spells part f × IsTimeText line time
    × FollowsFrame plan all_frames past time named f next text)
    ⊎ ((e : LineError) × HasLineFault part e × (next ≡ line_passed_over e past) × (text ≡ []))

abbrev pub FollowsShort : Plan → Bool → FollowedPast → List ℕ → FollowedPast → List ℕ → Type 0
FollowsShort plan all_frames past line next text =
    (part : List ℕ) × (named : Option (List ℕ)) × IsReadPart line part × NamesInterface part named
    × ((IsElsewhere past.interface part named × (next ≡ record past { elsewhere = past.elsewhere + 1 }) × (text ≡ []))
    ⊎ ((¬ IsElsewhere past.interface part named) × FollowsPart plan all_frames past line part named next text))

-- the past, once a line more has begun
abbrev pub one_line_more : FollowedPast → FollowedPast
one_line_more past = record past { number = past.number + 1 }

abbrev pub FollowsLine : Plan → Bool → FollowedPast → Line → FollowedPast → List ℕ → Type 0
FollowsLine plan all_frames past (Short line) next text = FollowsShort plan all_frames (one_line_more past) line next text
FollowsLine plan all_frames past Long next text = (next ≡ with_bad_line (one_line_more past)) × (text ≡ [])

-- so do all lines, one after another
abbrev pub FollowsLines : Plan → Bool → FollowedPast → List Line → FollowedPast → List ℕ → Type 0
FollowsLines plan all_frames past [] end text = (end ≡ past) × (text ≡ [])
FollowsLines plan all_frames past (line ∷ rest) end text =
    (next : FollowedPast) × (front : List ℕ) × (back : List ℕ) × FollowsLine plan all_frames past line next front
    × FollowsLines plan all_frames next rest end back × (text ≡ front ++ back)

-- ---- the end of a log

abbrev pub is_of_flow : ℕ → Sort → Bool
is_of_flow flow (Grouped g (Some f)) = f == flow
is_of_flow flow _ = false

abbrev pub is_without_flow : ℕ → Sort → Bool
is_without_flow group (Grouped g None) = g == group
is_without_flow group _ = false

abbrev pub is_other : ℕ → Sort → Bool
is_other pgn (Other n) = n == pgn
is_other pgn _ = false

unfoldable pub to_text : Plan → To → List ℕ
to_text plan ToAll = codes "all"
to_text plan (ToOne u) = unit_label plan u

-- which group goes from whom to whom
unfoldable pub route_text : Plan → ℕ → ℕ → To → List ℕ
route_text plan group sender to =
    codes " " ++ (group_label plan group ++ (codes " from " ++ (unit_label plan sender ++ (codes " to " ++ to_text plan to))))

-- a flow that was sent so often
unfoldable pub flow_sent_line : Plan → ℕ → FlowPlan → ℕ → List ℕ
flow_sent_line plan n flow times =
    place_field (codes "flow ") n ++ (route_text plan flow.group flow.sender flow.to ++ (field (codes " sent ") times ++ 10 ∷ []))

-- of each flow how often it was sent
abbrev pub flow_end : Plan → List Sort → ℕ → FlowPlan → List ℕ
flow_end plan sent n flow = flow_sent_line plan n flow (count_by (is_of_flow n) sent)

abbrev pub flow_ends : Plan → List Sort → List ℕ
flow_ends plan sent = in_each (flow_end plan sent) 0 plan.flows.items

-- the group at this place is the first of its number
abbrev pub is_first_of : Plan → ℕ → GroupPlan → Bool
is_first_of plan g group = option_eq (λ a b. a == b) (position (λ (h : GroupPlan). h.pgn == group.pgn) plan.groups.items) (Some g)

-- a group that was sent so often without a flow, and what else there was of its number
unfoldable pub rest_line : GroupPlan → ℕ → ℕ → List ℕ
rest_line group unplanned others =
    codes "group " ++ (group.label.bytes ++ (field (codes " no_flow ") unplanned ++ (field (codes " other ") others ++ 10 ∷ [])))

-- what else there was of the number of a group, reported at the first group that has it
abbrev pub others_of_number : Plan → List Sort → ℕ → GroupPlan → ℕ
others_of_number plan sent g group = if is_first_of plan g group then count_by (is_other group.pgn) sent else 0

-- of each group how often it was sent without a flow, and at the first of a number what else there was of that number
abbrev pub group_end : Plan → List Sort → ℕ → GroupPlan → List ℕ
group_end plan sent g group = rest_line group (count_by (is_without_flow g) sent) (others_of_number plan sent g group)

abbrev pub group_ends : Plan → List Sort → List ℕ
group_ends plan sent = in_each (group_end plan sent) 0 plan.groups.items

unfoldable pub unit_end_line : UnitPlan → List ℕ → List ℕ
unit_end_line unit words = codes "unit " ++ (unit.label.bytes ++ (words ++ 10 ∷ []))

-- a NAME of the unit at this place holds the address
pub record HoldsForUnit (plan : Plan) (frames : List Frame) (u : ℕ) (unit : UnitPlan) (address : ℕ) : Type 0 where
  pub name : ℕ
  pub name_of : is_name_of plan u unit name ≡ true
  pub holds : HoldsByFrames frames name address

-- and of the addresses that its NAMEs hold it was claimed last
pub record StandsAt (plan : Plan) (frames : List Frame) (u : ℕ) (unit : UnitPlan) (address : ℕ) : Type 0 where
  pub there : HoldsForUnit plan frames u unit address
  pub last : (other : ℕ) (h : HoldsForUnit plan frames u unit other) → length h.holds.before ≤ length there.holds.before

-- where a unit stands: at the address that its NAMEs claimed last of those that they hold, at none, or nothing was reported of them
abbrev pub IsUnitLine : Plan → List Frame → ℕ → UnitPlan → List ℕ → Type 0
IsUnitLine plan frames u unit text =
    ((address : ℕ) × StandsAt plan frames u unit address × (text ≡ unit_end_line unit (field (codes " address ") address)))
    ⊎ (IsUnitHeard plan frames u unit × ((address : ℕ) → ¬ HoldsForUnit plan frames u unit address) × (text ≡ unit_end_line unit (codes " none")))
    ⊎ ((¬ IsUnitHeard plan frames u unit) × (text ≡ unit_end_line unit (codes " unclaimed")))

-- so it is with these units, the first of which is at this place
abbrev pub AreUnitLines : Plan → List Frame → ℕ → List UnitPlan → List ℕ → Type 0
AreUnitLines plan frames u [] text = text ≡ []
AreUnitLines plan frames u (unit ∷ units) text =
    (front : List ℕ) × (back : List ℕ) × IsUnitLine plan frames u unit front × AreUnitLines plan frames (u + 1) units back × (text ≡ front ++ back)

-- what was asked, answered and refused so often
unfoldable pub exchange_text : ℕ → ℕ → ℕ → List ℕ
exchange_text asked answered refused =
    field (codes " asked ") asked ++ (field (codes " answered ") answered ++ (field (codes " refused ") refused ++ 10 ∷ []))

-- a request that was
unfoldable pub request_end_line : Plan → ℕ → RequestPlan → ℕ → ℕ → ℕ → List ℕ
request_end_line plan n r asked answered refused =
    place_field (codes "request ") n ++ (route_text plan r.group r.sender r.to ++ exchange_text asked answered refused)

-- of each request how often it was asked, answered and refused
abbrev pub request_end : Plan → List Event → ℕ → RequestPlan → List ℕ
request_end plan events n r =
    request_end_line plan n r (times_asked n events) (times_answered plan n r events) (times_refused plan n r events)

abbrev pub request_ends : Plan → List Event → List ℕ
request_ends plan events = in_each (request_end plan events) 0 plan.requests.items

-- how often the flow at a place was sent, where it meets the need of a plan with these requests
abbrev pub met_by : List RequestPlan → List Sort → NeedPlan → ℕ → FlowPlan → ℕ
met_by requests sent need n flow = if meets requests need flow then count_by (is_of_flow n) sent else 0

-- how often all flows together were sent that meet it
unfoldable pub times_met : List RequestPlan → List Sort → NeedPlan → ℕ → List FlowPlan → ℕ
times_met requests sent need n [] = 0
times_met requests sent need n (flow ∷ flows) = met_by requests sent need n flow + times_met requests sent need (n + 1) flows

-- a need that was met so often
unfoldable pub need_met_line : Plan → ℕ → NeedPlan → ℕ → List ℕ
need_met_line plan n need times = need_text plan n need ++ (field (codes " met ") times ++ 10 ∷ [])

-- of each need how often it was met
abbrev pub need_end : Plan → List Sort → ℕ → NeedPlan → List ℕ
need_end plan sent n need = need_met_line plan n need (times_met plan.requests.items sent need 0 plan.flows.items)

abbrev pub need_ends : Plan → List Sort → List ℕ
need_ends plan sent = in_each (need_end plan sent) 0 plan.needs.items

unfoldable pub follow_counts_line : ℕ → ℕ → ℕ → ℕ → List ℕ
follow_counts_line frames skipped bad elsewhere =
    field (codes "frames ") frames ++ (field (codes " skipped ") skipped ++ (field (codes " bad ") bad
    ++ (field (codes " elsewhere ") elsewhere ++ 10 ∷ [])))

-- what is written behind the reports: what was sent of each flow and group, where each unit stands, what was asked and answered of
-- each request, what met each need, and the counts
abbrev pub behind_reports : Plan → FollowedPast → List ℕ → List ℕ
behind_reports plan past units =
    flow_ends plan past.sent ++ (group_ends plan past.sent ++ (units ++ (request_ends plan past.events ++ (need_ends plan past.sent
    ++ follow_counts_line (length past.seen) past.skipped past.bad past.elsewhere))))

-- what is written of a log: what its lines report, and what stands behind
pub record IsFollowedLog (plan : Plan) (all_frames : Bool) (log text : List ℕ) : Type 0 where
  pub past : FollowedPast
  pub reports : List ℕ
  pub units : List ℕ
  pub read : FollowsLines plan all_frames nothing_followed (lines log) past reports
  pub units_are : AreUnitLines plan (frames_seen past.seen) 0 plan.units.items units
  pub text_is : text ≡ reports ++ behind_reports plan past units

-- what is written for a plan and a log, with the verdict, where all frames are reported or those of planned groups alone; of the log of a refused plan nothing is read
abbrev pub IsFollowText : Plan → Bool → List ℕ → List ℕ → Verdict → Type 0
IsFollowText plan all_frames log text Done = All IsSendable plan.groups.items × IsFollowedLog plan all_frames log text
IsFollowText plan all_frames log text Refused = (g : ℕ) × IsFirstRefused plan.groups.items g × (text ≡ refused_plan_line plan g) × (log ≡ [])
IsFollowText plan all_frames log text Findings = ⊥
IsFollowText plan all_frames log text Unreadable = ⊥

-- ---- a law

-- for a plan and a log there is one text, and one verdict, whichever frames are reported
abbrev pub LogHasOneFollowText : Type 0
LogHasOneFollowText = (plan : Plan) (all_frames : Bool) (log text other : List ℕ) (verdict outcome : Verdict)
    → IsFollowText plan all_frames log text verdict → IsFollowText plan all_frames log other outcome → (text ≡ other) × (verdict ≡ outcome)

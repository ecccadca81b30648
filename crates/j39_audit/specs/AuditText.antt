-- The text that the audit command writes for a plan and a log.
use Rattle.std.specs.Prelude.{◌≡◌, ℕ, ◌+◌, ◌==◌, Bool, true, false, if◌then◌else◌, List, [], ◌∷◌, ◌++◌, length, codes, slice_index_or, Option}
use Rattle.std.specs.List.{slice_get}
use Rattle.std.specs.Option.{option_map_or}
use Rattle.j39_id.specs.Lines.{lines}
use Rattle.j39_network.specs.declared.plan.Plan.{Plan}
use Rattle.j39_network.specs.declared.plan.flow_plan.FlowPlan.{FlowPlan}
use Rattle.j39_network.specs.declared.plan.request_plan.RequestPlan.{RequestPlan}
use Rattle.j39_network.specs.declared.plan.to.To.{To}
use Rattle.j39_follow.specs.FollowText.{to_text}
use Rattle.j39_log.specs.LineCounting.{counts_text as lines_text}
use Rattle.j39_log.specs.declared.line_counts.LineCounts.{LineCounts}
use Rattle.j39_follow.specs.Who.{name_text}
use Rattle.j39_text.specs.Labels.{group_label, unit_label}
use Rattle.j39_text.specs.Texts.{field, place_field}
use Rattle.j39_stream.specs.declared.verdict.Verdict.{Verdict}
use Rattle.j39_stream.specs.declared.verdict.Verdict.TheVariants.{Done, Findings}
use Rattle.j39_audit.specs.AuditPasts.{AuditPast, AuditsLines, log_ended, nothing_read}
use Rattle.j39_audit.specs.Below.{each_below, sum_below}
use Rattle.j39_audit.specs.Breaks.{breaks}
use Rattle.j39_audit.specs.Counting.{reported_in}
use Rattle.j39_audit.specs.Gaps.{quiet_by}
use Rattle.j39_audit.specs.Responses.{AreResponses}
use Rattle.j39_audit.specs.Settings.{AreMoving, Settings, units_planned}
use Rattle.j39_audit.specs.declared.by_load.Bound.TheVariants.{Bus}
use Rattle.j39_audit.specs.declared.mark.Mark.{Mark}
use Rattle.j39_audit.specs.declared.mark.Word.{Word}
use Rattle.j39_audit.specs.declared.mark.Word.TheVariants.{Short, Stranger, Nobody, Address, Cannot, Layout, NoFlow, Priority, Urgent, Seen, Unclear, Asked, Counted, Unsure, Break, NearFlow, NearRequest, SilentFlow, Deaf, NearPackets, SilentPackets, NearOrLate, SilentOrLate, Answers, WrongAnnouncement, WrongGrant, WrongPacket, WrongReceipt}
use Rattle.j39_audit.specs.declared.tally.Occurrences.{Occurrences}

-- ---- what accuses

-- the words that accuse, in the order in which they are written
abbrev pub accusing : List Word
accusing = Short ∷ Stranger ∷ Nobody ∷ Address ∷ Cannot ∷ Deaf ∷ Layout ∷ NoFlow ∷ Priority ∷ Urgent ∷ WrongAnnouncement ∷ WrongGrant ∷ WrongPacket ∷ WrongReceipt ∷ NearFlow ∷ NearRequest ∷ NearPackets ∷ SilentFlow ∷ SilentPackets ∷ []

abbrev pub accusing_at : ℕ → Word
accusing_at n = slice_index_or accusing n Urgent

-- of how many each word speaks: of addresses, of units, of flows or of requests
abbrev pub subjects : Settings → Word → ℕ
subjects s Short = 1
subjects s Stranger = 256
subjects s Nobody = 256
subjects s NearFlow = length s.plan.flows.items
subjects s NearRequest = length s.plan.requests.items
subjects s SilentFlow = length s.plan.flows.items
subjects s _ = units_planned s

-- and of how many groups of each
abbrev pub groups_named : Settings → Word → ℕ
groups_named s Layout = length s.plan.groups.items
groups_named s NoFlow = length s.plan.groups.items
groups_named s Priority = length s.plan.groups.items
groups_named s _ = 1

abbrev pub word_text : Word → List ℕ
word_text Short = codes "short"
word_text Stranger = codes "stranger"
word_text Nobody = codes "nobody"
word_text Address = codes "address"
word_text Cannot = codes "cannot"
word_text Deaf = codes "deaf"
word_text Layout = codes "layout"
word_text NoFlow = codes "no_flow"
word_text Priority = codes "priority"
word_text NearFlow = codes "near"
word_text NearRequest = codes "near"
word_text SilentFlow = codes "silent"
word_text NearPackets = codes "near"
word_text SilentPackets = codes "silent"
word_text NearOrLate = codes "near_or_late"
word_text SilentOrLate = codes "silent_or_late"
word_text WrongAnnouncement = codes "announcement"
word_text WrongGrant = codes "grant"
word_text WrongPacket = codes "packet"
word_text WrongReceipt = codes "acknowledged"
word_text _ = codes "urgent"

unfoldable pub unit_text : Plan → ℕ → List ℕ
unit_text plan u = codes " unit " ++ unit_label plan u

unfoldable pub unit_and_group_text : Plan → ℕ → ℕ → List ℕ
unit_and_group_text plan u g = unit_text plan u ++ (codes " group " ++ group_label plan g)

unfoldable pub stranger_text : ℕ → ℕ → List ℕ
stranger_text address name = field (codes " address ") address ++ (codes " " ++ name_text name)

unfoldable pub unit_at_text : Plan → ℕ → ℕ → List ℕ
unit_at_text plan u address = unit_text plan u ++ field (codes " at ") address

unfoldable pub sending_text : Plan → ℕ → ℕ → To → List ℕ
sending_text plan group sender to =
    codes " " ++ (group_label plan group ++ (codes " " ++ (unit_label plan sender ++ (codes " " ++ to_text plan to))))

unfoldable pub named_flow_text : Plan → ℕ → FlowPlan → List ℕ
named_flow_text plan n flow = place_field (codes " flow ") n ++ sending_text plan flow.group flow.sender flow.to

unfoldable pub request_text : Plan → ℕ → RequestPlan → List ℕ
request_text plan n r = place_field (codes " request ") n ++ sending_text plan r.group r.sender r.to

unfoldable pub packets_text : Plan → ℕ → List ℕ
packets_text plan u = codes " packets " ++ unit_label plan u

-- whom or what a word speaks of, and what belongs to the first line
abbrev pub subject_of : Plan → Word → ℕ → ℕ → ℕ → List ℕ
subject_of plan Short subject group detail = []
subject_of plan Stranger subject group detail = stranger_text subject detail
subject_of plan Nobody subject group detail = field (codes " address ") subject
subject_of plan Address subject group detail = unit_at_text plan subject detail
subject_of plan Layout subject group detail = unit_and_group_text plan subject group
subject_of plan NoFlow subject group detail = unit_and_group_text plan subject group
subject_of plan Priority subject group detail = unit_and_group_text plan subject group
subject_of plan NearFlow subject group detail =
    option_map_or (λ (flow : FlowPlan). named_flow_text plan subject flow) (slice_get plan.flows.items subject) []
subject_of plan NearRequest subject group detail =
    option_map_or (λ (r : RequestPlan). request_text plan subject r) (slice_get plan.requests.items subject) []
subject_of plan SilentFlow subject group detail =
    option_map_or (λ (flow : FlowPlan). named_flow_text plan subject flow) (slice_get plan.flows.items subject) []
subject_of plan NearPackets subject group detail = packets_text plan subject
subject_of plan SilentPackets subject group detail = packets_text plan subject
subject_of plan NearOrLate subject group detail =
    option_map_or (λ (flow : FlowPlan). named_flow_text plan subject flow) (slice_get plan.flows.items subject) []
subject_of plan SilentOrLate subject group detail =
    option_map_or (λ (flow : FlowPlan). named_flow_text plan subject flow) (slice_get plan.flows.items subject) []
subject_of plan _ subject group detail = unit_text plan subject

-- by how much at most, and the first line at which it was so much
unfoldable pub worst_text : Occurrences → List ℕ
worst_text t = field (codes " worst ") t.worst_at ++ (field (codes " by ") t.worst ++ codes " us")

abbrev pub measure_text : Word → Occurrences → List ℕ
measure_text NearFlow t = worst_text t
measure_text NearRequest t = worst_text t
measure_text SilentFlow t = worst_text t
measure_text NearPackets t = worst_text t
measure_text SilentPackets t = worst_text t
measure_text NearOrLate t = worst_text t
measure_text SilentOrLate t = worst_text t
measure_text _ t = []

-- how often, and the first line
unfoldable pub times_text : Word → Occurrences → List ℕ
times_text word t = field (codes " times ") t.times ++ (field (codes " first ") t.first ++ (measure_text word t ++ 10 ∷ []))

unfoldable pub accusing_line : Plan → Mark → Occurrences → List ℕ
accusing_line plan m t = word_text m.word ++ (subject_of plan m.word m.subject m.group t.detail ++ times_text m.word t)

abbrev pub mark_at : Word → ℕ → ℕ → Mark
mark_at word subject group = record { word = word; subject = subject; group = group }

-- what is reported of each mark
abbrev pub Look : Type 0
Look = Mark → Occurrences

-- a flow of which by the bus nothing is reported may be reported by load
abbrev pub if_not_by_bus : Look → Mark → Mark → Mark
if_not_by_bus look by_bus or_late = if (look by_bus).times == 0 then or_late else by_bus

abbrev pub reported_mark : Look → Word → ℕ → ℕ → Mark
reported_mark look NearFlow subject group = if_not_by_bus look (mark_at NearFlow subject group) (mark_at NearOrLate subject group)
reported_mark look SilentFlow subject group = if_not_by_bus look (mark_at SilentFlow subject group) (mark_at SilentOrLate subject group)
reported_mark look word subject group = mark_at word subject group

-- the line of a mark, where it was found, and how many lines that is
unfoldable pub line_of_mark : Plan → Mark → Occurrences → List ℕ
line_of_mark plan m t = if t.times == 0 then [] else accusing_line plan m t

unfoldable pub lines_reported : Occurrences → ℕ
lines_reported t = if t.times == 0 then 0 else 1

unfoldable pub line_reported : Plan → Look → Mark → List ℕ
line_reported plan look m = line_of_mark plan m (look m)

-- those of a word and a subject, of a word, and of all words
unfoldable pub subject_lines : Settings → Look → Word → ℕ → List ℕ
subject_lines s look word u = each_below (λ g. line_reported s.plan look (reported_mark look word u g)) (groups_named s word)

unfoldable pub subject_count : Settings → Look → Word → ℕ → ℕ
subject_count s look word u = sum_below (λ g. lines_reported (look (reported_mark look word u g))) (groups_named s word)

unfoldable pub word_lines : Settings → Look → Word → List ℕ
word_lines s look word = each_below (subject_lines s look word) (subjects s word)

unfoldable pub word_count : Settings → Look → Word → ℕ
word_count s look word = sum_below (subject_count s look word) (subjects s word)

unfoldable pub accusations : Settings → Look → List ℕ
accusations s look = each_below (λ n. word_lines s look (accusing_at n)) 19

unfoldable pub accusation_count : Settings → Look → ℕ
accusation_count s look = sum_below (λ n. word_count s look (accusing_at n)) 19

-- ---- what was seen

abbrev pub times_of : Look → Word → ℕ → ℕ
times_of look word subject = (look (mark_at word subject 0)).times

unfoldable pub flow_seen_line : Plan → ℕ → FlowPlan → ℕ → ℕ → List ℕ
flow_seen_line plan n flow seen unclear =
    place_field (codes "flow ") n ++ (sending_text plan flow.group flow.sender flow.to
    ++ (field (codes " seen ") seen ++ (field (codes " unclear ") unclear ++ 10 ∷ [])))

unfoldable pub request_seen_line : Plan → ℕ → RequestPlan → ℕ → List ℕ
request_seen_line plan n r seen =
    place_field (codes "request ") n ++ (sending_text plan r.group r.sender r.to ++ (field (codes " seen ") seen ++ 10 ∷ []))

-- how many messages were asked for that no flow brings there, where some were
unfoldable pub answers_text : ℕ → List ℕ
answers_text answers = if answers == 0 then [] else field (codes " answers ") answers

unfoldable pub unit_frames_line : Plan → ℕ → ℕ → ℕ → List ℕ
unit_frames_line plan u frames answers = codes "unit " ++ (unit_label plan u ++ (field (codes " frames ") frames ++ (answers_text answers ++ 10 ∷ [])))

abbrev pub flow_seen : Plan → Look → ℕ → List ℕ
flow_seen plan look n =
    option_map_or (λ (flow : FlowPlan). flow_seen_line plan n flow (times_of look Seen n) (times_of look Unclear n)) (slice_get plan.flows.items n) []

abbrev pub request_seen : Plan → Look → ℕ → List ℕ
request_seen plan look n =
    option_map_or (λ (r : RequestPlan). request_seen_line plan n r (times_of look Asked n)) (slice_get plan.requests.items n) []

abbrev pub unit_seen : Plan → Look → ℕ → List ℕ
unit_seen plan look u = unit_frames_line plan u (times_of look Counted u) (times_of look Answers u)

unfoldable pub flows_seen : Plan → Look → List ℕ
flows_seen plan look = each_below (flow_seen plan look) (length plan.flows.items)

unfoldable pub requests_seen : Plan → Look → List ℕ
requests_seen plan look = each_below (request_seen plan look) (length plan.requests.items)

unfoldable pub units_seen : Plan → Look → List ℕ
units_seen plan look = each_below (unit_seen plan look) (length plan.units.items)

-- how many frames stand there again, where some do
unfoldable pub again_text : ℕ → List ℕ
again_text again = if again == 0 then [] else field (codes " again ") again

-- the end of their line, with what times may differ by
unfoldable pub stamps_text : ℕ → ℕ → List ℕ
stamps_text stamps again = field (codes " stamps ") stamps ++ (again_text again ++ 10 ∷ [])

-- how many lines there were of each sort
unfoldable pub sorts_text : ℕ → LineCounts → ℕ → Look → List ℕ
sorts_text stamps counts again look = lines_text counts ++ (field (codes " elsewhere ") counts.elsewhere
    ++ (field (codes " unsure ") (times_of look Unsure 0) ++ (field (codes " breaks ") (times_of look Break 0) ++ stamps_text stamps again)))

-- and how many accuse
unfoldable pub deviations_line : ℕ → List ℕ
deviations_line n = field (codes "deviations ") n ++ 10 ∷ []

-- ---- the text

unfoldable pub text_by : Settings → LineCounts → ℕ → Look → List ℕ
text_by s counts again look =
    accusations s look ++ (flows_seen s.plan look ++ (requests_seen s.plan look ++ (units_seen s.plan look
    ++ (sorts_text s.stamps counts again look ++ deviations_line (accusation_count s look)))))

abbrev pub counts_of : AuditPast → LineCounts
counts_of past = record { frames = past.frames; skipped = past.skipped; bad = past.bad; elsewhere = past.elsewhere }

-- what is reported of each mark: of those that speak of times by the times, by the bus or by load, of units that don't answer by who is asked, of
-- packets that come late by the broadcasts, of sessions by these, of the others by the frames
abbrev pub is_of_moments : Word → Bool
is_of_moments NearFlow = true
is_of_moments NearRequest = true
is_of_moments SilentFlow = true
is_of_moments NearPackets = true
is_of_moments _ = false

abbrev pub is_of_load : Word → Bool
is_of_load NearOrLate = true
is_of_load SilentOrLate = true
is_of_load _ = false

-- what is reported by load has the marks of what is reported by the bus
abbrev pub word_by_bus : Word → Word
word_by_bus NearOrLate = NearFlow
word_by_bus SilentOrLate = SilentFlow
word_by_bus word = word

abbrev pub mark_by_bus : Mark → Mark
mark_by_bus m = mark_at (word_by_bus m.word) m.subject m.group

abbrev pub is_of_asking : Word → Bool
is_of_asking Deaf = true
is_of_asking _ = false

abbrev pub is_of_broadcasts : Word → Bool
is_of_broadcasts SilentPackets = true
is_of_broadcasts _ = false

abbrev pub is_of_sessions : Word → Bool
is_of_sessions WrongAnnouncement = true
is_of_sessions WrongGrant = true
is_of_sessions WrongPacket = true
is_of_sessions WrongReceipt = true
is_of_sessions _ = false

abbrev pub look_at : AuditPast → Look
look_at past m =
    if is_of_moments m.word then reported_in past.moments.untimely m
    else if is_of_load m.word then reported_in past.by_load.untimely (mark_by_bus m)
    else if is_of_asking m.word then reported_in past.asking.deaf m
    else if is_of_broadcasts m.word then reported_in past.broadcasts.late m
    else if is_of_sessions m.word then reported_in past.sessions.told m else reported_in past.noted m

abbrev pub audit_text : Settings → AuditPast → List ℕ
audit_text s past = text_by s (counts_of past) past.again (look_at past)

abbrev pub verdict_by : ℕ → Verdict
verdict_by n = if n == 0 then Done else Findings

abbrev pub audit_verdict : Settings → AuditPast → Verdict
audit_verdict s past = verdict_by (accusation_count s (look_at past))

-- what is written of a log, with the verdict
pub record IsAuditedLog (s : Settings) (log text : List ℕ) (verdict : Verdict) : Type 0 where
  pub past : AuditPast
  pub read : AuditsLines s nothing_read (lines log) past
  pub text_is : text ≡ audit_text s (log_ended s past)
  pub verdict_is : verdict ≡ audit_verdict s (log_ended s past)

-- by a plan in which no addresses and no identifiers are wrong, of a whole log or a part of one, by a logger of this error, with gaps of so many
-- milliseconds or by the plan
pub record IsAudit (plan : Plan) (part : Bool) (stamps : ℕ) (quiet : Option ℕ) (log text : List ℕ) (verdict : Verdict) : Type 0 where
  pub moving : List Bool
  pub moving_are : AreMoving plan moving
  pub responses : List (Option ℕ)
  pub responses_are : AreResponses plan responses
  pub audited : IsAuditedLog (record {
    plan = plan;
    moving = moving;
    part = part;
    stamps = stamps;
    quiet = quiet_by plan quiet;
    responses = responses;
    bound = Bus;
  }) log text verdict

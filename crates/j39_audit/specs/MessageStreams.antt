-- Streams: messages whose moments are a step apart at least, and how long behind its moment one may be queued, or sent.
use Rattle.std.specs.Prelude.{ℕ, ◌+◌, ◌-◌, nat_le, nat_lt, ◌==◌, ◌&&◌, not, Bool, true, false, if◌then◌else◌, List, [], ◌∷◌, Option, Some, None}
use Rattle.std.specs.List.{slice_get}
use Rattle.std.specs.Option.{option_and_then, option_map}
use Rattle.j39_id.specs.Ident.{pgn_of}
use Rattle.j39_id.specs.Limits.{frame_bytes}
use Rattle.j39_id.specs.declared.frame.Frame.{Frame}
use Rattle.j39_network.specs.declared.plan.flow_plan.FlowPlan.{FlowPlan}
use Rattle.j39_network.specs.declared.plan.group_plan.GroupPlan.{GroupPlan}
use Rattle.j39_network.specs.declared.plan.pace.Pace.{Pace}
use Rattle.j39_network.specs.declared.plan.to.To.{To}
use Rattle.j39_network.specs.declared.plan.to.To.TheVariants.{All as ToAll, One as ToOne}
use Rattle.j39_network.specs.declared.plan.request_plan.RequestPlan.{RequestPlan}
use Rattle.j39_network.specs.declared.plan.timing.Timing.{Timing}
use Rattle.j39_audit.specs.Counting.{Noted}
use Rattle.j39_audit.specs.Looking.{is_claiming, is_single}
use Rattle.j39_audit.specs.QueueTimes.{queue_time_of}
use Rattle.j39_audit.specs.Settings.{Settings, response_of}
use Rattle.j39_audit.specs.UnitTimes.{longest_us, shortest_us}
use Rattle.j39_audit.specs.declared.by_load.Bound.{Bound}
use Rattle.j39_audit.specs.declared.by_load.Bound.TheVariants.{Bus, Load}
use Rattle.j39_audit.specs.declared.mark.Mark.{Mark}
use Rattle.j39_audit.specs.declared.mark.Word.TheVariants.{Seen, Asked, Counted, Layout, NoFlow, Priority, NearFlow, NearRequest, Answered, Besides}
use Rattle.j39_audit.specs.declared.mark.Word.{Word}
use Rattle.j39_audit.specs.declared.streams.FlowPause.{FlowPause}
use Rattle.j39_audit.specs.declared.streams.MessageStream.{MessageStream}
use Rattle.j39_audit.specs.declared.tally.Sighting.{Sighting}

-- ---- streams

abbrev pub stream_mark : Word → ℕ → Mark
stream_mark word place = record { word = word; subject = place; group = 0 }

-- a message of one frame is queued within its time, and one of several is announced within a period more
abbrev pub queued_within_ms : Pace → ℕ → Bool → ℕ
queued_within_ms pace time true = time
queued_within_ms pace time false = pace.period + time

-- the messages of a stream are a flow's single frames where its group has none that are longer than a frame, else what announces them
abbrev pub is_in_stream : GroupPlan → Bool → Bool
is_in_stream group true = nat_le group.most frame_bytes
is_in_stream group false = nat_lt frame_bytes group.most

-- how far behind its moment lies what bounds it at most, where that is known: by the bus it is queued within its time, and by load sent in its
-- response time
abbrev pub slack_by : Bound → Option ℕ → ℕ → Option ℕ
slack_by Bus response queued = Some queued
slack_by Load response queued = response

-- a response time counts from a moment at most the jitter before the message is queued; where this may be queued later, so may it be sent
abbrev pub sent_within : Settings → Timing → ℕ → Pace → ℕ → Option ℕ
sent_within s t n pace time = option_map (λ d. d + longest_us t (time - pace.jitter)) (response_of s n)

-- the stream of a flow with a period, whose messages are queued within this time
abbrev pub paced_stream : Settings → Timing → Frame → ℕ → GroupPlan → Pace → ℕ → Option ℕ → Option MessageStream
paced_stream s t f n group pace time pause =
    if is_in_stream group (is_single (pgn_of f.ident))
    then Some (record {
      mark = stream_mark NearFlow n;
      step = shortest_us t pace.period;
      slack = slack_by s.bound (sent_within s t n pace time) (longest_us t (queued_within_ms pace time (is_single (pgn_of f.ident))));
      pause = pause;
    })
    else None

abbrev pub flow_pace : Settings → ℕ → Option Pace
flow_pace s n = option_and_then (λ (flow : FlowPlan). flow.pace) (slice_get s.plan.flows.items n)

abbrev pub group_in_flow : Settings → ℕ → Option GroupPlan
group_in_flow s n = option_and_then (λ (flow : FlowPlan). slice_get s.plan.groups.items flow.group) (slice_get s.plan.flows.items n)

-- its one receiver, where it has one, claims
abbrev pub is_claiming_there : Settings → To → Bool
is_claiming_there s ToAll = true
is_claiming_there s (ToOne v) = is_claiming s v

-- the silence of a flow is seen: no frame is missing, its messages aren't answers, each is a single frame, and who claims is there; long ones wait for the
-- others of their unit, and for a receiver that holds them
abbrev pub shows_silence : Settings → FlowPlan → GroupPlan → Bool
shows_silence s flow group =
    not s.part && (not flow.on_request && (nat_le group.most frame_bytes && (is_claiming s flow.sender && is_claiming_there s flow.to)))

-- by that time behind a message's moment, in microseconds, the next one has its own
abbrev pub flow_pause_of : Settings → Timing → ℕ → FlowPlan → GroupPlan → Pace → ℕ → Option FlowPause
flow_pause_of s t n flow group pace pause =
    if shows_silence s flow group
    then Some (record {
      pause = longest_us t pause;
      slack = slack_by s.bound (response_of s n) (longest_us t pace.jitter);
    })
    else None

unfoldable pub flow_pause : Settings → Timing → ℕ → Option FlowPause
flow_pause s t n = option_and_then (λ (flow : FlowPlan). option_and_then (λ (pause : ℕ). option_and_then (λ (pace : Pace).
    option_and_then (λ (group : GroupPlan). flow_pause_of s t n flow group pace pause) (slice_get s.plan.groups.items flow.group))
    flow.pace) flow.pause) (slice_get s.plan.flows.items n)

unfoldable pub stream_pause : Settings → Timing → ℕ → Option ℕ
stream_pause s t n = option_map (λ (p : FlowPause). p.pause) (flow_pause s t n)

unfoldable pub flow_stream : Settings → Timing → Frame → ℕ → Option MessageStream
flow_stream s t f n =
    option_and_then (λ (pace : Pace). option_and_then (λ (group : GroupPlan). option_and_then (λ (time : ℕ).
    paced_stream s t f n group pace time (stream_pause s t n)) (queue_time_of s.plan n)) (group_in_flow s n)) (flow_pace s n)

-- requests have this priority
abbrev pub request_priority : ℕ
request_priority = 6

-- the stream of a request with a period: one is queued at its moment
abbrev pub request_period : Settings → ℕ → Option ℕ
request_period s n = option_and_then (λ (r : RequestPlan). r.period) (slice_get s.plan.requests.items n)

abbrev pub paced_request : Settings → Timing → Frame → ℕ → ℕ → Option MessageStream
paced_request s t f n period =
    if f.ident.priority == request_priority
    then Some (record { mark = stream_mark NearRequest n; step = shortest_us t period; slack = slack_by s.bound None 0; pause = None }) else None

unfoldable pub asked_stream : Settings → Timing → Frame → ℕ → Option MessageStream
asked_stream s t f n = option_and_then (λ (period : ℕ). paced_request s t f n period) (request_period s n)

-- ---- a frame

-- of which flow and of which request a frame is seen, for which unit it counts, from which of its groups a message deviates, and whether it was asked for by none
-- of the plan's requests, by what was noted of it
abbrev pub nothing_sighted : Sighting
nothing_sighted = record { flow = None; request = None; unit = None; deviating = None; besides = false }

abbrev pub sighted_as : Word → ℕ → ℕ → Sighting → Sighting
sighted_as Seen n g w = record w { flow = Some n }
sighted_as Asked n g w = record w { request = Some n }
sighted_as Counted n g w = record w { unit = Some n }
sighted_as Layout n g w = record w { deviating = Some g }
sighted_as NoFlow n g w = record w { deviating = Some g }
sighted_as Priority n g w = record w { deviating = Some g }
sighted_as Answered n g w = record w { deviating = Some g }
sighted_as Besides n g w = record w { besides = true }
sighted_as _ n g w = w

abbrev pub sighted_behind : Sighting → List Noted → Sighting
sighted_behind w [] = w
sighted_behind w (n ∷ rest) = sighted_behind (sighted_as n.mark.word n.mark.subject n.mark.group w) rest

-- the stream of which a frame is a message
abbrev pub sighted_stream : Settings → Timing → Frame → Option ℕ → Option ℕ → Option MessageStream
sighted_stream s t f (Some n) asked = flow_stream s t f n
sighted_stream s t f None (Some n) = asked_stream s t f n
sighted_stream s t f None None = None

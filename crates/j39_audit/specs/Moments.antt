-- The moments at which messages were ready to be sent, as far as the times of a log report.
use Rattle.std.specs.Prelude.{ℕ, zero, suc, ◌+◌, ◌-◌, ◌*◌, ◌^◌, nat_le, nat_lt, ◌==◌, ◌&&◌, not, Bool, true, false, if◌then◌else◌, List, [], ◌∷◌, ◌++◌, length, slice_index_or, Option, Some, None}
use Rattle.std.specs.Int.{div_ceil}
use Rattle.std.specs.List.{slice_get}
use Rattle.std.specs.Option.{option_and_then, option_map, option_map_or}
use Rattle.j39_id.specs.declared.frame.Frame.{Frame}
use Rattle.j39_network.specs.declared.plan.flow_plan.FlowPlan.{FlowPlan}
use Rattle.j39_network.specs.declared.plan.timing.Bitrate.{Bitrate}
use Rattle.j39_network.specs.declared.plan.timing.Bitrate.TheVariants.{Kbit125, Kbit250, Kbit500, Mbit1}
use Rattle.j39_network.specs.declared.plan.timing.ErrorRate.{ErrorRate}
use Rattle.j39_network.specs.declared.plan.timing.Timing.{Timing}
use Rattle.j39_audit.specs.Breaks.{is_set_back}
use Rattle.j39_audit.specs.Counting.{Key, Noted, is_same_key, key_of, noted_by}
use Rattle.j39_audit.specs.Near.{candidate, earliest_next, excess}
use Rattle.j39_audit.specs.MessageStreams.{flow_pause, nothing_sighted, sighted_behind, sighted_stream, stream_mark}
use Rattle.j39_audit.specs.Pauses.{is_with_unit, last_of_ends, stands_for, unclear_behind}
use Rattle.j39_audit.specs.Settings.{Settings, logger_error, units_planned}
use Rattle.j39_audit.specs.Silence.{lag, latest_next}
use Rattle.j39_audit.specs.declared.by_load.Bound.{Bound}
use Rattle.j39_audit.specs.declared.by_load.Bound.TheVariants.{Bus, Load}
use Rattle.j39_audit.specs.declared.mark.Word.TheVariants.{SilentFlow}
use Rattle.j39_audit.specs.declared.pauses.Ending.{Ending}
use Rattle.j39_audit.specs.declared.pauses.Ending.TheVariants.{Nothing, OfUnit, OfAll}
use Rattle.j39_audit.specs.declared.pauses.LastFrame.{LastFrame}
use Rattle.j39_audit.specs.declared.pauses.Newest.{Newest}
use Rattle.j39_audit.specs.declared.streams.FlowPause.{FlowPause}
use Rattle.j39_audit.specs.declared.streams.MessageStream.{MessageStream}
use Rattle.j39_audit.specs.declared.tally.Sighting.{Sighting}
use Rattle.j39_audit.specs.declared.window.Window.{Window}

-- what the times so far report: the time of the line before, where it is a frame that has one; since when
-- all was queued that begins from here on, or by load all has ended that ends from here on; of each stream the earliest moment of the newest message; and what was found; of each flow with a pause that hasn't
-- ended the newest message, and of each unit the last frame since its last claim. Moments are counted in microseconds from 2^33 before the zero
-- of the log's times, so that no bound lies before it
pub record Moments : Type 0 where
  pub before : Option ℕ
  pub since : Option ℕ
  pub earliest : Key → Option ℕ
  pub untimely : List Noted
  pub newest : ℕ → Option Newest
  pub last : ℕ → Option LastFrame

abbrev pub no_moments : Moments
no_moments = record { before = None; since = None; earliest = λ key. None; untimely = []; newest = λ n. None; last = λ u. None }

-- a line that is skipped or bad shows no idle bit
abbrev pub behind_gap : Moments → Moments
behind_gap m = record m { before = None; since = None }

abbrev pub long_before : ℕ
long_before = 2 ^ 33

-- this by the bus, and that by load
abbrev pub since_by : Bound → Option ℕ → ℕ → Option ℕ
since_by Bus idle end = idle
since_by Load idle end = Some end

-- ---- where times begin anew

-- just before a frame without a time, and before one at which the clock was set back
abbrev pub begins_anew : ℕ → Option ℕ → Option ℕ → Bool
begins_anew stamps newest None = true
begins_anew stamps None (Some time) = false
begins_anew stamps (Some newest) (Some time) = is_set_back stamps newest time

-- ---- the idle mark

-- the microseconds of a bit by an exact clock
abbrev pub bit_us : Bitrate → ℕ
bit_us Kbit125 = 8
bit_us Kbit250 = 4
bit_us Kbit500 = 2
bit_us Mbit1 = 1

abbrev pub damaged_at_once : Timing → ℕ
damaged_at_once t = option_map_or (λ (e : ErrorRate). e.count) t.errors 0

-- that long a frame of so many bytes takes at most, with the bit before it, what may be damaged, and what clocks differ meanwhile
abbrev pub reach_back : Timing → ℕ → ℕ
reach_back t bytes = div_ceil (bit_us t.bitrate * (81 + 10 * bytes + 192 * damaged_at_once t) * (1000000 + t.drift)) 1000000 + 2

-- damage is so seldom that it leaves a bit idle
abbrev pub leaves_idle : Timing → Bool
leaves_idle t = option_map_or (λ (e : ErrorRate). nat_le (bit_us t.bitrate * (192 * (e.count + 1)) * (1000000 + t.drift)) (1000 * e.every * 1000000)) t.errors true

-- a frame of this time doesn't touch the one of the line before
abbrev pub is_apart : ℕ → Timing → ℕ → ℕ → Option ℕ → Bool
is_apart stamps t bytes time None = false
is_apart stamps t bytes time (Some before) = nat_lt (before + (reach_back t bytes + 2 * stamps)) time

-- so the bit before it was idle; frames of the bus that are missing in the log show none
abbrev pub shows_idle : Settings → Timing → Bool → ℕ → ℕ → Option ℕ → Bool
shows_idle s t gap bytes time before = not s.part && (not gap && (leaves_idle t && is_apart (logger_error s) t bytes time before))

abbrev pub idle_mark : Settings → Timing → ℕ → ℕ → ℕ
idle_mark s t bytes time = time + long_before - (reach_back t bytes + logger_error s)

-- behind a frame of this time and so many bytes, with one of this time in the line before, and this mark before it
abbrev pub idle_behind : Settings → Timing → Bool → ℕ → ℕ → Option ℕ → Option ℕ → Option ℕ
idle_behind s t gap bytes time before idle = if shows_idle s t gap bytes time before then Some (idle_mark s t bytes time) else idle

-- a frame of this time ended no earlier
abbrev pub earliest_end : Settings → ℕ → ℕ
earliest_end s time = time + long_before - logger_error s

-- so what is sent from here on was queued since the idle mark, and by load it has ended since the frame at hand did
abbrev pub since_behind : Settings → Timing → Bool → ℕ → ℕ → Option ℕ → Option ℕ → Option ℕ
since_behind s t gap bytes time before since = since_by s.bound (idle_behind s t gap bytes time before since) (earliest_end s time)

abbrev pub with_moment : Settings → Timing → Bool → ℕ → ℕ → Moments → Moments
with_moment s t gap bytes time m = record m { before = Some time; since = since_behind s t gap bytes time m.before m.since }

-- ---- messages

-- no message had its moment before this that comes since then, and so far behind it at most
abbrev pub lower_bound : Option ℕ → Option ℕ → Option ℕ
lower_bound slack since = option_and_then (λ d. option_map (λ q. q - d) since) slack

-- the bounds of the moment of a message of this time
abbrev pub moment_window : Settings → Option ℕ → ℕ → Option ℕ → Window
moment_window s slack time since = record { lower = lower_bound slack since; upper = time + long_before + logger_error s }

abbrev pub near_noted : MessageStream → ℕ → Option ℕ → List Noted
near_noted stream line by = noted_by stream.mark line by

abbrev pub with_earliest : Key → Option ℕ → (Key → Option ℕ) → Key → Option ℕ
with_earliest key moment earliest other = if is_same_key key other then moment else earliest other

-- with a message of a stream within these bounds
abbrev pub with_message : MessageStream → Window → ℕ → Moments → Moments
with_message stream window line m = record m {
  earliest = with_earliest (key_of stream.mark) (earliest_next stream.step (m.earliest (key_of stream.mark)) window) m.earliest;
  untimely = m.untimely ++ near_noted stream line (excess (candidate stream.step (m.earliest (key_of stream.mark)) window) window.upper);
}

-- ---- pauses

abbrev pub with_newest : ℕ → Option Newest → (ℕ → Option Newest) → ℕ → Option Newest
with_newest n one newest other = if n == other then one else newest other

abbrev pub with_last_frame : ℕ → Option LastFrame → (ℕ → Option LastFrame) → ℕ → Option LastFrame
with_last_frame u one last other = if u == other then one else last other

abbrev pub newest_moment : Option Newest → Option ℕ
newest_moment newest = option_map (λ (x : Newest). x.moment) newest

-- a flow is silent behind its newest message
abbrev pub silent_noted : ℕ → Option Newest → Option ℕ → List Noted
silent_noted n (Some newest) (Some by) = record { mark = stream_mark SilentFlow n; line = newest.line; detail = by } ∷ []
silent_noted n _ _ = []

-- with a message of a flow of this pause
abbrev pub with_pause : Option ℕ → ℕ → Window → ℕ → Moments → Moments
with_pause None n window line m = m
with_pause (Some pause) n window line m = record m {
  newest = with_newest n (Some (record { moment = latest_next pause (newest_moment (m.newest n)) window; line = line })) m.newest;
  untimely = m.untimely ++ silent_noted n (m.newest n) (lag pause (newest_moment (m.newest n)) window.lower);
}

-- by how much a flow is silent where its pause ends: by the last frame behind its newest message, up to which all ends of the flow were there
abbrev pub silent_by : FlowPause → Newest → Option LastFrame → Option ℕ
silent_by p newest None = None
silent_by p newest (Some last) =
    if nat_lt newest.line last.line then lag p.pause (Some newest.moment) (lower_bound p.slack last.since) else None

abbrev pub last_of_flow : Settings → (ℕ → Option LastFrame) → ℕ → Option LastFrame
last_of_flow s last n = option_and_then (λ (flow : FlowPlan). last_of_ends last flow.sender flow.to) (slice_get s.plan.flows.items n)

abbrev pub silence_behind : Settings → Timing → ℕ → Option Newest → (ℕ → Option LastFrame) → Option ℕ
silence_behind s t n None last = None
silence_behind s t n (Some newest) last = option_and_then (λ (p : FlowPause). silent_by p newest (last_of_flow s last n)) (flow_pause s t n)

-- the pause of a flow ends, behind a look at who is there
abbrev pub pause_ended : Settings → Timing → ℕ → Moments → Moments
pause_ended s t n m = record m {
  newest = with_newest n None m.newest;
  untimely = m.untimely ++ silent_noted n (m.newest n) (silence_behind s t n (m.newest n) m.last);
}

-- so do those of the first n flows, of all or of those with a unit; and those of the first k of a list
abbrev pub ends_with : Settings → Option ℕ → ℕ → Bool
ends_with s None n = true
ends_with s (Some u) n = is_with_unit s u n

unfoldable pub pauses_ended : Settings → Timing → Option ℕ → ℕ → Moments → Moments
pauses_ended s t unit zero m = m
pauses_ended s t unit (suc n) m = if ends_with s unit n then pause_ended s t n (pauses_ended s t unit n m) else pauses_ended s t unit n m

unfoldable pub listed_pauses_ended : Settings → Timing → List ℕ → ℕ → Moments → Moments
listed_pauses_ended s t ns zero m = m
listed_pauses_ended s t ns (suc k) m = pause_ended s t (slice_index_or ns k 0) (listed_pauses_ended s t ns k m)

-- all end, without a look, and behind one
abbrev pub pauses_dropped : Moments → Moments
pauses_dropped m = record m { newest = λ n. None; last = λ u. None }

unfoldable pub all_pauses_ended : Settings → Moments → Moments
all_pauses_ended s m = option_map_or
    (λ (t : Timing). pauses_dropped (pauses_ended s t None (length s.plan.flows.items) m)) s.plan.timing m

-- those of a unit's flows end, and what it sent before its claim says no more that it is there
abbrev pub without_last_frame : ℕ → Moments → Moments
without_last_frame u m = record m { last = with_last_frame u None m.last }

abbrev pub unit_pauses_ended : Settings → Timing → ℕ → Moments → Moments
unit_pauses_ended s t u m = without_last_frame u (pauses_ended s t (Some u) (length s.plan.flows.items) m)

abbrev pub with_ending : Settings → Timing → Ending → Moments → Moments
with_ending s t Nothing m = m
with_ending s t (OfUnit u) m = unit_pauses_ended s t u m
with_ending s t OfAll m = all_pauses_ended s m

-- a message of the unit deviates: without a look those of the flows end for which it stands
abbrev pub with_deviating : Settings → Option ℕ → Option ℕ → Moments → Moments
with_deviating s group unit m = record m { newest = λ n. if stands_for s.plan group unit n then None else m.newest n }

-- a frame that counts for a unit
abbrev pub with_frame_of : ℕ → ℕ → Moments → Moments
with_frame_of u line m = record m { last = with_last_frame u (Some (record { line = line; since = m.since })) m.last }

abbrev pub with_counted : Settings → Option ℕ → ℕ → Moments → Moments
with_counted s None line m = m
with_counted s (Some u) line m =
    if nat_lt u (units_planned s) then with_frame_of u line m else m

-- with a packet of a broadcast, if the frame of this time is one
abbrev pub with_packet_stream : Settings → Option ℕ → ℕ → Option MessageStream → Moments → Moments
with_packet_stream s (Some time) line (Some stream) m = with_message stream (moment_window s stream.slack time m.since) line m
with_packet_stream s _ line _ m = m

-- ---- where all ends

-- a line that is bad: a frame may be missing
abbrev pub behind_bad : Settings → Moments → Moments
behind_bad s m = behind_gap (all_pauses_ended s m)

-- just before a frame where times begin anew, or where a gap ends
abbrev pub begun_anew : Settings → Bool → Bool → Moments → Moments
begun_anew s anew gap m =
    if anew then record (all_pauses_ended s m) { before = None; since = None; earliest = λ key. None }
    else if gap then all_pauses_ended s m else m

-- ---- a frame

-- a message that was asked for by none of the plan's requests may have been sent besides those of its stream
abbrev pub with_message_of : Bool → MessageStream → Window → ℕ → Moments → Moments
with_message_of true stream window line m = m
with_message_of false stream window line m = with_message stream window line m

-- with a message of a stream, if the frame is one
abbrev pub with_stream : Settings → ℕ → ℕ → Bool → Option MessageStream → Moments → Moments
with_stream s time line besides None m = m
with_stream s time line besides (Some stream) m =
    with_pause stream.pause stream.mark.subject (moment_window s stream.slack time m.since) line
    (with_message_of besides stream (moment_window s stream.slack time m.since) line m)

-- behind a frame of this time that is seen so, may be a message of each of several flows, and ends these pauses
abbrev pub with_time : Settings → Option Timing → Bool → Option ℕ → Frame → ℕ → Sighting → List ℕ → Ending → Moments → Moments
with_time s (Some t) gap (Some time) f line w unclear ending m =
    with_counted s w.unit line (with_stream s time line w.besides (sighted_stream s t f w.flow w.request) (with_deviating s w.deviating w.unit
    (listed_pauses_ended s t unclear (length unclear) (with_ending s t ending (with_moment s t gap (length f.payload.items) time m)))))
with_time s _ gap _ f line w unclear ending m = m

-- and of which this was noted
unfoldable pub moments_behind : Settings → Bool → Bool → Option ℕ → Frame → ℕ → List Noted → Ending → Moments → Moments
moments_behind s gap anew time f line noted ending m =
    with_time s s.plan.timing gap time f line (sighted_behind nothing_sighted noted) (unclear_behind [] noted) ending (begun_anew s anew gap m)

-- Packets of broadcasts that a plan knows: of each unit the broadcast that it announced last, and which of its packets come too late.
use Rattle.std.specs.Prelude.{ℕ, ◌+◌, ◌-◌, nat_lt, ◌==◌, ◌&&◌, not, Bool, if◌then◌else◌, List, [], ◌++◌, length, Option, Some, None, is_none}
use Rattle.std.specs.List.{list_any}
use Rattle.j39_id.specs.Addresses.{global_address}
use Rattle.j39_id.specs.Ident.{pgn_of}
use Rattle.j39_id.specs.Limits.{frame_bytes}
use Rattle.j39_id.specs.Services.{data_transfer}
use Rattle.j39_id.specs.declared.frame.Frame.{Frame}
use Rattle.j39_network.specs.declared.plan.flow_plan.FlowPlan.{FlowPlan}
use Rattle.j39_network.specs.declared.plan.timing.Timing.{Timing}
use Rattle.j39_tp.specs.Chunks.{packets_of}
use Rattle.j39_tp.specs.declared.packet.Packet.{Packet}
use Rattle.j39_tp.specs.declared.packet.Packet.TheVariants.{Bam}
use Rattle.j39_audit.specs.Claiming.{Knowledge}
use Rattle.j39_audit.specs.Counting.{Noted, noted_by}
use Rattle.j39_audit.specs.Looking.{announced_message}
use Rattle.j39_audit.specs.MessageStreams.{stream_mark}
use Rattle.j39_audit.specs.UnitTimes.{longest_us, shortest_us}
use Rattle.j39_audit.specs.Moments.{long_before}
use Rattle.j39_audit.specs.Near.{excess}
use Rattle.j39_audit.specs.SentMessages.{SentMessage, is_fit}
use Rattle.j39_audit.specs.Settings.{Settings, logger_error, units_planned}
use Rattle.j39_audit.specs.declared.announcements.Announcement.{Announcement}
use Rattle.j39_audit.specs.declared.broadcasts.BegunBroadcast.{BegunBroadcast}
use Rattle.j39_audit.specs.declared.mark.Word.TheVariants.{NearPackets, SilentPackets}
use Rattle.j39_audit.specs.declared.pauses.Ending.{Ending}
use Rattle.j39_audit.specs.declared.pauses.Ending.TheVariants.{Nothing, OfUnit, OfAll}
use Rattle.j39_audit.specs.declared.streams.MessageStream.{MessageStream}

-- of each unit its planned broadcast, where none of its packets can be missed; and what was found
pub record BegunBroadcasts : Type 0 where
  pub begun : ℕ → Option BegunBroadcast
  pub late : List Noted

abbrev pub no_broadcasts : BegunBroadcasts
no_broadcasts = record { begun = λ u. None; late = [] }

-- ---- where they end

abbrev pub all_ended : BegunBroadcasts → BegunBroadcasts
all_ended b = record b { begun = λ u. None }

-- just before a frame, where times begin anew or a gap ends
abbrev pub ended_before : Bool → Bool → BegunBroadcasts → BegunBroadcasts
ended_before anew gap b = if anew then all_ended b else if gap then all_ended b else b

abbrev pub with_begun : ℕ → Option BegunBroadcast → (ℕ → Option BegunBroadcast) → ℕ → Option BegunBroadcast
with_begun u one begun other = if u == other then one else begun other

-- of a unit
abbrev pub with_one : ℕ → Option BegunBroadcast → BegunBroadcasts → BegunBroadcasts
with_one u one b = record b { begun = with_begun u one b.begun }

-- with the pauses that end at a claim
abbrev pub ended_with : Ending → BegunBroadcasts → BegunBroadcasts
ended_with Nothing b = b
ended_with (OfUnit u) b = with_one u None b
ended_with OfAll b = all_ended b

-- ---- announcements

-- a flow may bring the message, and has no period
abbrev pub is_unpaced : Settings → Knowledge → SentMessage → FlowPlan → Bool
is_unpaced s k m f = is_fit s k m f && is_none f.pace

-- some flow may bring the message, and each that may has a period
unfoldable pub is_paced : Settings → Knowledge → SentMessage → Bool
is_paced s k m = list_any (is_fit s k m) s.plan.flows.items && not (list_any (is_unpaced s k m) s.plan.flows.items)

-- what a packet announces to all
abbrev pub announcement_in : Option Packet → Option Announcement
announcement_in (Some (Bam size pgn)) = Some (record { size = size; number = pgn })
announcement_in _ = None

abbrev pub announced_to_all : ℕ → Frame → Option Announcement → Option SentMessage
announced_to_all u f None = None
announced_to_all u f (Some a) = Some (announced_message u f a.size a.number)

-- a broadcast begins, if it is planned
abbrev pub begun_by : Settings → Knowledge → SentMessage → ℕ → ℕ → Option BegunBroadcast
begun_by s k m moment line = if is_paced s k m then Some (record { left = packets_of m.size; moment = moment; line = line }) else None

-- ---- packets

abbrev pub is_packet_to_all : Frame → Bool
is_packet_to_all f = pgn_of f.ident == data_transfer && (f.ident.ps == global_address && length f.payload.items == frame_bytes)

-- the stream of a unit's packets: one is queued at its moment
abbrev pub stream_of_packets : Timing → ℕ → MessageStream
stream_of_packets t u = record { mark = stream_mark NearPackets u; step = shortest_us t t.broadcast_gap; slack = Some 0; pause = None }

-- the frame is of it, with this broadcast of its unit before it
abbrev pub packet_of : Timing → ℕ → Frame → Option BegunBroadcast → Option MessageStream
packet_of t u f None = None
packet_of t u f (Some one) = if is_packet_to_all f then Some (stream_of_packets t u) else None

-- by how much it comes too late behind the announcement, or behind a packet but the last
abbrev pub late_by : Timing → Option ℕ → BegunBroadcast → Option ℕ
late_by t idle one = if one.left == 0 then None else excess idle (one.moment + longest_us t t.broadcast_gap_most)

abbrev pub late_noted : ℕ → ℕ → Option ℕ → List Noted
late_noted u line by = noted_by (stream_mark SilentPackets u) line by

abbrev pub next_packet : BegunBroadcast → ℕ → ℕ → BegunBroadcast
next_packet one moment line = record { left = one.left - 1; moment = moment; line = line }

-- with a packet at this idle mark
abbrev pub with_packet : Timing → ℕ → Option ℕ → ℕ → ℕ → BegunBroadcast → BegunBroadcasts → BegunBroadcasts
with_packet t u idle moment line one b = record {
  begun = with_begun u (Some (next_packet one moment line)) b.begun;
  late = b.late ++ late_noted u one.line (late_by t idle one);
}

-- ---- a frame

-- of a unit, which announces this to all or announces nothing, and ended by this moment
abbrev pub with_sent : Settings → Knowledge → Timing → ℕ → Frame → Option ℕ → ℕ → ℕ → Option SentMessage → Option BegunBroadcast → BegunBroadcasts → BegunBroadcasts
with_sent s k t u f idle moment line (Some m) before b = with_one u (begun_by s k m moment line) b
with_sent s k t u f idle moment line None None b = b
with_sent s k t u f idle moment line None (Some one) b = if is_packet_to_all f then with_packet t u idle moment line one b else b

abbrev pub broadcasts_with_frame : Settings → Knowledge → Option Timing → Option ℕ → Frame → Option Announcement → Option ℕ → Option ℕ → ℕ → BegunBroadcasts → BegunBroadcasts
broadcasts_with_frame s k (Some t) (Some u) f announced (Some time) idle line b =
    if nat_lt u (units_planned s)
    then with_sent s k t u f idle (time + long_before + logger_error s) line (announced_to_all u f announced) (b.begun u) b else b
broadcasts_with_frame s k _ _ f announced _ idle line b = b

-- and of which unit's packets it is one
abbrev pub packet_with : Option Timing → Option ℕ → Frame → BegunBroadcasts → Option MessageStream
packet_with (Some t) (Some u) f b = packet_of t u f (b.begun u)
packet_with _ _ f b = None

-- just before a frame, and behind one
unfoldable pub broadcasts_before : Bool → Bool → Ending → BegunBroadcasts → BegunBroadcasts
broadcasts_before anew gap ending b = ended_with ending (ended_before anew gap b)

unfoldable pub broadcasts_behind : Settings → Knowledge → Option ℕ → Frame → Option Announcement → Option ℕ → Option ℕ → ℕ → BegunBroadcasts → BegunBroadcasts
broadcasts_behind s k unit f announced time idle line b = broadcasts_with_frame s k s.plan.timing unit f announced time idle line b

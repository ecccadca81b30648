-- The rules of a transport sender, on a session's PGN, size and stage (SAE J1939-21, transport protocol functions).
use Rattle.std.specs.Prelude.{ℕ, ◌+◌, ◌-◌, ◌==◌, ◌&&◌, not, nat_lt, nat_le, Bool, if◌then◌else◌, min, List, length, Option, Some, None, is_some}
use Rattle.j39_tp.specs.Chunks.{MessageParts, packets_of, chunk}
use Rattle.j39_tp.specs.Packets.{no_limit}
use Rattle.j39_tp.specs.Reasons.{timeout, cts_while_sending}
use Rattle.j39_tp.specs.declared.sending.dest.Dest.{Dest}
use Rattle.j39_tp.specs.declared.sending.dest.Dest.TheVariants.{All, One}
use Rattle.j39_tp.specs.declared.sending.outcome.Outcome.{Outcome}
use Rattle.j39_tp.specs.declared.sending.outcome.Outcome.TheVariants.{Sent, Acked, Aborted, GaveUp}
use Rattle.j39_tp.specs.declared.packet.Packet.{Packet}
use Rattle.j39_tp.specs.declared.packet.Packet.TheVariants.{Rts, Cts, EndAck, Bam, Abort, Dt}
use Rattle.j39_tp.specs.declared.sending.phase.Phase as phase
use Rattle.j39_tp.specs.declared.sending.phase.Phase.TheVariants as phases
use Rattle.j39_tp.specs.declared.sending.reaction.Reaction.{Reaction}
use Rattle.j39_tp.specs.declared.sending.reaction.Reaction.TheVariants.{Nothing, Go, Ended, Reply}
use Rattle.j39_tp.specs.declared.sending.stage.Stage.{Stage}
use Rattle.j39_tp.specs.declared.sending.stage.Stage.TheVariants.{Sending, Waiting, Resting}

-- a message is announced by BAM to all, by RTS without a limit to one
abbrev pub announcement : Dest → ℕ → ℕ → Packet
announcement All pgn size = Bam size pgn
announcement One pgn size = Rts size no_limit pgn

-- where a session stands once its message was announced
abbrev pub begun : Dest → ℕ → Stage
begun All size = Sending 1 (packets_of size)
begun One size = Waiting

-- the number of the data packet that is sent next, if there is one
abbrev pub next_number : Stage → Option ℕ
next_number (Sending next last) = Some next
next_number _ = None

-- where a session stands once the last packet that it may send was sent
abbrev pub spent : Dest → Stage
spent All = Resting Sent
spent One = Waiting

-- where a session stands once its next data packet was sent
abbrev pub after_packet : Dest → Stage → Stage
after_packet dest (Sending next last) = if nat_lt next last then Sending (next + 1) last else spent dest
after_packet dest stage = stage

-- a CTS of no packets holds the connection open, and one that doesn't begin at a packet of the message means nothing
abbrev pub is_hold : ℕ → Bool
is_hold count = count == 0

abbrev pub is_outside : ℕ → ℕ → Bool
is_outside packets first = not (nat_le 1 first && nat_le first packets)

-- a CTS in waiting: one that holds, one outside the message, and one that grants packets, at most to the last of the message
abbrev pub granted : ℕ → ℕ → ℕ → Stage × Reaction
granted packets count first =
    if is_hold count then (Waiting, Nothing)
    else if is_outside packets first then (Waiting, Nothing)
    else (Sending first (min packets (first + count - 1)), Go)

-- a CTS of the session's PGN: while data is being sent it ends the session
abbrev pub cleared : ℕ → ℕ → ℕ → ℕ → Stage → Stage × Reaction
cleared pgn packets count first (Sending next last) = (Resting (Aborted cts_while_sending), Reply (Abort cts_while_sending pgn))
cleared pgn packets count first Waiting = granted packets count first
cleared pgn packets count first (Resting outcome) = (Resting outcome, Nothing)

-- an end of the session, unless it has one
abbrev pub ended : Outcome → Stage → Stage × Reaction
ended outcome (Resting was) = (Resting was, Nothing)
ended outcome _ = (Resting outcome, Ended)

-- where a session stands once it heard a packet, and what it does: one to all hears nothing, and one to one hears CTS,
-- EndOfMsgACK and Abort of its PGN
abbrev pub stage_hears : Dest → ℕ → ℕ → Stage → Packet → Stage × Reaction
stage_hears All pgn size stage packet = (stage, Nothing)
stage_hears One pgn size stage (Cts count first named) = if named == pgn then cleared pgn (packets_of size) count first stage else (stage, Nothing)
stage_hears One pgn size stage (EndAck received named) = if named == pgn && received == size then ended Acked stage else (stage, Nothing)
stage_hears One pgn size stage (Abort reason named) = if named == pgn then ended (Aborted reason) stage else (stage, Nothing)
stage_hears One pgn size stage (Rts announced limit named) = (stage, Nothing)
stage_hears One pgn size stage (Bam announced named) = (stage, Nothing)
stage_hears One pgn size stage (Dt number chunk) = (stage, Nothing)

-- where a session stands once nothing was heard in time, and what it sends
abbrev pub after_timeout : Stage → Stage
after_timeout Waiting = Resting GaveUp
after_timeout stage = stage

abbrev pub timeout_packet : ℕ → Stage → Option Packet
timeout_packet pgn Waiting = Some (Abort timeout pgn)
timeout_packet pgn _ = None

-- what is seen of a session
abbrev pub phase_of : Stage → phase.Phase
phase_of (Sending next last) = phases.Sending
phase_of Waiting = phases.Waiting
phase_of (Resting outcome) = phases.Resting

abbrev pub outcome_of : Stage → Option Outcome
outcome_of (Resting outcome) = Some outcome
outcome_of _ = None

-- ---- a transfer: a message that is being sent, whether to all or to one, and how far it is

pub record TransferParts : Type 0 where
  pub message : MessageParts
  pub dest : Dest
  pub stage : Stage

-- a message that was announced
abbrev pub announced : MessageParts → Dest → TransferParts
announced message dest = record { message = message; dest = dest; stage = begun dest (length message.bytes) }

-- the data packet that is sent next
abbrev pub data_next : List ℕ → Stage → Option Packet
data_next bytes (Sending next last) = Some (Dt next (chunk bytes next))
data_next bytes _ = None

-- where it stands once it heard a packet, and what it does
abbrev pub transfer_hears : TransferParts → Packet → Stage × Reaction
transfer_hears t packet = stage_hears t.dest t.message.pgn (length t.message.bytes) t.stage packet

-- ---- a sender: no message, or one that is being sent

-- what it sends next, and what it is then
abbrev pub packet_next : Option TransferParts → Option Packet
packet_next None = None
packet_next (Some t) = data_next t.message.bytes t.stage

abbrev pub sender_after_sending : Option TransferParts → Option TransferParts
sender_after_sending None = None
sender_after_sending (Some t) = Some (record t { stage = after_packet t.dest t.stage })

-- what it does with a packet, and what it is then
abbrev pub answer : Option TransferParts → Packet → Reaction
answer None packet = Nothing
answer (Some t) packet = (transfer_hears t packet).1

abbrev pub sender_after_hearing : Option TransferParts → Packet → Option TransferParts
sender_after_hearing None packet = None
sender_after_hearing (Some t) packet = Some (record t { stage = (transfer_hears t packet).0 })

-- what it sends where nothing was heard in time, and what it is then
abbrev pub late_packet : Option TransferParts → Option Packet
late_packet None = None
late_packet (Some t) = timeout_packet t.message.pgn t.stage

abbrev pub sender_after_timeout : Option TransferParts → Option TransferParts
sender_after_timeout None = None
sender_after_timeout (Some t) = Some (record t { stage = after_timeout t.stage })

-- what is seen of it
abbrev pub outcome_seen : Option TransferParts → Option Outcome
outcome_seen None = None
outcome_seen (Some t) = outcome_of t.stage

abbrev pub phase_seen : Option TransferParts → phase.Phase
phase_seen None = phases.Idle
phase_seen (Some t) = phase_of t.stage

-- a resting sender can become idle
abbrev pub is_resting : Option TransferParts → Bool
is_resting sender = is_some (outcome_seen sender)

abbrev pub sender_after_rest : Option TransferParts → Option TransferParts
sender_after_rest sender = if is_resting sender then None else sender

-- The rules of a transport receiver, on plain numbers: what was announced, how many packets are held in order, the last
-- that was granted, and how often one was asked for again (SAE J1939-21, transport protocol functions; what a receiver
-- does with missing packets is a profile of our own).
use Rattle.std.specs.Prelude.{ℕ, ◌+◌, ◌-◌, ◌==◌, ◌&&◌, nat_lt, nat_le, Bool, true, false, if◌then◌else◌, min, List, [], ◌++◌, length, take, Option, Some, None}
use Rattle.j39_tp.specs.Chunks.{packets_of}
use Rattle.j39_tp.specs.Packets.{no_limit}
use Rattle.j39_tp.specs.Reasons.{timeout, asked_too_often}
use Rattle.j39_tp.specs.declared.receiving.heard.Heard.{Heard}
use Rattle.j39_tp.specs.declared.receiving.heard.Heard.TheVariants as heard
use Rattle.j39_tp.specs.declared.receiving.manner.Manner.{Manner}
use Rattle.j39_tp.specs.declared.receiving.manner.Manner.TheVariants.{Answering, Listening}
use Rattle.j39_tp.specs.declared.packet.Packet.{Packet}
use Rattle.j39_tp.specs.declared.packet.Packet.TheVariants.{Rts, Cts, EndAck, Bam, Abort, Dt}
use Rattle.j39_tp.specs.declared.receiving.progress.Progress.{Progress}
use Rattle.j39_tp.specs.declared.receiving.progress.Progress.TheVariants.{Closed, Open, Complete}
use Rattle.j39_tp.specs.declared.receiving.reception.ReceptionKind.{ReceptionKind}
use Rattle.j39_tp.specs.declared.receiving.reception.ReceptionKind.TheVariants.{Broadcast, Directed}
use Rattle.j39_tp.specs.declared.receiving.reception.Reception.{Reception}

-- a session that was just announced
abbrev pub opened : ReceptionKind → ℕ → ℕ → ℕ → Reception
opened kind pgn size limit = record { kind = kind; pgn = pgn; size = size; limit = limit; held = 0; granted = 0; asked = 0 }

-- the maximum number of packets that may be sent for one CTS, as the RTS announces it; 0 counts as no limit
abbrev pub limit_of : ℕ → ℕ
limit_of limit = if limit == 0 then no_limit else limit

-- how many packets a CTS grants: as many as the receiver's window, the RTS's maximum and the rest of the message let
abbrev pub grant : ℕ → Reception → ℕ
grant window r = min window (min (limit_of r.limit) (packets_of r.size - r.held))

-- a CTS for the packets after those that are held, and the session then
abbrev pub clear_packet : ℕ → Reception → Packet
clear_packet window r = Cts (grant window r) (r.held + 1) r.pgn

abbrev pub granted_to : ℕ → Reception → Reception
granted_to window r = record r { granted = r.held + grant window r }

-- how often a session asks again (a profile of our own)
abbrev pub ask_limit : ℕ
ask_limit = 2

abbrev pub asking : Reception → Reception
asking r = record r { asked = r.asked + 1 }

-- asks again for the packets after those that are held, while it may; then it gives up with an Abort of this reason
abbrev pub asks : ℕ → ℕ → Reception → Progress × Packet
asks window reason r =
    if nat_lt r.asked ask_limit then (Open (granted_to window (asking r)), clear_packet window r)
    else (Closed, Abort reason r.pgn)

-- goes on with a session: an answering receiver grants packets of a message to it alone
abbrev pub going_on : Manner → ReceptionKind → Reception → Progress × Heard
going_on (Answering window) Directed r = (Open (granted_to window r), heard.Reply (clear_packet window r))
going_on (Answering window) Broadcast r = (Open r, heard.Nothing)
going_on Listening kind r = (Open r, heard.Nothing)

-- how a complete message is reported
abbrev pub completed : Manner → ReceptionKind → Reception → Heard
completed (Answering window) Directed r = heard.CompleteReply (EndAck r.size r.pgn)
completed (Answering window) Broadcast r = heard.Complete
completed Listening kind r = heard.Complete

-- the packet after those that are held
abbrev pub one_more_held : Reception → Reception
one_more_held r = record r { held = r.held + 1 }

abbrev pub takes_next : Manner → Reception → Progress × Heard
takes_next manner r =
    if r.held + 1 == packets_of r.size then (Complete r.pgn, completed manner r.kind r)
    else if r.held + 1 == r.granted then going_on manner r.kind (one_more_held r)
    else (Open (one_more_held r), heard.Nothing)

-- asks again at once where the last packet that was granted came, and an earlier one didn't
abbrev pub asks_after : ℕ → Reception → ℕ → Progress × Heard
asks_after window r number =
    if number == r.granted
    then ((asks window asked_too_often r).0, heard.Reply (asks window asked_too_often r).1)
    else (Open r, heard.Nothing)

-- a packet after a missing one: it ends a message to all; a listener passes it over, and an answering receiver asks again
abbrev pub takes_later : Manner → ReceptionKind → Reception → ℕ → Progress × Heard
takes_later manner Broadcast r number = (Closed, heard.Closed)
takes_later Listening Directed r number = (Open r, heard.Nothing)
takes_later (Answering window) Directed r number = asks_after window r number

-- a data packet: the next one is taken, one that is held already passed over
abbrev pub takes_data : Manner → Reception → ℕ → Progress × Heard
takes_data manner r number =
    if number == r.held + 1 then takes_next manner r
    else if nat_le number r.held then (Open r, heard.Nothing)
    else takes_later manner r.kind r number

abbrev pub is_directed : ReceptionKind → Bool
is_directed Directed = true
is_directed Broadcast = false

-- an Abort ends a session to one, if it names its PGN
abbrev pub aborts : Reception → ℕ → Progress × Heard
aborts r pgn = if is_directed r.kind && pgn == r.pgn then (Closed, heard.Closed) else (Open r, heard.Nothing)

-- where a receiver stands once it heard a packet, and what it does. An announcement replaces what was open; data and an
-- Abort concern an open session alone; CTS and EndOfMsgACK are ignored always
abbrev pub hears : Manner → Progress → Packet → Progress × Heard
hears manner progress (Bam size pgn) = going_on manner Broadcast (opened Broadcast pgn size no_limit)
hears manner progress (Rts size limit pgn) = going_on manner Directed (opened Directed pgn size limit)
hears manner (Open r) (Dt number chunk) = takes_data manner r number
hears manner (Open r) (Abort reason pgn) = aborts r pgn
hears manner progress (Dt number chunk) = (progress, heard.Nothing)
hears manner progress (Abort reason pgn) = (progress, heard.Nothing)
hears manner progress (Cts count first pgn) = (progress, heard.Nothing)
hears manner progress (EndAck size pgn) = (progress, heard.Nothing)

-- where a receiver stands once nothing was heard in time, and what it sends
abbrev pub times_out : Manner → ReceptionKind → Reception → Progress × Option Packet
times_out (Answering window) Directed r = ((asks window timeout r).0, Some (asks window timeout r).1)
times_out (Answering window) Broadcast r = (Closed, None)
times_out Listening kind r = (Closed, None)

abbrev pub timed_out : Manner → Progress → Progress × Option Packet
timed_out manner (Open r) = times_out manner r.kind r
timed_out manner progress = (progress, None)

-- what is seen of a receiver
abbrev pub is_open_at : Progress → Bool
is_open_at (Open r) = true
is_open_at _ = false

abbrev pub pgn_at : Progress → Option ℕ
pgn_at Closed = None
pgn_at (Open r) = Some r.pgn
pgn_at (Complete pgn) = Some pgn

-- ---- a receiver with the bytes that it holds

pub record Receiving : Type 0 where
  pub manner : Manner
  pub progress : Progress
  pub bytes : List ℕ

-- the bytes that are held once a packet was heard: those of the packets in order, never more than the message has
abbrev pub grown : Progress → Packet → List ℕ → List ℕ
grown progress (Bam size pgn) bytes = []
grown progress (Rts size limit pgn) bytes = []
grown (Open r) (Dt number chunk) bytes = if number == r.held + 1 then take r.size (bytes ++ chunk) else bytes
grown progress _ bytes = bytes

-- the bytes that a receiver holds where it stands so: a closed one holds none
abbrev pub bytes_at : Progress → List ℕ → List ℕ
bytes_at Closed bytes = []
bytes_at _ bytes = bytes

-- a receiver once it heard a packet
abbrev pub receives : Receiving → Packet → Receiving
receives s packet =
    record s {
      progress = (hears s.manner s.progress packet).0;
      bytes = bytes_at (hears s.manner s.progress packet).0 (grown s.progress packet s.bytes);
    }

-- a receiver once nothing was heard in time
abbrev pub gives_up : Receiving → Receiving
gives_up s = record s { progress = (timed_out s.manner s.progress).0; bytes = bytes_at (timed_out s.manner s.progress).0 s.bytes }

-- the message that was completed last
abbrev pub message_of : Progress → List ℕ → List ℕ
message_of (Complete pgn) bytes = bytes
message_of _ bytes = []

-- a message is reported as complete
abbrev pub is_complete : Heard → Bool
is_complete heard.Complete = true
is_complete (heard.CompleteReply packet) = true
is_complete _ = false

-- the size of a message that is reported as complete
abbrev pub size_announced : Heard → List ℕ → Option ℕ
size_announced heard.Complete bytes = Some (length bytes)
size_announced (heard.CompleteReply packet) bytes = Some (length bytes)
size_announced _ bytes = None

-- the size of the message that a packet completes
abbrev pub completed_size : Receiving → Packet → Option ℕ
completed_size s packet = size_announced (hears s.manner s.progress packet).1 (receives s packet).bytes

-- a receiver that was just made
abbrev pub fresh : Manner → Receiving
fresh manner = record { manner = manner; progress = Closed; bytes = [] }

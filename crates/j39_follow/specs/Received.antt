-- Messages to one unit of which the receiver says that it has them whole (SAE J1939-21, transport protocol functions): it asks for packets that it
-- lacks once more, so they may come in any order.
use Rattle.std.specs.Prelude.{◌≡◌, ◌≢◌, ℕ, zero, suc, ◌<◌, ◌==◌, ◌&&◌, Bool, true, List, [], ◌∷◌, ◌++◌, take, is_some, if◌then◌else◌, Option, Some, None}
use Rattle.std.specs.List.{All}
use Rattle.std.specs.Option.{option_or, unwrap_or}
use Rattle.j39_id.specs.declared.ident.Ident.{Ident}
use Rattle.j39_log.specs.LogPairs.{Seen, is_heard_by}
use Rattle.j39_tp.specs.Carried.{chunks_to}
use Rattle.j39_tp.specs.Chunks.{packets_of}
use Rattle.j39_tp.specs.declared.packet.Packet.{Packet}
use Rattle.j39_tp.specs.declared.packet.Packet.TheVariants.{Rts, Cts, EndAck, Bam, Abort, Dt}

-- ---- the packets of one pair

-- a packet is of the messages from one address to another: it is sent from the one to the other, it is an Abort either way round, or the other
-- one says by it that it has a message whole
abbrev pub is_of_way : ℕ → ℕ → Ident → Packet → Bool
is_of_way source destination i (EndAck size pgn) = i.ps == source && i.sa == destination
is_of_way source destination i p = is_heard_by source destination i p

abbrev pub way_packet : ℕ → ℕ → Ident → Option Packet → List Packet
way_packet source destination i (Some p) = if is_of_way source destination i p then p ∷ [] else []
way_packet source destination i None = []

-- all packets of the messages from one address to another, in order
unfoldable pub way_packets : ℕ → ℕ → List Seen → List Packet
way_packets source destination [] = []
way_packets source destination (seen ∷ rest) =
    way_packet source destination seen.frame.ident seen.packet ++ way_packets source destination rest

-- ---- a message

-- a packet that neither announces a message nor ends one of this PGN
abbrev pub KeepsOpen : ℕ → Packet → Type 0
KeepsOpen pgn (Rts size limit named) = ⊥
KeepsOpen pgn (Bam size named) = ⊥
KeepsOpen pgn (Abort reason named) = named ≢ pgn
KeepsOpen pgn (EndAck size named) = named ≢ pgn
KeepsOpen pgn _ = Unit {0}

-- what came last of the data packet of a number
abbrev pub chunk_in : ℕ → Packet → Option (List ℕ)
chunk_in k (Dt number chunk) = if number == k then Some chunk else None
chunk_in k _ = None

abbrev pub last_chunk : ℕ → List Packet → Option (List ℕ)
last_chunk k [] = None
last_chunk k (p ∷ rest) = option_or (last_chunk k rest) (chunk_in k p)

-- data packets 1 to k stand there in order
abbrev pub ComesInOrder : List Packet → ℕ → Type 0
ComesInOrder packets zero = Unit {0}
ComesInOrder packets (suc k) = (front : List Packet) × (chunk : List ℕ) × (back : List Packet)
    × (packets ≡ front ++ Dt (suc k) chunk ∷ back) × ComesInOrder front k

-- so many packets were announced last, and these came since, none of which ends the message
pub record IsAnnounced (h : List Packet) (size pgn : ℕ) (since : List Packet) : Type 0 where
  pub before : List Packet
  pub limit : ℕ
  pub row : h ≡ before ++ Rts size limit pgn ∷ since
  pub stays : All (KeepsOpen pgn) since

-- the bytes of each packet, as it came last
abbrev pub last_bytes : List Packet → ℕ → List ℕ
last_bytes since k = unwrap_or (last_chunk k since) []

-- behind these packets the receiver of a message of this size and PGN says that it has it whole. It was announced, and each of its packets
-- came since, though not in order (of one whose packets come in order the last one reports); of each packet the bytes count that came last
pub record IsReceived (h : List Packet) (size pgn : ℕ) (message : List ℕ) : Type 0 where
  pub since : List Packet
  pub announced : IsAnnounced h size pgn since
  pub disordered : ¬ ComesInOrder since (packets_of size)
  pub came : (k : ℕ) → k < packets_of size → is_some (last_chunk (suc k) since) ≡ true
  pub bytes : message ≡ take size (chunks_to (last_bytes since) (packets_of size))

-- the bytes that it has, or it has none
abbrev pub IsReceivedOr : List Packet → ℕ → ℕ → Option (List ℕ) → Type 0
IsReceivedOr h size pgn (Some message) = IsReceived h size pgn message
IsReceivedOr h size pgn None = (message : List ℕ) → ¬ IsReceived h size pgn message

-- ---- its way

-- the other way round
abbrev pub turned : Ident → Ident
turned i = record i { ps = i.sa; sa = i.ps; ps_range = i.sa_range; sa_range = i.ps_range }

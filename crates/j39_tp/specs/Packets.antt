-- The eight bytes of each transport packet (SAE J1939-21, connection management and data transfer).
use Rattle.std.specs.Prelude.{◌≡◌, ℕ, ◌+◌, ◌*◌, ◌/◌, ◌%◌, ◌<◌, ◌==◌, ◌||◌, ◌&&◌, not, nat_lt, nat_le, Bool, true, false, List, [], ◌∷◌, length, slice_index}
use Rattle.j39_id.specs.Limits.{frame_bytes, packet_bytes, message_bytes}
use Rattle.j39_id.specs.Pgn.{IsPgn, is_pgn, number_from, pgn_bytes}
use Rattle.j39_tp.specs.Chunks.{IsSize, packets_of, unused}
use Rattle.j39_tp.specs.declared.packet.Packet.{Packet}
use Rattle.j39_tp.specs.declared.packet.Packet.TheVariants.{Rts, Cts, EndAck, Bam, Abort, Dt}
use Rattle.j39_tp.specs.declared.packet.packet_error.PacketError.{PacketError}
use Rattle.j39_tp.specs.declared.packet.packet_error.PacketError.TheVariants.{Length, Control, Size, Count, Number, Group}

-- ---- what is sent

-- the first byte of each packet of connection management
abbrev pub rts_control : ℕ
rts_control = 16

abbrev pub cts_control : ℕ
cts_control = 17

abbrev pub end_control : ℕ
end_control = 19

abbrev pub bam_control : ℕ
bam_control = 32

abbrev pub abort_control : ℕ
abort_control = 255

-- the limit of an RTS that lets any number of packets be sent for each CTS
abbrev pub no_limit : ℕ
no_limit = 255

-- the size of a message, least significant byte first, and its number of packets
abbrev pub size_bytes : ℕ → List ℕ → List ℕ
size_bytes size rest = size % 256 ∷ size / 256 ∷ packets_of size ∷ rest

-- the bytes of a packet
abbrev pub data_of : Packet → List ℕ
data_of (Rts size limit pgn) = rts_control ∷ size_bytes size (limit ∷ pgn_bytes pgn)
data_of (Cts count first pgn) = cts_control ∷ count ∷ first ∷ unused ∷ unused ∷ pgn_bytes pgn
data_of (EndAck size pgn) = end_control ∷ size_bytes size (unused ∷ pgn_bytes pgn)
data_of (Bam size pgn) = bam_control ∷ size_bytes size (unused ∷ pgn_bytes pgn)
data_of (Abort reason pgn) = abort_control ∷ reason ∷ unused ∷ unused ∷ unused ∷ pgn_bytes pgn
data_of (Dt number chunk) = number ∷ chunk

-- a packet that can be read again: no packet is given the number 0
abbrev pub IsReadable : Packet → Type 0
IsReadable (Cts count first pgn) = 0 < count → 0 < first
IsReadable (Dt number chunk) = 0 < number
IsReadable _ = Unit {0}

-- the ranges of a packet's parts
abbrev pub InRange : Packet → Type 0
InRange (Rts size limit pgn) = IsSize size × IsPgn pgn
InRange (Cts count first pgn) = IsPgn pgn
InRange (EndAck size pgn) = IsSize size × IsPgn pgn
InRange (Bam size pgn) = IsSize size × IsPgn pgn
InRange (Abort reason pgn) = IsPgn pgn
InRange (Dt number chunk) = length chunk ≡ packet_bytes

-- it announces a message
abbrev pub is_announcement : Packet → Bool
is_announcement (Rts size limit pgn) = true
is_announcement (Bam size pgn) = true
is_announcement _ = false

-- ---- what is read

-- the size and the PGN that stand in the bytes of a connection management packet
abbrev pub size_in : List ℕ → ℕ
size_in bytes = slice_index bytes 1 + 256 * slice_index bytes 2

abbrev pub pgn_in : List ℕ → ℕ
pgn_in bytes = number_from bytes 5

-- the bytes give the size of a message and its number of packets
pub record GivesSize (bytes : List ℕ) (size : ℕ) : Type 0 where
  pub size_is : size_in bytes ≡ size
  pub packets_are : slice_index bytes 3 ≡ packets_of size
  pub size_fits : IsSize size

-- the bytes are those of a connection management packet; unused ones may have any value
abbrev pub ManagementFields : List ℕ → Packet → Type 0
ManagementFields bytes (Rts size limit pgn) = (slice_index bytes 0 ≡ rts_control) × GivesSize bytes size × (slice_index bytes 4 ≡ limit) × (pgn_in bytes ≡ pgn)
ManagementFields bytes (Cts count first pgn) = (slice_index bytes 0 ≡ cts_control) × (slice_index bytes 1 ≡ count) × (slice_index bytes 2 ≡ first)
    × (0 < count → 0 < first) × (pgn_in bytes ≡ pgn)
ManagementFields bytes (EndAck size pgn) = (slice_index bytes 0 ≡ end_control) × GivesSize bytes size × (pgn_in bytes ≡ pgn)
ManagementFields bytes (Bam size pgn) = (slice_index bytes 0 ≡ bam_control) × GivesSize bytes size × (pgn_in bytes ≡ pgn)
ManagementFields bytes (Abort reason pgn) = (slice_index bytes 0 ≡ abort_control) × (slice_index bytes 1 ≡ reason) × (pgn_in bytes ≡ pgn)
ManagementFields bytes (Dt number chunk) = ⊥

pub record ManagementReads (bytes : List ℕ) (p : Packet) : Type 0 where
  pub eight : length bytes ≡ 8
  pub fields : ManagementFields bytes p
  pub pgn : IsPgn (pgn_in bytes)

-- the bytes are those of a data packet
abbrev pub DataFields : List ℕ → Packet → Type 0
DataFields bytes (Dt number chunk) = (bytes ≡ number ∷ chunk) × (0 < number)
DataFields bytes _ = ⊥

pub record DataReads (bytes : List ℕ) (p : Packet) : Type 0 where
  pub eight : length bytes ≡ 8
  pub fields : DataFields bytes p

-- ---- what is refused

abbrev pub is_size : ℕ → Bool
is_size n = nat_lt frame_bytes n && nat_le n message_bytes

-- the first bytes of connection management packets, and those of them that give a size
abbrev pub is_control : ℕ → Bool
is_control c = c == rts_control || (c == cts_control || (c == end_control || (c == bam_control || c == abort_control)))

abbrev pub gives_size : ℕ → Bool
gives_size c = c == rts_control || (c == end_control || c == bam_control)

-- the refusals of a connection management packet, in their order
abbrev pub management_faults : List ℕ → List (PacketError × Bool)
management_faults bytes =
    (Length, not (length bytes == 8))
    ∷ (Control, not (is_control (slice_index bytes 0)))
    ∷ (Size, gives_size (slice_index bytes 0) && not (is_size (size_in bytes)))
    ∷ (Count, gives_size (slice_index bytes 0) && not (slice_index bytes 3 == packets_of (size_in bytes)))
    ∷ (Number, slice_index bytes 0 == cts_control && (nat_lt 0 (slice_index bytes 1) && slice_index bytes 2 == 0))
    ∷ (Group, not (is_pgn (pgn_in bytes)))
    ∷ []

-- the refusals of a data packet, in their order
abbrev pub data_faults : List ℕ → List (PacketError × Bool)
data_faults bytes = (Length, not (length bytes == 8)) ∷ (Number, slice_index bytes 0 == 0) ∷ []

-- ---- laws

-- a packet of connection management
abbrev pub IsManagement : Packet → Type 0
IsManagement (Dt number chunk) = ⊥
IsManagement _ = Unit {0}

-- the bytes of a packet that can be read again are that packet's
abbrev pub ManagementReadsBack : Type 0
ManagementReadsBack = (p : Packet) → IsManagement p → InRange p → IsReadable p → ManagementReads (data_of p) p

abbrev pub DataReadsBack : Type 0
DataReadsBack = (number : ℕ) (chunk : List ℕ) → InRange (Dt number chunk) → IsReadable (Dt number chunk)
    → DataReads (data_of (Dt number chunk)) (Dt number chunk)

-- bytes are at most one packet of connection management, and at most one of data
abbrev pub AreOneManagement : Type 0
AreOneManagement = (bytes : List ℕ) (p q : Packet) → ManagementReads bytes p → ManagementReads bytes q → p ≡ q

abbrev pub AreOneData : Type 0
AreOneData = (bytes : List ℕ) (p q : Packet) → DataReads bytes p → DataReads bytes q → p ≡ q

-- Messages that a list of packets of one pair carries, by places in the whole list (SAE J1939-21, transport protocol
-- functions; that a newer announcement of a pair replaces the older one is a rule of our own).
use Rattle.std.specs.Prelude.{◌≡◌, ◌≢◌, ℕ, zero, suc, ◌<◌, List, [], ◌++◌, take, slice_get, Option, Some, None}
use Rattle.j39_tp.specs.Chunks.{IsSize, packets_of}
use Rattle.j39_tp.specs.Packets.{InRange}
use Rattle.j39_tp.specs.Receiver.{Receiving, fresh, receives, hears}
use Rattle.j39_tp.specs.declared.receiving.heard.Heard.TheVariants as heard
use Rattle.j39_tp.specs.declared.receiving.manner.Manner.TheVariants.{Listening}
use Rattle.j39_tp.specs.declared.packet.Packet.{Packet}
use Rattle.j39_tp.specs.declared.packet.Packet.TheVariants.{Rts, Bam, Abort, Dt}
use Rattle.j39_tp.specs.declared.receiving.progress.Progress.TheVariants.{Complete}
use Rattle.j39_tp.specs.declared.receiving.reception.ReceptionKind.{ReceptionKind}
use Rattle.j39_tp.specs.declared.receiving.reception.ReceptionKind.TheVariants.{Broadcast, Directed}

-- the packet announces a message of this PGN and size, to all or to one
abbrev pub Announces : Packet → ReceptionKind → ℕ → ℕ → Type 0
Announces (Bam size named) Broadcast pgn n = (named ≡ pgn) × (size ≡ n)
Announces (Rts size limit named) Directed pgn n = (named ≡ pgn) × (size ≡ n)
Announces _ _ pgn n = ⊥

-- a data packet that may stand where packet k is awaited: another one, and after a BAM none that comes later
abbrev pub MayPass : ReceptionKind → ℕ → ℕ → Type 0
MayPass Directed k number = number ≢ k
MayPass Broadcast k number = number < k

-- between two places no data packet is the awaited one, nor, after a BAM, one that comes later
abbrev pub Awaits : List Packet → ReceptionKind → ℕ → ℕ → ℕ → Type 0
Awaits h kind k from to =
    (j number : ℕ) → (chunk : List ℕ) → from < j → j < to → slice_get h j ≡ Some (Dt number chunk) → MayPass kind k number

-- data packet k with this chunk stands at a place, the first of its number after the place before
pub record IsNext (h : List Packet) (kind : ReceptionKind) (k before place : ℕ) (chunk : List ℕ) : Type 0 where
  pub later : before < place
  pub stands : slice_get h place ≡ Some (Dt k chunk)
  pub first : Awaits h kind k before place

-- chunks 1 to k, one after another
abbrev pub chunks_to : (ℕ → List ℕ) → ℕ → List ℕ
chunks_to chunk zero = []
chunks_to chunk (suc k) = chunks_to chunk k ++ chunk (suc k)

-- a packet that leaves a session open: no announcement, and for a message to one no Abort of its PGN
abbrev pub Leaves : ReceptionKind → ℕ → Packet → Type 0
Leaves kind pgn (Bam size named) = ⊥
Leaves kind pgn (Rts size limit named) = ⊥
Leaves Directed pgn (Abort reason named) = named ≢ pgn
Leaves kind pgn _ = Unit {0}

-- all packets between two places do
abbrev pub IsUndisturbed : List Packet → ReceptionKind → ℕ → ℕ → ℕ → Type 0
IsUndisturbed h kind pgn from to = (j : ℕ) → (p : Packet) → from < j → j < to → slice_get h j ≡ Some p → Leaves kind pgn p

-- the list carries the message: its announcement stands at place 0 of a row of places, data packet k + 1 at the first
-- place for it after that of packet k, and the last at this place; nothing between ends the session
pub record Carried (h : List Packet) (place pgn : ℕ) (message : List ℕ) : Type 0 where
  pub kind : ReceptionKind
  pub size : ℕ
  pub announcement : Packet
  pub at : ℕ → ℕ
  pub chunk : ℕ → List ℕ
  pub announced : slice_get h (at 0) ≡ Some announcement
  pub announces : Announces announcement kind pgn size
  pub fits : IsSize size
  pub carries : (k : ℕ) → k < packets_of size → IsNext h kind (suc k) (at k) (at (suc k)) (chunk (suc k))
  pub last : at (packets_of size) ≡ place
  pub undisturbed : IsUndisturbed h kind pgn (at 0) place
  pub bytes : message ≡ take size (chunks_to chunk (packets_of size))

-- ---- a listener that hears the list from closed

abbrev pub receives_any : Receiving → Option Packet → Receiving
receives_any s None = s
receives_any s (Some p) = receives s p

-- a listener once it heard the packets before this place
abbrev pub listened : List Packet → ℕ → Receiving
listened h zero = fresh Listening
listened h (suc q) = receives_any (listened h q) (slice_get h q)

-- at this place it completes this message
pub record CompletesAt (h : List Packet) (place pgn : ℕ) (message : List ℕ) : Type 0 where
  pub packet : Packet
  pub stands : slice_get h place ≡ Some packet
  pub stated : (hears Listening (listened h place).progress packet).1 ≡ heard.Complete
  pub pgn_is : (listened h (suc place)).progress ≡ Complete pgn
  pub bytes_are : (listened h (suc place)).bytes ≡ message

-- the parts of all packets of a list are in their ranges
abbrev pub AreInRange : List Packet → Type 0
AreInRange h = (j : ℕ) → (p : Packet) → slice_get h j ≡ Some p → InRange p

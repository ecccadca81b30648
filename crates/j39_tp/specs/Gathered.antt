-- What a receiver has of the packets that it heard, in any manner: the whole list of them is its history (SAE J1939-21,
-- transport protocol functions; that a newer announcement replaces the older one is a rule of our own).
use Rattle.std.specs.Prelude.{◌≡◌, ℕ, zero, suc, ◌<◌, List, [], ◌++◌, length, take, slice_get, Some}
use Rattle.j39_tp.specs.Chunks.{IsSize}
use Rattle.j39_tp.specs.Receiver.{Receiving, message_of}
use Rattle.j39_tp.specs.Carried.{Announces, Awaits, IsUndisturbed, Carried}
use Rattle.j39_tp.specs.declared.packet.Packet.{Packet}
use Rattle.j39_tp.specs.declared.packet.Packet.TheVariants.{Dt}
use Rattle.j39_tp.specs.declared.receiving.progress.Progress.{Progress}
use Rattle.j39_tp.specs.declared.receiving.progress.Progress.TheVariants.{Open, Complete}
use Rattle.j39_tp.specs.declared.receiving.reception.ReceptionKind.{ReceptionKind}
use Rattle.j39_tp.specs.declared.receiving.reception.Reception.{Reception}

-- data packets 1 to k stand in order after the announcement, each the first of its number after the one before;
-- the last at this place, and these are their chunks
abbrev pub Reaches : List Packet → ReceptionKind → ℕ → ℕ → ℕ → List ℕ → Type 0
Reaches h kind start zero place chunks = (place ≡ start) × (chunks ≡ [])
Reaches h kind start (suc k) place chunks =
    (before : ℕ) × (front : List ℕ) × (chunk : List ℕ) × Reaches h kind start k before front
    × (before < place) × Awaits h kind (suc k) before place
    × (slice_get h place ≡ Some (Dt (suc k) chunk)) × (chunks ≡ front ++ chunk)

-- the history announces the session, carries its packets in order up to the last that is held, and has nothing since
-- that is the next or ends the session; the bytes are those of the packets, at most those of the message
pub record Gathered (h : List Packet) (r : Reception) (bytes : List ℕ) : Type 0 where
  pub start : ℕ
  pub place : ℕ
  pub chunks : List ℕ
  pub announcement : Packet
  pub announced : slice_get h start ≡ Some announcement
  pub announces : Announces announcement r.kind r.pgn r.size
  pub fits : IsSize r.size
  pub reaches : Reaches h r.kind start r.held place chunks
  pub awaits : Awaits h r.kind (suc r.held) place (length h)
  pub undisturbed : IsUndisturbed h r.kind r.pgn start (length h)
  pub bytes_are : bytes ≡ take r.size chunks

-- a receiver that stands so has what its history carries of the open session
abbrev pub Gathers : List Packet → Progress → List ℕ → Type 0
Gathers h (Open r) bytes = Gathered h r bytes
Gathers h _ bytes = Unit {0}

-- a receiver that holds the message that the list carries at this place
pub record HoldsCarried (h : List Packet) (place : ℕ) (s : Receiving) : Type 0 where
  pub pgn : ℕ
  pub complete : s.progress ≡ Complete pgn
  pub carried : Carried h place pgn (message_of s.progress s.bytes)

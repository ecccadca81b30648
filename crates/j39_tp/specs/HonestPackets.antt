-- What a sender that keeps to one message puts on the bus after its announcement.
use Rattle.std.specs.Prelude.{◌≡◌, ℕ, ◌<◌, List, [], ◌∷◌, ◌++◌, length, slice_get, Some}
use Rattle.j39_tp.specs.Chunks.{chunk}
use Rattle.j39_tp.specs.Carried.{Carried}
use Rattle.j39_tp.specs.Sender.{announcement}
use Rattle.j39_tp.specs.declared.packet.Packet.{Packet}
use Rattle.j39_tp.specs.declared.packet.Packet.TheVariants.{Rts, Bam, Dt}
use Rattle.j39_tp.specs.declared.sending.dest.Dest.{Dest}

-- the packet is the announcement of the message
abbrev pub AnnouncesMessage : ℕ → List ℕ → Packet → Type 0
AnnouncesMessage pgn bytes p = (dest : Dest) × (p ≡ announcement dest pgn (length bytes))

-- the packet goes on with the message: it announces nothing, and if it is data it has the message's chunk of its number
abbrev pub GoesOn : List ℕ → Packet → Type 0
GoesOn bytes (Rts size limit pgn) = ⊥
GoesOn bytes (Bam size pgn) = ⊥
GoesOn bytes (Dt number seven) = seven ≡ chunk bytes number
GoesOn bytes _ = Unit {0}

-- the last announcement of a list is that of the message, and all after it goes on with it
pub record StatesLast (h : List Packet) (pgn : ℕ) (bytes : List ℕ) : Type 0 where
  pub start : ℕ
  pub dest : Dest
  pub announced : slice_get h start ≡ Some (announcement dest pgn (length bytes))
  pub after : (j : ℕ) → (p : Packet) → start < j → slice_get h j ≡ Some p → GoesOn bytes p

-- what such a list and a packet after it carry is that message
abbrev pub CarriesItsMessage : Type 0
CarriesItsMessage = (h : List Packet) (p : Packet) (pgn : ℕ) (bytes : List ℕ) → StatesLast h pgn bytes → GoesOn bytes p
    → (other : ℕ) (message : List ℕ) → Carried (h ++ p ∷ []) (length h) other message → (pgn ≡ other) × (message ≡ bytes)

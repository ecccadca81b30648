-- The listeners of pairs of addresses, and what they heard.
use Rattle.std.specs.Prelude.{◌≡◌, ◌==◌, ◌&&◌, ◌||◌, ◌<◌, Bool, if◌then◌else◌, ℕ, List, [], length, All}
use Rattle.std.specs.Prelude.{Box, Option, Some, None}
use Rattle.std.specs.declared.alloc.Global.{Global}
use Rattle.std.specs.declared.vec.Vec.{Vec}
use Rattle.std.specs.List.{slice_get}
use Rattle.j39_tp.specs.Carried.{listened}
use Rattle.j39_tp.specs.Packets.{InRange}
use Rattle.j39_tp.specs.Receiver.{Receiving, fresh, hears, is_complete, pgn_at, receives}
use Rattle.j39_tp.specs.declared.receiving.manner.Manner.TheVariants.{Listening}
use Rattle.j39_tp.specs.declared.packet.Packet.{Packet}
use Rattle.j39_log.specs.LogPairs.{Seen, heard}

-- the parts of a packet, if there is one, are in their ranges
abbrev pub IsInRange : Option Packet → Type 0
IsInRange (Some p) = InRange p
IsInRange None = Unit {0}

-- the packet completes a message of a receiver
abbrev pub completes : Receiving → Packet → Bool
completes s p = is_complete (hears s.manner s.progress p).1

-- the group of the message that it completes, if it completes one
abbrev pub completed_group : Receiving → Packet → Option ℕ
completed_group s p = if completes s p then pgn_at (receives s p).progress else None

-- a place for the listener of a pair, and the places of one source
abbrev pub ListenerSlot : Type 0
ListenerSlot = Option (Box Receiving Global)

abbrev pub ListenerRow : Type 0
ListenerRow = Vec ListenerSlot Global

-- the listener in a slot: in an empty one, a listener that opened nothing
abbrev pub listener_in : ListenerSlot → Receiving
listener_in None = fresh Listening
listener_in (Some b) = b.value

abbrev pub listener_of : Option ListenerSlot → Receiving
listener_of None = fresh Listening
listener_of (Some slot) = listener_in slot

abbrev pub listener_at : List ListenerSlot → ℕ → Receiving
listener_at slots destination = listener_of (slice_get slots destination)

abbrev pub slots_of : Option ListenerRow → List ListenerSlot
slots_of None = []
slots_of (Some row) = row.items

-- the places of a source: none behind the last row
abbrev pub slots_at : List ListenerRow → ℕ → List ListenerSlot
slots_at rows source = slots_of (slice_get rows source)

-- the listener of a pair
abbrev pub listener_of_pair : List ListenerRow → ℕ → ℕ → Receiving
listener_of_pair rows source destination = listener_at (slots_at rows source) destination

-- there is a listener at this place
abbrev pub HasListener : List ListenerSlot → ℕ → Type 0
HasListener slots destination = (b : Box Receiving Global) × (slice_get slots destination ≡ Some (Some b))

-- these are the two addresses of the pair
abbrev pub is_pair : ℕ → ℕ → ℕ → ℕ → Bool
is_pair source destination s d = source == s && destination == d

-- the address is one of the pair
abbrev pub is_of_pair : ℕ → ℕ → ℕ → Bool
is_of_pair address s d = address == s || address == d

-- a listener that heard all of these packets
abbrev pub after_all : List Packet → Receiving
after_all h = listened h (length h)

-- each listener heard what its pair heard
abbrev pub HaveHeard : List ListenerRow → List Seen → Type 0
HaveHeard rows seen =
    (source destination : ℕ) → source < 256 → destination < 256
    → listener_of_pair rows source destination ≡ after_all (heard source destination seen)

-- the parts of all packets are in their ranges
abbrev pub AreAllInRange : List Seen → Type 0
AreAllInRange seen = All (λ (s : Seen). IsInRange s.packet) seen

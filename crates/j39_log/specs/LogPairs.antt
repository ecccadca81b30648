-- What each pair of addresses of a log heard: a list of packets from a source to a destination.
use Rattle.std.specs.Prelude.{ℕ, ◌==◌, ◌||◌, ◌&&◌, Bool, true, false, if◌then◌else◌, List, [], ◌∷◌, ◌++◌, Option, Some, None}
use Rattle.j39_id.specs.declared.frame.Frame.{Frame}
use Rattle.j39_id.specs.declared.ident.Ident.{Ident}
use Rattle.j39_tp.specs.declared.packet.Packet.{Packet}
use Rattle.j39_tp.specs.declared.packet.Packet.TheVariants.{Abort}

-- a frame of a log, and the transport packet that is heard of it, if it is one
pub record Seen : Type 0 where
  pub frame : Frame
  pub packet : Option Packet

abbrev pub is_abort : Packet → Bool
is_abort (Abort reason pgn) = true
is_abort _ = false

-- a packet is heard by the pair that it is sent from and to, and an Abort also by the pair the other way round
abbrev pub is_heard_by : ℕ → ℕ → Ident → Packet → Bool
is_heard_by source destination i p =
    (i.sa == source && i.ps == destination) || (is_abort p && (i.ps == source && i.sa == destination))

abbrev pub heard_of : ℕ → ℕ → Ident → Option Packet → List Packet
heard_of source destination i (Some p) = if is_heard_by source destination i p then p ∷ [] else []
heard_of source destination i None = []

-- all packets that a pair heard, in order
unfoldable pub heard : ℕ → ℕ → List Seen → List Packet
heard source destination [] = []
heard source destination (seen ∷ rest) =
    heard_of source destination seen.frame.ident seen.packet ++ heard source destination rest

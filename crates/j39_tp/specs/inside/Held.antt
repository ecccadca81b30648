-- What a receiver holds while a session is open: the invariant of its bytes.
use Rattle.std.specs.Prelude.{ℕ, ◌+◌, ◌*◌, ◌==◌, ◌&&◌, nat_lt, Bool, true, if◌then◌else◌, List, length, Option, Some, None}
use Rattle.j39_id.specs.Limits.{packet_bytes}
use Rattle.j39_tp.specs.Chunks.{packets_of}
use Rattle.j39_tp.specs.declared.packet.Packet.{Packet}
use Rattle.j39_tp.specs.declared.packet.Packet.TheVariants.{Dt}
use Rattle.j39_tp.specs.declared.receiving.progress.Progress.{Progress}
use Rattle.j39_tp.specs.declared.receiving.progress.Progress.TheVariants.{Closed, Open, Complete}

-- an open session lacks a packet, and has seven bytes of each that is held
abbrev pub is_within : Progress → Bool
is_within (Open r) = nat_lt r.held (packets_of r.size)
is_within _ = true

abbrev pub is_held_at : Progress → List ℕ → Bool
is_held_at (Open r) bytes = length bytes == packet_bytes * r.held
is_held_at Closed bytes = length bytes == 0
is_held_at (Complete pgn) bytes = true

-- the size of the message whose last packet this is
abbrev pub last_size : Progress → Packet → Option ℕ
last_size (Open r) (Dt number chunk) = if number == r.held + 1 && r.held + 1 == packets_of r.size then Some r.size else None
last_size _ packet = None

-- Sizes of messages and their chunks (SAE J1939-21, transport protocol functions).
use Rattle.std.specs.Prelude.{ℕ, ◌+◌, ◌-◌, ◌*◌, ◌/◌, ◌<◌, ◌≤◌, List, ◌++◌, length, take, drop, replicate}
use Rattle.j39_id.specs.Limits.{frame_bytes, packet_bytes, message_bytes}

-- a message has more bytes than a frame has room for: 9 to 1785
pub record IsSize (size : ℕ) : Type 0 where
  pub above : frame_bytes < size
  pub within : size ≤ message_bytes

-- how many packets carry so many bytes: one for each seven begun
abbrev pub packets_of : ℕ → ℕ
packets_of size = (size + (packet_bytes - 1)) / packet_bytes

-- the bytes of a message that packet k carries, k from 1
abbrev pub part : List ℕ → ℕ → List ℕ
part bytes k = take packet_bytes (drop (packet_bytes * (k - 1)) bytes)

-- what stands in a byte that says nothing
abbrev pub unused : ℕ
unused = 255

-- chunk k of a message: its part, filled up to seven bytes
abbrev pub chunk : List ℕ → ℕ → List ℕ
chunk bytes k = part bytes k ++ replicate (packet_bytes - length (part bytes k)) unused

-- a message: its PGN and its bytes
pub record MessageParts : Type 0 where
  pub pgn : ℕ
  pub bytes : List ℕ

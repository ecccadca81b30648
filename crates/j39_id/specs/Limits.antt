-- How many bytes are sent at once (SAE J1939-21), and how many units a network has.
use Rattle.std.specs.Prelude.{ℕ}

-- the bytes that a frame has room for
abbrev pub frame_bytes : ℕ
frame_bytes = 8

-- the bytes of a message in each data packet of the transport protocol
abbrev pub packet_bytes : ℕ
packet_bytes = 7

-- the bytes of the longest message: those of 255 packets
abbrev pub message_bytes : ℕ
message_bytes = 1785

-- the most units of a network
abbrev pub unit_limit : ℕ
unit_limit = 128

-- The length of a frame with a 29-bit identifier (ISO 11898-1; Davis, Burns, Bril, Lukkien, Real-Time Systems 35, 2007).
use Rattle.std.specs.Prelude.{ℕ, ◌+◌, ◌*◌, ◌-◌, ◌/◌}

-- the bits from the start of the frame to its checksum, in which stuff bits may stand
abbrev pub stuffed : ℕ → ℕ
stuffed bytes = 54 + 8 * bytes

-- the delimiter of the checksum, the acknowledgement, the end of the frame and the intermission
abbrev pub trailer : ℕ
trailer = 13

-- with a stuff bit behind the first four bits and behind each four that follow
abbrev pub longest_frame : ℕ → ℕ
longest_frame bytes = stuffed bytes + (stuffed bytes - 1) / 4 + trailer

-- an error flag, its echo, the delimiter, the intermission and the eight bits for which a sender that saw errors holds back (Tindell, Burns,
-- Wellings, Control Engineering Practice 3, 1995)
abbrev pub error_frame : ℕ
error_frame = 6 + 6 + 8 + 3 + 8

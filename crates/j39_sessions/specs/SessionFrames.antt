-- What frames are to sessions of the transport protocol (SAE J1939-21, connection management and data transfer), by their groups and bytes.
use Rattle.std.specs.Prelude.{ℕ, ◌==◌, ◌&&◌, ◌||◌, not, nat_le, nat_lt, Bool, false, if◌then◌else◌, List, length, replicate, slice_index}
use Rattle.j39_id.specs.Addresses.{global_address, is_address}
use Rattle.j39_id.specs.Ident.{pgn_of}
use Rattle.j39_id.specs.Services.{connection_management, data_transfer}
use Rattle.j39_id.specs.declared.frame.Frame.{Frame}
use Rattle.j39_id.specs.declared.ident.Ident.{Ident}
use Rattle.j39_tp.specs.Chunks.{packets_of}
use Rattle.j39_tp.specs.Packets.{bam_control, cts_control, end_control, is_size, no_limit, pgn_in, rts_control, size_in}
use Rattle.j39_sessions.specs.declared.role.Clearance.{Clearance}
use Rattle.j39_sessions.specs.declared.role.Receipt.{Receipt}
use Rattle.j39_sessions.specs.declared.role.Role.{Role}
use Rattle.j39_sessions.specs.declared.role.Role.TheVariants.{Begins, Breaks, Clears, Acknowledges, Carries, Nothing}
use Rattle.j39_sessions.specs.declared.session.LoggedSession.{LoggedSession}

-- ---- bytes

-- there is a first byte, and it is this one
abbrev pub begins_with : ℕ → List ℕ → Bool
begins_with control bytes = nat_lt 0 (length bytes) && slice_index bytes 0 == control

abbrev pub is_whole_control : ℕ → List ℕ → Bool
is_whole_control control bytes = length bytes == 8 && begins_with control bytes

-- ---- announcements

-- an RTS or a BAM, by its first byte
abbrev pub announces : List ℕ → Bool
announces bytes = begins_with rts_control bytes || begins_with bam_control bytes

-- the size of a message, 9 to 1785 bytes, and its number of packets
abbrev pub has_size : List ℕ → Bool
has_size bytes = is_size (size_in bytes) && slice_index bytes 3 == packets_of (size_in bytes)

abbrev pub states_size : List ℕ → Bool
states_size bytes = length bytes == 8 && has_size bytes

-- an RTS goes to another address up to 253, a BAM to all
abbrev pub goes_rightly : Ident → List ℕ → Bool
goes_rightly i bytes = if begins_with rts_control bytes then is_address i.ps && not (i.ps == i.sa) else i.ps == global_address

abbrev pub is_right : Ident → List ℕ → Bool
is_right i bytes = states_size bytes && goes_rightly i bytes

-- a frame announces nothing, or as an announcement may
abbrev pub announces_rightly : Frame → Bool
announces_rightly f = not (pgn_of f.ident == connection_management) || (not (announces f.payload.items) || is_right f.ident f.payload.items)

-- the most packets that a CTS may clear
abbrev pub limit_in : ℕ → ℕ
limit_in fifth = if fifth == 0 then no_limit else fifth

-- how many numbers a packet may have, as a byte gives them
abbrev pub numbers : ℕ
numbers = 256

-- the session that an RTS begins: no CTS has cleared a packet of it, and none was sent
abbrev pub session_opened : List ℕ → LoggedSession
session_opened bytes = record {
  group = pgn_in bytes;
  size = size_in bytes;
  count = slice_index bytes 3;
  limit = limit_in (slice_index bytes 4);
  greatest = 0;
  sent = replicate numbers false;
}

-- an announcement that isn't right breaks off what is known; an RTS that is begins a session, from an address up to 253
abbrev pub announcement_role : Ident → List ℕ → Role
announcement_role i bytes =
    if not (is_right i bytes) then Breaks
    else if begins_with rts_control bytes && is_address i.sa then Begins (session_opened bytes) else Nothing

-- ---- what receivers send

-- a CTS that clears a packet or more; one that clears none holds the sender
abbrev pub clears : List ℕ → Bool
clears bytes = is_whole_control cts_control bytes && nat_le 1 (slice_index bytes 1)

abbrev pub clearance_in : List ℕ → Clearance
clearance_in bytes = record { group = pgn_in bytes; count = slice_index bytes 1; first = slice_index bytes 2 }

-- an acknowledgement of a whole message
abbrev pub receipt_of : List ℕ → Receipt
receipt_of bytes = record { group = pgn_in bytes; size = size_in bytes; count = slice_index bytes 3 }

-- ---- frames

abbrev pub management_role : Ident → List ℕ → Role
management_role i bytes =
    if announces bytes then announcement_role i bytes
    else if clears bytes then Clears (clearance_in bytes)
    else if is_whole_control end_control bytes then Acknowledges (receipt_of bytes)
    else Nothing

-- a packet of the number that is its first byte
abbrev pub data_role : List ℕ → Role
data_role bytes = if nat_lt 0 (length bytes) then Carries (slice_index bytes 0) else Nothing

-- what a frame is to the sessions of two addresses
unfoldable pub role_of : Frame → Role
role_of f =
    if pgn_of f.ident == connection_management then management_role f.ident f.payload.items
    else if pgn_of f.ident == data_transfer then data_role f.payload.items
    else Nothing

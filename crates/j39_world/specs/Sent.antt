-- The frames about addresses: those of SAE J1939-81, address claimed and cannot claim address, and the request
-- for them. All go to the global address with one priority; the identifier's layout is that of SAE J1939-21.
use Rattle.std.specs.Prelude.{ℕ, List, Option, Some, None}
use Rattle.j39_id.specs.Addresses.{null_address, global_address}
use Rattle.j39_id.specs.Ident.{bits, identifier_of}
use Rattle.j39_id.specs.Name.{name_bytes}
use Rattle.j39_id.specs.Services.{request, address_claimed, claim_priority}
use Rattle.j39_id.specs.declared.frame.Frame.{Frame}
use Rattle.j39_id.specs.Pgn.{pgn_bytes}
use Rattle.j39_claim.specs.declared.item.Say.{Say}
use Rattle.j39_claim.specs.declared.item.Say.TheVariants.{Claim, Cannot}
use Rattle.j39_claim.specs.declared.item.Item.{Item}
use Rattle.j39_claim.specs.declared.item.Item.TheVariants.{AddressClaimed, Request}

-- a frame on the bus: the 29 bits of its identifier and its bytes
pub record Sent : Type 0 where
  pub identifier : ℕ
  pub payload : List ℕ

-- the address that a unit sends from: the null address where it holds none
abbrev pub source_of : Option ℕ → ℕ
source_of None = null_address
source_of (Some a) = a

-- the address that a unit says that it claims
abbrev pub claimed_by : Say → Option ℕ
claimed_by (Claim a) = Some a
claimed_by Cannot = None

-- the identifier of such a group
abbrev pub to_all : ℕ → ℕ → ℕ
to_all pgn source = identifier_of claim_priority pgn global_address source

-- the frame of an item that a unit of this NAME sends which holds this address. A claim carries the NAME, a request the
-- PGN that is asked for, each with its least significant byte first
abbrev pub frame_of : ℕ → Option ℕ → Item → Sent
frame_of name held (AddressClaimed say) = record { identifier = to_all address_claimed (source_of (claimed_by say)); payload = name_bytes name }
frame_of name held Request = record { identifier = to_all request (source_of held); payload = pgn_bytes address_claimed }

-- a frame of the program, as it is on the bus
abbrev pub sent_of : Frame → Sent
sent_of f = record { identifier = bits f.ident; payload = f.payload.items }

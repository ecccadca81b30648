-- What a frame of the network itself says (SAE J1939-81, address claims; SAE J1939-21, requests).
use Rattle.std.specs.Prelude.{ℕ, Bool, ◌==◌, ◌&&◌, length}
use Rattle.j39_id.specs.Addresses.{is_address, null_address}
use Rattle.j39_id.specs.Ident.{pgn_of}
use Rattle.j39_id.specs.Name.{name_of_bytes}
use Rattle.j39_id.specs.Pgn.{number_of_bytes}
use Rattle.j39_id.specs.Services.{address_claimed, request}
use Rattle.j39_id.specs.declared.frame.Frame.{Frame}

-- ---- claims

-- the frame carries the NAME of a unit
abbrev pub carries_name : Frame → Bool
carries_name f = f.ident.edp == 0 && (pgn_of f.ident == address_claimed && length f.payload.items == 8)

-- a unit claims the address that it sends from
abbrev pub claims_address : Frame → Bool
claims_address f = carries_name f && is_address f.ident.sa

-- a unit can't claim an address: it sends from the null address
abbrev pub cannot_claim : Frame → Bool
cannot_claim f = carries_name f && f.ident.sa == null_address

-- the NAME that a payload carries, least significant byte first
abbrev pub name_in : Frame → ℕ
name_in f = name_of_bytes f.payload.items

-- ---- requests

-- a unit asks for a group
abbrev pub requests_group : Frame → Bool
requests_group f = f.ident.edp == 0 && (pgn_of f.ident == request && length f.payload.items == 3)

-- the group that a payload requests, least significant byte first
abbrev pub requested_group : Frame → ℕ
requested_group f = number_of_bytes f.payload.items

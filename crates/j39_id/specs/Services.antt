-- The groups by which the network itself runs, by their numbers (SAE J1939-21 and SAE J1939-81).
use Rattle.std.specs.Prelude.{ℕ, ◌==◌, Bool, List, [], ◌∷◌}
use Rattle.std.specs.List.{list_any}

-- a positive or negative answer
abbrev pub acknowledgement : ℕ
acknowledgement = 59392

-- asks for a group, whose number it carries
abbrev pub request : ℕ
request = 59904

-- TP.DT: data of the transport protocol
abbrev pub data_transfer : ℕ
data_transfer = 60160

-- TP.CM: connection management of the transport protocol
abbrev pub connection_management : ℕ
connection_management = 60416

-- address claimed, and from the null address cannot claim address: both carry the NAME of the unit
abbrev pub address_claimed : ℕ
address_claimed = 60928

-- asks a unit to take another address
abbrev pub commanded_address : ℕ
commanded_address = 65240

-- the priority of a request and of an address claimed
abbrev pub claim_priority : ℕ
claim_priority = 6

-- the priority of TP.DT and TP.CM
abbrev pub transport_priority : ℕ
transport_priority = 7

-- all of them
abbrev pub service_groups : List ℕ
service_groups =
    acknowledgement ∷ request ∷ data_transfer ∷ connection_management ∷ address_claimed ∷ commanded_address ∷ []

-- the number of one of them
abbrev pub is_service : ℕ → Bool
is_service pgn = list_any (λ service. service == pgn) service_groups

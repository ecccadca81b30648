-- What each pair of addresses heard since one of the two last changed hands.
use Rattle.std.specs.Prelude.{◌≡◌, ◌<◌, ◌&&◌, ◌||◌, ◌==◌, ℕ, Bool, not, List, Some}
use Rattle.std.specs.Prelude.{◌++◌, Option}
use Rattle.std.specs.Option.{option_eq}
use Rattle.j39_id.specs.declared.frame.Frame.{Frame}
use Rattle.j39_network.specs.declared.plan.Plan.{Plan}
use Rattle.j39_log.specs.LogPairs.{Seen, heard_of}
use Rattle.j39_log.specs.PairListeners.{after_all, listener_of_pair}
use Rattle.j39_tp.specs.Receiver.{Receiving}
use Rattle.j39_tp.specs.declared.packet.Packet.{Packet}
use Rattle.j39_follow.specs.FollowText.{HeardSince}
use Rattle.j39_follow.specs.Received.{way_packet, way_packets}
use Rattle.j39_follow.specs.declared.pair.collected.Collected.{Collected}
use Rattle.j39_follow.specs.declared.pair.heard_pairs.HeardPairs.{HeardPairs}
use Rattle.j39_follow.specs.inside.Collecting.{IsCollectedOf, collected_between}
use Rattle.j39_follow.specs.Who.{IsReplaced, stranger_of, unit_of}
use Rattle.j39_follow.specs.declared.address.who.Who.{Who}
use Rattle.j39_follow.specs.inside.Recounting.{party_at}

abbrev pub listener_between : HeardPairs → ℕ → ℕ → Receiving
listener_between pairs source destination = listener_of_pair pairs.listeners.rows.items source destination

-- and what is kept of its packets in whatever order
abbrev pub kept_between : HeardPairs → ℕ → ℕ → Option Collected
kept_between pairs source destination = collected_between pairs.collections source destination

-- the listener of each pair heard what its pair heard since, and what is kept is of the packets since
pub record HasHeardSince (plan : Plan) (pairs : HeardPairs) (seen : List Seen) (source destination : ℕ) : Type 0 where
  pub packets : List Packet
  pub is : HeardSince plan seen source destination packets
  pub listener : listener_between pairs source destination ≡ after_all packets
  pub kept : IsCollectedOf (kept_between pairs source destination) (way_packets source destination is.since)

abbrev pub HaveHeardSince : Plan → HeardPairs → List Seen → Type 0
HaveHeardSince plan pairs seen = (source destination : ℕ) → source < 256 → destination < 256 → HasHeardSince plan pairs seen source destination

-- one frame more, and what its pair had heard since before that
pub record HasHeardOneMore (plan : Plan) (pairs : HeardPairs) (seen : List Seen) (x : Seen) (source destination : ℕ) : Type 0 where
  pub packets : List Packet
  pub is : HeardSince plan seen source destination packets
  pub listener : listener_between pairs source destination ≡ after_all (packets ++ heard_of source destination x.frame.ident x.packet)
  pub kept : IsCollectedOf (kept_between pairs source destination)
      (way_packets source destination is.since ++ way_packet source destination x.frame.ident x.packet)

abbrev pub HaveHeardOneMore : Plan → HeardPairs → List Seen → Seen → Type 0
HaveHeardOneMore plan pairs seen x =
    (source destination : ℕ) → source < 256 → destination < 256 → HasHeardOneMore plan pairs seen x source destination

-- ---- change of hands

abbrev pub is_same_number : Option ℕ → Option ℕ → Bool
is_same_number a b = option_eq (λ x y. x == y) a b

-- the two are one unit, one NAME, or both nobody
abbrev pub is_same_party : Who → Who → Bool
is_same_party a b = is_same_number (unit_of a) (unit_of b) && is_same_number (stranger_of a) (stranger_of b)

-- at a frame, after these, this address is the one that another NAME comes to hold, or there is none
pub record AreReplaced (frames : List Frame) (f : Frame) (replaced : Option ℕ) : Type 0 where
  pub one : (address : ℕ) → replaced ≡ Some address → IsReplaced frames f address
  pub only : (address : ℕ) → IsReplaced frames f address → replaced ≡ Some address

-- the address has another party, or this is the one that another NAME has come to hold
abbrev pub differs_at : List Who → List Who → Option ℕ → ℕ → Bool
differs_at old new replaced address =
    not (is_same_party (party_at old address) (party_at new address)) || is_same_number replaced (Some address)

-- one of the two addresses has
abbrev pub is_changed : List Who → List Who → Option ℕ → ℕ → ℕ → Bool
is_changed old new replaced source destination = differs_at old new replaced source || differs_at old new replaced destination

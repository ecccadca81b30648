-- What is kept of the packets of each pair, in whatever order they come.
use Rattle.std.specs.Prelude.{◌≡◌, ◌⊎◌, ℕ, suc, ◌+◌, ◌*◌, ◌<◌, ◌≤◌, ◌==◌, Bool, true, false, if◌then◌else◌, is_some, List, [], ◌++◌, length, slice_index_or, Option, Some, None}
use Rattle.std.specs.declared.alloc.Global.{Global}
use Rattle.std.specs.declared.vec.Vec.{Vec}
use Rattle.std.specs.Option.{unwrap_or}
use Rattle.std.specs.BTreeMap.{get}
use Rattle.std.specs.Ordering.{nat_cmp}
use Rattle.j39_tp.specs.Carried.{chunks_to}
use Rattle.j39_tp.specs.Chunks.{IsSize, packets_of}
use Rattle.j39_tp.specs.declared.packet.Packet.{Packet}
use Rattle.j39_tp.specs.declared.packet.Packet.TheVariants.{Abort, EndAck}
use Rattle.j39_follow.specs.Received.{ComesInOrder, IsAnnounced, last_chunk}
use Rattle.j39_follow.specs.declared.pair.collected.Collected.{Collected}
use Rattle.j39_follow.specs.declared.pair.collections.Collections.{Collections}

-- the packet is the one by which a receiver says that it has a message whole
abbrev pub reports_whole : Packet → Bool
reports_whole (EndAck size pgn) = true
reports_whole _ = false

-- the size and the PGN of the message of which it says so
abbrev pub receipt_in : Packet → Option (ℕ × ℕ)
receipt_in (EndAck size pgn) = Some (size, pgn)
receipt_in _ = None

-- the packet ends a message of this PGN
abbrev pub Closes : ℕ → Packet → Type 0
Closes pgn p = (x : ℕ) × ((p ≡ Abort x pgn) ⊎ (p ≡ EndAck x pgn))

-- what is kept of a packet
abbrev pub chunk_at : List (Option (List ℕ)) → ℕ → Option (List ℕ)
chunk_at chunks k = slice_index_or chunks k None

-- what is kept of a message that was announced is of these packets, the last of which is the pair's last
pub record IsCollected (c : Collected) (h : List Packet) : Type 0 where
  pub since : List Packet
  pub announced : IsAnnounced h c.size c.pgn since
  pub fits : IsSize c.size
  pub count : length c.chunks.items ≡ packets_of c.size + 1
  pub chunks : (k : ℕ) → k ≤ packets_of c.size → chunk_at c.chunks.items k ≡ last_chunk k since
  pub reached : ComesInOrder since c.held
  pub further : ¬ ComesInOrder since (suc c.held)
  pub less : c.held < packets_of c.size

-- no message is announced whose packets didn't come in order since
abbrev pub HasNoneOpen : List Packet → Type 0
HasNoneOpen h = (size pgn : ℕ) (since : List Packet) → IsAnnounced h size pgn since → ComesInOrder since (packets_of size)

abbrev pub IsCollectedOf : Option Collected → List Packet → Type 0
IsCollectedOf None h = HasNoneOpen h
IsCollectedOf (Some c) h = IsCollected c h

-- nothing yet of a message of this size and PGN
pub record IsOpened (size pgn : ℕ) (c : Collected) : Type 0 where
  pub size_is : c.size ≡ size
  pub pgn_is : c.pgn ≡ pgn
  pub none_held : c.held ≡ 0
  pub count : length c.chunks.items ≡ packets_of size + 1
  pub empty : (k : ℕ) → k ≤ packets_of size → chunk_at c.chunks.items k ≡ None

-- one packet more
pub record IsMoreOf (old : Collected) (number : ℕ) (chunk : List ℕ) (new : Collected) : Type 0 where
  pub size_is : new.size ≡ old.size
  pub pgn_is : new.pgn ≡ old.pgn
  pub held_is : new.held ≡ (if number == old.held + 1 then number else old.held)
  pub count : length new.chunks.items ≡ length old.chunks.items
  pub kept : (k : ℕ) → k < length old.chunks.items
      → chunk_at new.chunks.items k ≡ (if number == k then Some chunk else chunk_at old.chunks.items k)

-- ---- bytes

abbrev pub kept_bytes : List (Option (List ℕ)) → ℕ → List ℕ
kept_bytes chunks k = unwrap_or (chunk_at chunks k) []

-- packets 1 to this one came
abbrev pub CameTo : List (Option (List ℕ)) → ℕ → Type 0
CameTo chunks last = (k : ℕ) → k < last → is_some (chunk_at chunks (suc k)) ≡ true

-- the bytes of packets 1 to this one, or one of them didn't come
abbrev pub HasBytes : List (Option (List ℕ)) → ℕ → Option (Vec ℕ Global) → Type 0
HasBytes chunks last (Some bytes) = CameTo chunks last × (bytes.items ≡ chunks_to (kept_bytes chunks) last)
HasBytes chunks last None = (k : ℕ) × (k < last) × (chunk_at chunks (suc k) ≡ None)

-- ---- packets

-- the packets lead from what was kept to what is
abbrev pub CollectsOn : Option Collected → Option Collected → List Packet → Type 0
CollectsOn old new more = (h : List Packet) → IsCollectedOf old h → IsCollectedOf new (h ++ more)

-- what is kept of a pair
abbrev pub pair_key : ℕ → ℕ → ℕ
pair_key source destination = source * 256 + destination

abbrev pub collected_for : Collections → ℕ → Option Collected
collected_for collections key = get nat_cmp collections.kept key

abbrev pub collected_between : Collections → ℕ → ℕ → Option Collected
collected_between collections source destination = collected_for collections (pair_key source destination)

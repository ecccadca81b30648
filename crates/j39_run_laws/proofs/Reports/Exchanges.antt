-- What holds between a sender and a receiver, in every world of every run.
use Rattle.std.proofs.Common.{◌≡◌, ℕ, ◌⊎◌, Bool, false, if◌then◌else◌, List, [], ◌∷◌, ◌++◌, Option, Some, None}
use Rattle.std.specs.List.{AllByRecursion}
use Rattle.j39_tp.specs.Receiver.{is_open_at}
use Rattle.j39_tp.specs.declared.packet.Packet.{Packet}
use Rattle.j39_tp.specs.declared.packet.Packet.TheVariants.{EndAck}
use Rattle.j39_tp.specs.declared.receiving.progress.Progress.{Progress}
use Rattle.j39_world.specs.declared.wired.Wired.{Wired}
use Rattle.j39_world.specs.declared.wired.Wired.TheVariants as wired
use Rattle.j39_world.specs.Transfers.{Outgoing, Begun, is_among}
use Rattle.j39_world.specs.World.{World}
use Rattle.j39_world.specs.Sound.{IsSubsequence, reported}
use Rattle.j39_tp.specs.HonestPackets.{GoesOn, AnnouncesMessage, StatesLast}
use Rattle.j39_tp.proofs.Answering.{IsAnswer}

-- all that a world has between a sender and a receiver
pub record Pair : Type 0 where
  -- what the receiver has not taken yet
  pub wire : List Wired
  -- what the sender has not taken yet of the receiver
  pub back : List Wired
  pub receiver : Progress
  pub taken : List Packet
  pub begun : List Begun
  pub reports : List Begun

abbrev pub pair_of : World → ℕ → ℕ → Pair
pair_of w u v = record {
  wire = w.wire u v;
  back = w.wire v u;
  receiver = w.receivers v u;
  taken = w.taken v u;
  begun = w.begun u v;
  reports = reported w.reports v u;
}

-- what a sender sends to one of its receivers
pub record Message : Type 0 where
  pub pgn : ℕ
  pub begun : Begun

abbrev pub begun_of : Outgoing → Begun
begun_of s = record { flow = s.flow; bytes = s.bytes }

abbrev pub message_for : Bool → Outgoing → Option Message
message_for b s = if b then Some (record { pgn = s.pgn; begun = begun_of s }) else None

abbrev pub message_to : Option Outgoing → ℕ → Option Message
message_to None v = None
message_to (Some s) v = message_for (is_among s.targets v) s

-- ---- what is undelivered

-- it answers a message of the other direction, or was sent alone
abbrev pub IsAnswering : Wired → Type 0
IsAnswering (wired.Short bytes) = ⊥
IsAnswering (wired.Packet p) = IsAnswer p
IsAnswering (wired.Alone f bytes) = Unit {0}

-- it is no acknowledgement
abbrev pub IsUnacknowledging : Wired → Type 0
IsUnacknowledging (wired.Packet (EndAck size pgn)) = ⊥
IsUnacknowledging _ = Unit {0}

-- it is what the message begins with: all of it, or its announcement
abbrev pub Begins : Message → Wired → Type 0
Begins m (wired.Short bytes) = bytes ≡ m.begun.bytes
Begins m (wired.Packet p) = AnnouncesMessage m.pgn m.begun.bytes p
Begins m (wired.Alone f bytes) = ⊥

-- it may come after that
abbrev pub ComesAfter : Message → Wired → Type 0
ComesAfter m (wired.Short bytes) = ⊥
ComesAfter m (wired.Packet p) = GoesOn m.begun.bytes p
ComesAfter m (wired.Alone f bytes) = Unit {0}

-- one begins the message, and all others may come after such a one
abbrev pub BeginsOnce : Message → List Wired → Type 0
BeginsOnce m [] = ⊥
BeginsOnce m (item ∷ rest) = (Begins m item × AllByRecursion (ComesAfter m) rest) ⊎ (ComesAfter m item × BeginsOnce m rest)

-- ---- what is reported

-- the list ends with it
abbrev pub EndsWith : List Begun → Begun → Type 0
EndsWith xs x = (front : List Begun) × (xs ≡ front ++ x ∷ [])

-- the message was begun last, and only messages before it are reported
pub record IsUnreported (m : Message) (begun reports : List Begun) : Type 0 where
  pub before : List Begun
  pub last : begun ≡ before ++ m.begun ∷ []
  pub part : IsSubsequence reports before

-- ---- the three phases of a message to a receiver, and none

pub record IsIdle (pair : Pair) : Type 0 where
  pub wire : AllByRecursion IsAnswering pair.wire
  pub closed : is_open_at pair.receiver ≡ false
  pub back : AllByRecursion IsUnacknowledging pair.back
  pub part : IsSubsequence pair.reports pair.begun

-- what it begins with is still to come
pub record IsAhead (m : Message) (pair : Pair) : Type 0 where
  pub wire : BeginsOnce m pair.wire
  pub closed : is_open_at pair.receiver ≡ false
  pub back : AllByRecursion IsUnacknowledging pair.back
  pub unreported : IsUnreported m pair.begun pair.reports

-- its announcement was taken
pub record IsUnderWay (m : Message) (pair : Pair) : Type 0 where
  pub wire : AllByRecursion (ComesAfter m) pair.wire
  pub gathers : StatesLast pair.taken m.pgn m.begun.bytes
  pub back : AllByRecursion IsUnacknowledging pair.back
  pub unreported : IsUnreported m pair.begun pair.reports

-- it was reported, or what it begins with was lost; only a message that was reported is acknowledged
pub record IsOver (m : Message) (pair : Pair) : Type 0 where
  pub wire : AllByRecursion (ComesAfter m) pair.wire
  pub closed : is_open_at pair.receiver ≡ false
  pub back : AllByRecursion IsUnacknowledging pair.back ⊎ EndsWith pair.reports m.begun
  pub part : IsSubsequence pair.reports pair.begun

abbrev pub Exchange : Option Message → Pair → Type 0
Exchange None pair = IsIdle pair
Exchange (Some m) pair = IsAhead m pair ⊎ (IsUnderWay m pair ⊎ IsOver m pair)

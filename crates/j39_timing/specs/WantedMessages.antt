-- Messages that flows want of a unit, which sends one at a time: behind the one that is under way one message of each flow waits at most; what
-- is wanted meanwhile takes its place, or isn't sent (SAE J1939-21, broadcasts).
use Rattle.std.specs.Prelude.{◌≡◌, ℕ, ◌+◌, ◌<◌, ◌≤◌, Bool, ◌&&◌, cond, nat_eq, nat_le, nat_lt, length, slice_index_or}
use Rattle.std.specs.Int.{div_ceil}
use Rattle.j39_timing.specs.FrameStreams.{Origins}
use Rattle.j39_timing.specs.Messages.{IsOf}
use Rattle.j39_timing.specs.Sums.{total}
use Rattle.j39_timing.specs.TimedFrames.{Schedule}
use Rattle.j39_timing.specs.Waits.{Demand}
use Rattle.j39_timing.specs.declared.wants.Want.{Want}

-- the messages of a unit, in the order in which it sends them
pub record UnitMessages : Type 0 where
  pub count : ℕ
  -- of which flow a message is, by its place among those that want some
  pub flow : ℕ → ℕ
  -- its release, where its flow has some, and the bit from which it is wanted
  pub release : ℕ → ℕ
  pub wanted : ℕ → ℕ
  -- the bit at which its announcement is queued
  pub announced : ℕ → ℕ
  -- the message of a frame, and the frame's place in it
  pub message : ℕ → ℕ
  pub place : ℕ → ℕ

abbrev pub nothing : Want
nothing = record { frames = 0; period = 1; jitter = 0; more = 1 }

-- what the flow at a place wants
abbrev pub want_at : Demand → ℕ → Want
want_at demand f = slice_index_or demand.wants f nothing

-- what the flow of a message does
abbrev pub want_for : Demand → UnitMessages → ℕ → Want
want_for demand messages m = want_at demand (messages.flow m)

-- how many messages of the flow at a place are wanted in so many bits from bit t on
abbrev pub wanted_in : UnitMessages → ℕ → ℕ → ℕ → ℕ
wanted_in messages f t span =
    total messages.count (λ m. cond (nat_eq (messages.flow m) f && (nat_le t (messages.wanted m) && nat_lt (messages.wanted m) (t + span))) 1 0)

-- in any time its flow wants no more of them than it says, but for one
abbrev pub WantNoMore : Demand → UnitMessages → ℕ → Type 0
WantNoMore demand messages f = (t span : ℕ)
    → wanted_in messages f t span + 1 ≤ div_ceil (span + (want_at demand f).jitter) (want_at demand f).period + (want_at demand f).more

-- two messages of one flow, in their order
abbrev pub AreOfOneFlow : UnitMessages → ℕ → ℕ → Type 0
AreOfOneFlow messages m n = (m < n) × (n < messages.count) × (messages.flow m ≡ messages.flow n)

-- the releases of two messages of the flow at a place are a period apart, and each is wanted at its release, or so many bits behind it at most
pub record AreReleasedApart (demand : Demand) (messages : UnitMessages) (f : ℕ) : Type 0 where
  pub apart : (m n : ℕ) → AreOfOneFlow messages m n → messages.flow n ≡ f → messages.release m + (want_at demand f).period ≤ messages.release n
  pub release_first : (m : ℕ) → m < messages.count → messages.flow m ≡ f → messages.release m ≤ messages.wanted m
  pub jitter_at_most : (m : ℕ) → m < messages.count → messages.flow m ≡ f → messages.wanted m ≤ messages.release m + (want_at demand f).jitter

-- flows want the messages of a unit, and it sends them in turn
pub record AreWantedInTurn (demand : Demand) (messages : UnitMessages) : Type 0 where
  pub flows : (m : ℕ) → m < messages.count → messages.flow m < length demand.wants
  -- of a flow one may have been wanted before, and wait
  pub few : (f : ℕ) → WantNoMore demand messages f
  -- a message is announced where it is wanted, or later
  pub wanted_first : (m : ℕ) → m < messages.count → messages.wanted m ≤ messages.announced m
  -- of a flow one message waits at most: where the next one is wanted it has been announced
  pub one_waits : (m n : ℕ) → AreOfOneFlow messages m n → messages.announced m ≤ messages.wanted n

-- the frames of stream j are of these messages: none is queued before its message is announced, nor behind the announcement of a later one, and
-- each has a place of its own in it, of which there are no more than its flow wants
pub record AreFramesOfMessages (s : Schedule) (planned : ℕ → Bool) (of : Origins) (j : ℕ) (demand : Demand) (messages : UnitMessages) : Type 0 where
  pub known : (p : ℕ) → IsOf s planned of j p → messages.message p < messages.count
  pub behind : (p : ℕ) → IsOf s planned of j p → messages.announced (messages.message p) ≤ of.since p
  pub in_turn : (p m : ℕ) → IsOf s planned of j p → messages.message p < m → m < messages.count → of.since p ≤ messages.announced m
  pub apart : (p q : ℕ) → IsOf s planned of j p → IsOf s planned of j q → messages.message p ≡ messages.message q
      → messages.place p ≡ messages.place q → p ≡ q
  pub places : (p : ℕ) → IsOf s planned of j p → messages.place p < (want_for demand messages (messages.message p)).frames

-- no message of a flow has more frames than are reported of the one that is under way
abbrev pub HasLongest : Demand → Type 0
HasLongest demand = (f : ℕ) → (want_at demand f).frames ≤ demand.under_way

-- each frame is the announcement itself
abbrev pub AreAnnouncements : Schedule → (ℕ → Bool) → Origins → ℕ → UnitMessages → Type 0
AreAnnouncements s planned of j messages = (p : ℕ) → IsOf s planned of j p → of.since p ≡ messages.announced (messages.message p)

-- messages can be wanted after a period only that isn't 0
abbrev pub HavePeriods : Demand → Type 0
HavePeriods demand = (f : ℕ) → 0 < (want_at demand f).period

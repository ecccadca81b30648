-- A stream's messages on a bus, as a log of the bus reports them.
use Rattle.std.specs.Prelude.{◌≡◌, ◌≢◌, ℕ, ◌+◌, ◌*◌, ◌<◌, ◌≤◌, ◌⊎◌, Bool, true, Some}
use Rattle.j39_audit.specs.declared.window.Window.{Window}
use Rattle.j39_timing.specs.Messages.{frame_end}
use Rattle.j39_timing.specs.TimedFrames.{Schedule, IsOnBusAt}

-- frames of a bus, one at a time
pub record IsOneAtATime (s : Schedule) : Type 0 where
  pub positive : (p : ℕ) → p < s.count → 1 ≤ s.bits p
  pub queued_first : (p : ℕ) → p < s.count → s.queued p ≤ s.start p
  pub alone : (p q t : ℕ) → p < s.count → q < s.count → t < s.now → IsOnBusAt s p t → IsOnBusAt s q t → p ≡ q

-- frame k of the first n is that of the k-th line that is reported of the stream
pub record AreLines (s : Schedule) (is_message : ℕ → Bool) (n : ℕ) (frame : ℕ → ℕ) : Type 0 where
  pub message : (k : ℕ) → k < n → is_message (frame k) ≡ true
  pub known : (k : ℕ) → k < n → frame k < s.count
  pub ended : (k : ℕ) → k < n → frame_end s (frame k) ≤ s.now
  pub in_turn : (k l : ℕ) → k < l → l < n → frame_end s (frame k) < frame_end s (frame l)

-- no message that ends as frame f does or later had its release before this time
abbrev pub IsBoundFrom : Schedule → (ℕ → ℕ) → (ℕ → Bool) → (ℕ → ℕ) → ℕ → ℕ → Type 0
IsBoundFrom s clock is_message release f bound = (p : ℕ) → p < s.count → is_message p ≡ true → frame_end s f ≤ frame_end s p → 1000 * bound ≤ clock (release p)

-- the bounds of the moments of the first n lines
pub record AreBounds (s : Schedule) (clock : ℕ → ℕ) (is_message : ℕ → Bool) (release : ℕ → ℕ) (n : ℕ) (frame : ℕ → ℕ) (windows : ℕ → Window) : Type 0 where
  pub upper : (k : ℕ) → k < n → clock (frame_end s (frame k)) ≤ 1000 * (windows k).upper
  pub lower : (k x : ℕ) → k < n → (windows k).lower ≡ Some x → IsBoundFrom s clock is_message release (frame k) x

-- a message has its release before it is queued
abbrev pub AreReleasedFirst : Schedule → (ℕ → Bool) → (ℕ → ℕ) → Type 0
AreReleasedFirst s is_message release = (p : ℕ) → p < s.count → is_message p ≡ true → release p ≤ s.queued p

-- and within so many milliseconds of it
abbrev pub HaveJitter : Schedule → ℕ → ℕ → (ℕ → Bool) → (ℕ → ℕ) → Type 0
HaveJitter s us jitter is_message release = (p : ℕ) → p < s.count → is_message p ≡ true → s.queued p * us ≤ release p * us + 1000 * jitter

-- and has been sent within so many bits of it, as far as it should have been by now
abbrev pub AreMessagesInTime : Schedule → ℕ → (ℕ → Bool) → (ℕ → ℕ) → Type 0
AreMessagesInTime s bits is_message release = (p : ℕ) → p < s.count → is_message p ≡ true → release p + bits < s.now → frame_end s p ≤ release p + bits

-- the releases of each two are so many milliseconds apart
abbrev pub AreMsApart : Schedule → ℕ → ℕ → (ℕ → Bool) → (ℕ → ℕ) → Type 0
AreMsApart s us period is_message release = (p q : ℕ) → p < s.count → q < s.count → p ≢ q → is_message p ≡ true → is_message q ≡ true
    → (release p * us + 1000 * period ≤ release q * us) ⊎ (release q * us + 1000 * period ≤ release p * us)

-- at each bit from one to another a message of it has had its release in the last so many milliseconds
abbrev pub KeepsMs : Schedule → ℕ → ℕ → (ℕ → Bool) → (ℕ → ℕ) → ℕ → ℕ → Type 0
KeepsMs s us pause is_message release from to = (t : ℕ) → from ≤ t → t ≤ to
    → (p : ℕ) × (p < s.count) × (is_message p ≡ true) × (release p ≤ t) × (t * us < release p * us + 1000 * pause)

-- the lines before place j are all messages that end behind the first of them and before a frame
abbrev pub AreAllBefore : Schedule → (ℕ → Bool) → (ℕ → ℕ) → ℕ → ℕ → Type 0
AreAllBefore s is_message frame j f = (p : ℕ) → p < s.count → is_message p ≡ true → frame_end s (frame 0) < frame_end s p → frame_end s p < frame_end s f
    → (k : ℕ) × (k < j) × (p ≡ frame k)

-- a bound at place j, by a frame before which all messages are reported
pub record IsBoundByFrame (s : Schedule) (clock : ℕ → ℕ) (is_message : ℕ → Bool) (release : ℕ → ℕ) (frame : ℕ → ℕ) (to j bound : ℕ) : Type 0 where
  pub of : ℕ
  pub is : IsBoundFrom s clock is_message release of bound
  pub all_before : AreAllBefore s is_message frame j of
  pub until : 1000 * bound ≤ clock to

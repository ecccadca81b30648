-- Frames by the stream that they belong to: a message of one or more frames that a unit sends again and again, never twice within a
-- period.
use Rattle.std.specs.Prelude.{◌≡◌, ◌≢◌, ℕ, ◌+◌, ◌<◌, ◌≤◌, ◌⊎◌}
use Rattle.j39_timing.specs.declared.stream.Stream.{Stream}
use Rattle.j39_timing.specs.TimedFrames.{Schedule}
use Rattle.j39_timing.specs.Waits.{IsSpaced}

-- what a frame is of its stream
pub record Origins : Type 0 where
  -- the stream, by its place
  pub source : ℕ → ℕ
  -- the frame's place in its message
  pub turn : ℕ → ℕ
  -- the release of its message: the bit from which it may be queued
  pub since : ℕ → ℕ

-- the frame keeps to its stream, which is one of so many
pub record KeepsStream (s : Schedule) (count : ℕ) (stream : ℕ → Stream) (of : Origins) (p : ℕ) : Type 0 where
  pub known : of.source p < count
  -- it is as long as the stream's frames at most, and has its turn in a message: no message has more frames than the stream says
  pub bits_at_most : s.bits p ≤ (stream (of.source p)).bits
  pub turns : of.turn p < (stream (of.source p)).frames
  -- it is queued at the release of its message, or so many bits after it at most
  pub release_first : of.since p ≤ s.queued p
  pub jitter_at_most : s.queued p ≤ of.since p + (stream (of.source p)).jitter

-- such frames keep to their streams
pub record AreOfStreams (s : Schedule) (Is : ℕ → Type 0) (count : ℕ) (stream : ℕ → Stream) (of : Origins) : Type 0 where
  pub keeps : (p : ℕ) → p < s.count → Is p → KeepsStream s count stream of p
  -- the releases of two messages of a stream are a period apart, unless others ask for them: so are those of two frames that have one turn in them
  pub spaced : (p q : ℕ) → p < s.count → q < s.count → p ≢ q → Is p → Is q → of.source p ≡ of.source q → of.turn p ≡ of.turn q
      → IsSpaced (stream (of.source p)) → (of.since p + (stream (of.source p)).period ≤ of.since q) ⊎ (of.since q + (stream (of.source p)).period ≤ of.since p)

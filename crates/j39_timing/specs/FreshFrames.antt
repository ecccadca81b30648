-- How old the newest of a stream's frames is that has ended.
use Rattle.std.specs.Prelude.{◌≡◌, ℕ, ◌+◌, ◌<◌, ◌≤◌, Bool, true}
use Rattle.j39_timing.specs.TimedFrames.{Schedule}
use Rattle.j39_timing.specs.FrameStreams.{Origins, AreOfStreams}
use Rattle.j39_timing.specs.Messages.{IsOf, frame_end}
use Rattle.j39_timing.specs.Traffic.{IsSingle, IsStreamInTime, delay_of}
use Rattle.j39_timing.specs.declared.stream.Stream.{Stream}

-- from one bit to another, a frame of the stream has had its release less than `pause` bits ago
abbrev pub KeepsComing : Schedule → (ℕ → Bool) → Origins → ℕ → ℕ → ℕ → ℕ → Type 0
KeepsComing s planned of i pause from to = (t : ℕ) → from ≤ t → t ≤ to
    → (p : ℕ) × (p < s.count) × (planned p ≡ true) × (of.source p ≡ i) × (of.since p ≤ t) × (t < of.since p + pause)

-- from one bit to another, a frame of the stream has ended that had its release less than `age` bits ago
abbrev pub IsFresh : Schedule → (ℕ → Bool) → Origins → ℕ → ℕ → ℕ → ℕ → Type 0
IsFresh s planned of i age from to = (t : ℕ) → from ≤ t → t ≤ to
    → (p : ℕ) × (p < s.count) × (planned p ≡ true) × (of.source p ≡ i) × (s.start p + s.bits p ≤ t) × (t < of.since p + age)

-- ---- the newest one

-- the frame is one of the stream, and has ended by bit t
pub record HasEnded (s : Schedule) (planned : ℕ → Bool) (of : Origins) (i t p : ℕ) : Type 0 where
  pub its : IsOf s planned of i p
  pub ended : frame_end s p ≤ t

-- and no other one of the stream that has ended by then has ended later: it is what has been received last of the stream
pub record IsNewest (s : Schedule) (planned : ℕ → Bool) (of : Origins) (i t p : ℕ) : Type 0 where
  pub has_ended : HasEnded s planned of i t p
  pub last : (q : ℕ) → HasEnded s planned of i t q → frame_end s q ≤ frame_end s p

-- from one bit to another there is a newest frame, and its release was less than `age` bits ago
abbrev pub IsNewestFresh : Schedule → (ℕ → Bool) → Origins → ℕ → ℕ → ℕ → ℕ → Type 0
IsNewestFresh s planned of i age from to = (t : ℕ) → from ≤ t → t ≤ to
    → ((p : ℕ) × IsNewest s planned of i t p) × ((p : ℕ) → IsNewest s planned of i t p → t < of.since p + age)

-- the frames of a stream of single frames, among those of so many, each of which has been sent before the next one has its release
pub record ComeOneByOne (s : Schedule) (planned : ℕ → Bool) (of : Origins) (count : ℕ) (stream : ℕ → Stream) (i wait : ℕ) : Type 0 where
  pub of_streams : AreOfStreams s (λ p. planned p ≡ true) count stream of
  pub single : IsSingle (stream i)
  pub in_time : IsStreamInTime s planned of i (stream i) wait
  pub within_period : delay_of (stream i) wait ≤ (stream i).period

-- Messages of several frames that a unit sends one at a time, each frame queued after the end of the one before: when they are whole.
use Rattle.std.specs.Prelude.{◌≡◌, ℕ, ◌+◌, ◌*◌, ◌<◌, ◌≤◌, Bool, true, List, [], ◌∷◌, All, length, sum_by}
use Rattle.j39_timing.specs.declared.stream.Stream.{Stream}
use Rattle.j39_timing.specs.TimedFrames.{Schedule}
use Rattle.j39_timing.specs.FrameStreams.{Origins}

-- a message: its announcement and its packets in order, by their places in a schedule
pub record LongMessage : Type 0 where
  pub announcement : ℕ
  pub packets : List ℕ

-- from this bit on the frame is over
abbrev pub frame_end : Schedule → ℕ → ℕ
frame_end s p = s.start p + s.bits p

-- each packet is queued at most `gap` bits after the end of the frame before, the first one behind this frame
unfoldable pub FollowInTurn : Schedule → ℕ → ℕ → List ℕ → Type 0
FollowInTurn s gap p [] = Unit {0}
FollowInTurn s gap p (q ∷ qs) = (s.queued q ≤ frame_end s p + gap) × FollowInTurn s gap q qs

-- from this bit on a frame and those that follow it are over
unfoldable pub packets_end : Schedule → ℕ → List ℕ → ℕ
packets_end s p [] = frame_end s p
packets_end s p (q ∷ qs) = packets_end s q qs

-- from this bit on the receivers have the message whole
abbrev pub whole_at : Schedule → LongMessage → ℕ
whole_at s m = packets_end s m.announcement m.packets

-- the announcement of the first of these messages is queued by this bit, that of each other one by the end of the message before
unfoldable pub AreSentInTurn : Schedule → ℕ → ℕ → List LongMessage → Type 0
AreSentInTurn s gap by [] = Unit {0}
AreSentInTurn s gap by (m ∷ ms) =
    (s.queued m.announcement ≤ by) × FollowInTurn s gap m.announcement m.packets × AreSentInTurn s gap (whole_at s m) ms

-- from this bit on all of them are over
unfoldable pub all_whole_at : Schedule → ℕ → List LongMessage → ℕ
all_whole_at s by [] = by
all_whole_at s by (m ∷ ms) = all_whole_at s (whole_at s m) ms

-- each frame of a stream has been sent within so many bits and its own length of being queued
abbrev pub AreSentWithin : Schedule → (ℕ → Bool) → Origins → ℕ → Stream → ℕ → Type 0
AreSentWithin s planned of i stream wait = (p : ℕ) → p < s.count → planned p ≡ true → of.source p ≡ i → s.queued p + wait < s.now
    → frame_end s p ≤ s.queued p + (wait + stream.bits)

-- the frame is planned, and of this stream
abbrev pub IsOf : Schedule → (ℕ → Bool) → Origins → ℕ → ℕ → Type 0
IsOf s planned of i p = (p < s.count) × (planned p ≡ true) × (of.source p ≡ i)

-- the message has its announcement of one stream, and its packets of another
abbrev pub IsBroadcast : Schedule → (ℕ → Bool) → Origins → ℕ → ℕ → LongMessage → Type 0
IsBroadcast s planned of announcements packets m =
    IsOf s planned of announcements m.announcement × All (IsOf s planned of packets) m.packets

-- the time of a message with so many packets, whose announcement takes so long, and each packet so long behind a pause of at most `gap`
abbrev pub time_of_message : ℕ → ℕ → ℕ → ℕ → ℕ
time_of_message announcement gap packet packets = announcement + packets * (gap + packet)

-- the time of all these
abbrev pub time_of_messages : ℕ → ℕ → ℕ → List LongMessage → ℕ
time_of_messages announcement gap packet ms = sum_by (λ m. time_of_message announcement gap packet (length m.packets)) ms

-- Planned frames on a bus on which units refill their buffers, and how long one of them waits.
use Rattle.std.specs.Prelude.{◌≡◌, ℕ, ◌+◌, ◌*◌, ◌<◌, ◌≤◌, Bool, true}
use Rattle.j39_timing.specs.AnyOrder.{Controllers}
use Rattle.j39_timing.specs.FrameStreams.{AreOfStreams, Origins}
use Rattle.j39_timing.specs.QueueGroups.{unplanned_queued}
use Rattle.j39_timing.specs.Sums.{total}
use Rattle.j39_timing.specs.TimedFrames.{Schedule, Waits}
use Rattle.j39_timing.specs.Traffic.{AreAsWanted, Traffic}
use Rattle.j39_timing.specs.Waits.{lesser_share}
use Rattle.j39_timing.specs.declared.stream.Stream.{Stream}

-- at each bit behind `from`, up to `to`, some planned frame waits
abbrev pub SomeFrameWaits : Schedule → (ℕ → Bool) → ℕ → ℕ → Type 0
SomeFrameWaits s planned from to = (t : ℕ) → from < t → t ≤ to → (p : ℕ) × (p < s.count) × (planned p ≡ true) × Waits s p t

-- the planned frames of a schedule are those of the streams; behind each frame its unit refills for so many bits at most, by the frame's stream and by
-- all; and what isn't planned keeps within what is foreseen while frames of stream i wait
pub record IsTrafficWithRefill (s : Schedule) (controllers : Controllers) (refill : ℕ → ℕ) (traffic : Traffic) (refill_of : ℕ → ℕ)
    (unplanned longest most : ℕ) (planned : ℕ → Bool) (of : Origins) (i : ℕ) : Type 0 where
  -- no frame is longer
  pub longest_at_most : (p : ℕ) → p < s.count → s.bits p ≤ longest
  -- a planned frame is one of a stream
  pub of_streams : AreOfStreams s (λ p. planned p ≡ true) traffic.count traffic.stream of
  -- of which a unit queues no more than it wants
  pub as_wanted : AreAsWanted s planned of traffic.demands traffic.stream
  pub refill_by_stream : (p : ℕ) → p < s.count → planned p ≡ true → refill (controllers.unit p) ≤ refill_of (of.source p)
  pub refill_at_most : (p : ℕ) → p < s.count → refill (controllers.unit p) ≤ most
  -- while a frame of the stream waits, together with the time before in which planned frames wait without a break, no more frames that aren't planned
  -- are queued than so many, whatever their identifiers are
  pub few_unplanned : (p from to : ℕ) → p < s.count → planned p ≡ true → of.source p ≡ i → to < s.now → Waits s p to
      → SomeFrameWaits s planned from to → unplanned_queued s planned from to ≤ unplanned

-- a stream each frame of which keeps its unit from arbitration for so many bits more
abbrev pub with_refill : ℕ → Stream → Stream
with_refill more stream =
    record { frames = stream.frames; period = stream.period; bits = stream.bits + more; jitter = stream.jitter; wanted = stream.wanted }

-- the wait of a frame of stream i has room for the frame that has begun before and the longest refill, for as much of each frame that isn't planned, and
-- for all that the streams can queue in it and in the bit behind, each frame with the refill of its unit, but for the frame itself and its refill
abbrev pub RefillDemandFits : Traffic → (ℕ → ℕ) → ℕ → ℕ → ℕ → ℕ → ℕ → Type 0
RefillDemandFits traffic refill_of unplanned longest most i wait =
    (longest + most) * (1 + unplanned)
    + total traffic.count (λ j. lesser_share traffic.demands (wait + 1) (with_refill (refill_of j) (traffic.stream j)))
    ≤ wait + ((traffic.stream i).bits + refill_of i)

-- Units whose controllers keep no order: such a unit takes part in each arbitration with one of its waiting frames, whichever (a FIFO
-- queue, few mailboxes, or one buffer that is filled again within the intermission of three bits): work-conserving queues, and the
-- buffering delay of their frames (Davis, Navet, Controller area network (CAN) schedulability analysis for messages with arbitrary deadlines in
-- FIFO and work-conserving queues, 2012).
use Rattle.std.specs.Prelude.{◌≡◌, ℕ, zero, suc, ◌+◌, ◌<◌, ◌≤◌, Bool, true, false, ◌&&◌, cond, nat_lt, nat_le}
use Rattle.j39_timing.specs.declared.stream.Stream.{Stream}
use Rattle.j39_timing.specs.TimedFrames.{Schedule, IsOnBusAt, Waits}
use Rattle.j39_timing.specs.FrameStreams.{Origins}
use Rattle.j39_timing.specs.Traffic.{Traffic, IsQueuedAt, may_go_before}

-- who sends the frames of a schedule
pub record Controllers : Type 0 where
  -- the unit that sends a frame, by the frame's place
  pub unit : ℕ → ℕ
  -- of its waiting frames the one with the least identifier takes part in arbitration
  pub keeps_order : ℕ → Bool

-- the unit of the frame keeps order, or doesn't
abbrev pub IsFromOrdered : Controllers → ℕ → Type 0
IsFromOrdered controllers p = controllers.keeps_order (controllers.unit p) ≡ true

abbrev pub IsUnordered : Controllers → ℕ → Type 0
IsUnordered controllers p = controllers.keeps_order (controllers.unit p) ≡ false

-- at bit t frame h may be the one that takes part in arbitration for the unit of frame p: it is the unit's too, is ready and hasn't begun
-- before. For a unit that keeps order it is the one with the least identifier, so that each of its frames may be asked
abbrev pub MayArbitrate : Schedule → Controllers → ℕ → ℕ → ℕ → Type 0
MayArbitrate s controllers p h t =
    (h < s.count) × (controllers.unit h ≡ controllers.unit p) × IsQueuedAt s h t × (IsFromOrdered controllers p → h ≡ p)

-- as `IsLegal`, but that a frame that begins has no larger identifier than one with which each unit with a waiting frame may take part
pub record IsLegalInAnyOrder (s : Schedule) (controllers : Controllers) : Type 0 where
  pub positive : (p : ℕ) → p < s.count → 1 ≤ s.bits p
  pub queued_first : (p : ℕ) → p < s.count → s.queued p ≤ s.start p
  -- one frame at a time
  pub alone : (p q t : ℕ) → p < s.count → q < s.count → t < s.now → IsOnBusAt s p t → IsOnBusAt s q t → p ≡ q
  -- while a frame waits the bus isn't idle
  pub never_idle : (p t : ℕ) → p < s.count → t < s.now → Waits s p t → (q : ℕ) × (q < s.count) × IsOnBusAt s q t
  -- where frame q begins, the unit of each waiting frame p takes part with a frame, and q goes before it, or is it
  pub in_order : (p q : ℕ) → p < s.count → q < s.count → s.start q < s.now → Waits s p (s.start q)
      → (h : ℕ) × MayArbitrate s controllers p h (s.start q) × (s.ident q ≤ s.ident h)

-- ---- buffering delay: the time from when a frame is queued until it takes part in each arbitration

-- frame q begins while p waits, although it has a larger identifier: p was still buffered there
abbrev pub is_passed_by : Schedule → ℕ → ℕ → Bool
is_passed_by s p q = nat_lt (s.ident p) (s.ident q) && (nat_lt (s.queued p) (s.start q) && (nat_le (s.start q) (s.start p) && nat_lt (s.start q) s.now))

-- the last bit at which one of the first n frames passes it; where none does, the one from which it is ready
unfoldable pub buffered_until : Schedule → ℕ → ℕ → ℕ
buffered_until s p zero = s.queued p
buffered_until s p (suc n) = cond (is_passed_by s p n && nat_lt (buffered_until s p n) (s.start n)) (s.start n) (buffered_until s p n)

-- the schedule in which each frame is queued at the end of its buffering delay
abbrev pub after_buffering : Schedule → Schedule
after_buffering s = record {
  count = s.count;
  queued = λ p. buffered_until s p s.count;
  start = s.start;
  bits = s.bits;
  ident = s.ident;
  now = s.now;
}

-- each frame of the stream begins within so many bits of being queued
abbrev pub AreBegunWithin : Schedule → (ℕ → Bool) → Origins → ℕ → ℕ → Type 0
AreBegunWithin s planned of i wait = (p : ℕ) → p < s.count → planned p ≡ true → of.source p ≡ i → s.queued p + wait < s.now
    → s.start p ≤ s.queued p + wait

-- a frame of this stream is sent by a unit that keeps order
abbrev pub IsOrderedStream : Schedule → Controllers → (ℕ → Bool) → Origins → ℕ → Type 0
IsOrderedStream s controllers planned of i = (p : ℕ) → p < s.count → planned p ≡ true → of.source p ≡ i → IsFromOrdered controllers p

-- of each stream that may go before stream i there is such a wait of those of its frames whose units keep no order
abbrev pub HaveWaits : Schedule → Controllers → Traffic → (ℕ → Bool) → Origins → ℕ → (ℕ → ℕ) → Type 0
HaveWaits s controllers traffic planned of i waits = (p : ℕ) → p < s.count → planned p ≡ true → may_go_before traffic i (of.source p) ≡ true
    → IsUnordered controllers p → s.queued p + waits (of.source p) < s.now → s.start p ≤ s.queued p + waits (of.source p)

-- a stream whose frames may be queued so many bits later
abbrev pub later_by : ℕ → Stream → Stream
later_by more stream = record { frames = stream.frames; period = stream.period; bits = stream.bits; jitter = stream.jitter + more; wanted = stream.wanted }

-- the streams where frames that wait in units without order count from the end of their buffering delays
abbrev pub buffered_traffic : Traffic → (ℕ → ℕ) → Traffic
buffered_traffic traffic waits = record {
  count = traffic.count;
  stream = λ j. later_by (waits j) (traffic.stream j);
  demands = traffic.demands;
  least = traffic.least;
  greatest = traffic.greatest;
  are_twins = traffic.are_twins;
}

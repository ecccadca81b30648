-- The frames that may go before one that waits in a unit without order: those of its queue group, and those that may go before these. A queue group
-- is what waits in one work-conserving queue (Davis, Navet, 2012), but of several units.
use Rattle.std.specs.Prelude.{◌≡◌, ℕ, ◌+◌, ◌*◌, ◌<◌, ◌≤◌, Bool, true, false, not, ◌&&◌, ◌||◌, cond, nat_lt, nat_le}
use Rattle.j39_timing.specs.Sums.{total}
use Rattle.j39_timing.specs.TimedFrames.{Schedule, Waits}
use Rattle.j39_timing.specs.FrameStreams.{Origins, AreOfStreams}
use Rattle.j39_timing.specs.Traffic.{Traffic, AreAsWanted, IsQueuedAt}
use Rattle.j39_timing.specs.Waits.{lesser_share}
use Rattle.j39_timing.specs.AnyOrder.{Controllers, IsUnordered}

-- all streams of some units that keep no order
pub record QueueGroup : Type 0 where
  -- a stream, by its place, is one of them
  pub has : ℕ → Bool
  -- none of their frames has a larger identifier
  pub level : ℕ

-- a planned frame is one of the queue group, or has a smaller identifier than its level
abbrev pub is_with_queue_group : Schedule → Origins → QueueGroup → ℕ → Bool
is_with_queue_group s of queue_group p = queue_group.has (of.source p) || nat_lt (s.ident p) queue_group.level

-- at each bit behind `from`, up to `to`, such a frame waits
abbrev pub QueueGroupWaits : Schedule → (ℕ → Bool) → Origins → QueueGroup → ℕ → ℕ → Type 0
QueueGroupWaits s planned of queue_group from to =
    (t : ℕ) → from < t → t ≤ to → (p : ℕ) × (p < s.count) × (planned p ≡ true) × (is_with_queue_group s of queue_group p ≡ true) × Waits s p t

-- the frame isn't planned, and is queued at some bit behind `from`, up to `to`
abbrev pub is_unplanned_queued : Schedule → (ℕ → Bool) → ℕ → ℕ → ℕ → Bool
is_unplanned_queued s planned from to p = not (planned p) && (nat_le (s.queued p) to && nat_lt from (s.start p))

-- how many such frames there are
abbrev pub unplanned_queued : Schedule → (ℕ → Bool) → ℕ → ℕ → ℕ
unplanned_queued s planned from to = total s.count (λ p. cond (is_unplanned_queued s planned from to p) 1 0)

-- the planned frames of a schedule are those of the streams; they keep to a queue group, and what else is in the
-- schedule keeps within what is foreseen while frames of the queue group wait
pub record IsTrafficOfQueueGroup (s : Schedule) (controllers : Controllers) (traffic : Traffic) (unplanned longest : ℕ) (planned : ℕ → Bool) (of : Origins)
    (queue_group : QueueGroup) : Type 0 where
  -- no frame is longer
  pub longest_at_most : (p : ℕ) → p < s.count → s.bits p ≤ longest
  -- a planned frame is one of a stream
  pub of_streams : AreOfStreams s (λ p. planned p ≡ true) traffic.count traffic.stream of
  -- of which a unit queues no more than it wants
  pub as_wanted : AreAsWanted s planned of traffic.demands traffic.stream
  -- no frame of a stream has an identifier below its least one, and none of the queue group one above the level
  pub from_least : (p : ℕ) → p < s.count → planned p ≡ true → traffic.least (of.source p) ≤ s.ident p
  pub to_level : (p : ℕ) → p < s.count → planned p ≡ true → queue_group.has (of.source p) ≡ true → s.ident p ≤ queue_group.level
  -- where a frame is of the queue group, or has a smaller identifier than its level, and its unit keeps no order, all planned frames of this
  -- unit are of the queue group
  pub closed : (p q : ℕ) → p < s.count → q < s.count → planned p ≡ true → planned q ≡ true → controllers.unit q ≡ controllers.unit p
      → IsUnordered controllers p → is_with_queue_group s of queue_group p ≡ true → queue_group.has (of.source q) ≡ true
  -- while a frame of the queue group is queued, nothing that is queued too has its identifier but frames of the queue group
  pub own_identifiers : (p q t : ℕ) → p < s.count → q < s.count → t < s.now → planned p ≡ true → queue_group.has (of.source p) ≡ true
      → IsQueuedAt s p t → IsQueuedAt s q t → s.ident p ≡ s.ident q → (planned q ≡ true) × (queue_group.has (of.source q) ≡ true)
  -- while a frame of the queue group waits, together with the time before in which it and what goes with it wait without a break, no more frames
  -- that aren't planned are queued than so many, whatever their identifiers are
  pub few_unplanned : (p from to : ℕ) → p < s.count → planned p ≡ true → queue_group.has (of.source p) ≡ true → to < s.now → Waits s p to
      → QueueGroupWaits s planned of queue_group from to → unplanned_queued s planned from to ≤ unplanned
  -- where there may be some, their identifiers are below the level: one of them may wait in a unit of the queue group
  pub above_unplanned : (p : ℕ) → p < s.count → planned p ≡ false → s.queued p < s.now → 0 < unplanned → s.ident p < queue_group.level

-- frames of stream j may go before those of the queue group, whatever identifiers they have, or are of it
abbrev pub may_go_with : Traffic → QueueGroup → ℕ → Bool
may_go_with traffic queue_group j = queue_group.has j || nat_lt (traffic.least j) queue_group.level

-- the wait of a frame of stream i has room for the frame that has begun before, for what isn't planned, and for what these streams
-- can queue in it and in the bit behind, but for the frame itself
abbrev pub QueueGroupDemandFits : Traffic → QueueGroup → ℕ → ℕ → ℕ → ℕ → Type 0
QueueGroupDemandFits traffic queue_group unplanned longest i wait =
    longest * (1 + unplanned) + total traffic.count (λ j. cond (may_go_with traffic queue_group j) (lesser_share traffic.demands (wait + 1) (traffic.stream j)) 0)
    ≤ wait + (traffic.stream i).bits

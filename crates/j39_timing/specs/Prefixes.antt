-- What is seen of a bus up to some bit. What the frames before it keep to suffices for what is said of them, whatever comes behind it.
use Rattle.std.specs.Prelude.{◌≡◌, ℕ, ◌+◌, ◌<◌, ◌≤◌, Bool, true, false, ◌&&◌, cond, nat_lt}
use Rattle.j39_timing.specs.TimedFrames.{Schedule, Waits}
use Rattle.j39_timing.specs.FrameStreams.{Origins, AreOfStreams}
use Rattle.j39_timing.specs.AnyOrder.{Controllers, IsUnordered}
use Rattle.j39_timing.specs.QueueGroups.{QueueGroup, QueueGroupWaits, is_with_queue_group, unplanned_queued}
use Rattle.j39_timing.specs.Traffic.{Traffic, Others, AreAsWanted, IsQueuedAt, PlannedFramesWait, may_go_before, may_share, others_queued}

-- what is seen up to a bit: frames that are queued later count as others, with this identifier
abbrev pub seen_until : Schedule → ℕ → ℕ → Schedule
seen_until s by ident = record {
  count = s.count;
  queued = s.queued;
  start = s.start;
  bits = s.bits;
  ident = λ p. cond (nat_lt (s.queued p) by) (s.ident p) ident;
  now = by;
}

abbrev pub planned_until : Schedule → (ℕ → Bool) → ℕ → ℕ → Bool
planned_until s planned by p = planned p && nat_lt (s.queued p) by

-- as `IsPlannedTraffic`, but that frames are known to keep to their streams where they are queued before a bit
pub record IsPlannedUntil (s : Schedule) (traffic : Traffic) (others : Others) (longest : ℕ) (planned : ℕ → Bool) (of : Origins) (i by : ℕ) : Type 0 where
  pub longest_at_most : (p : ℕ) → p < s.count → s.bits p ≤ longest
  pub of_streams : AreOfStreams s (λ p. planned_until s planned by p ≡ true) traffic.count traffic.stream of
  pub as_wanted : AreAsWanted s (planned_until s planned by) of traffic.demands traffic.stream
  pub from_least : (p : ℕ) → p < s.count → planned p ≡ true → traffic.least (of.source p) ≤ s.ident p
  pub to_greatest : (p : ℕ) → p < s.count → planned p ≡ true → of.source p ≡ i → s.ident p ≤ traffic.greatest i
  pub own_identifier : (p q t : ℕ) → p < s.count → q < s.count → t < s.now → planned p ≡ true → may_share traffic i (of.source p) ≡ true
      → IsQueuedAt s p t → IsQueuedAt s q t → s.ident p ≡ s.ident q → (planned q ≡ true) × (may_share traffic i (of.source q) ≡ true)
  pub urgency_of_others : (p : ℕ) → p < s.count → planned p ≡ false → others.least ≤ s.ident p
  pub few_others : (p from to : ℕ) → p < s.count → planned p ≡ true → of.source p ≡ i → to < s.now → Waits s p to
      → PlannedFramesWait s planned (s.ident p) from to → others_queued s planned (s.ident p) from to ≤ others.count

-- each frame of the stream that should have begun before the bit has done so
abbrev pub AreBegunUntil : Schedule → (ℕ → Bool) → Origins → ℕ → ℕ → ℕ → Type 0
AreBegunUntil s planned of i wait by = (p : ℕ) → p < s.count → planned p ≡ true → of.source p ≡ i → s.queued p + wait < by → s.start p ≤ s.queued p + wait

-- as `IsTrafficOfQueueGroup`, but that frames are known to keep to their streams where they are queued before a bit
pub record IsQueueGroupUntil (s : Schedule) (controllers : Controllers) (traffic : Traffic) (unplanned longest : ℕ) (planned : ℕ → Bool) (of : Origins)
    (queue_group : QueueGroup) (by : ℕ) : Type 0 where
  pub longest_at_most : (p : ℕ) → p < s.count → s.bits p ≤ longest
  pub of_streams : AreOfStreams s (λ p. planned_until s planned by p ≡ true) traffic.count traffic.stream of
  pub as_wanted : AreAsWanted s (planned_until s planned by) of traffic.demands traffic.stream
  pub from_least : (p : ℕ) → p < s.count → planned p ≡ true → traffic.least (of.source p) ≤ s.ident p
  pub to_level : (p : ℕ) → p < s.count → planned p ≡ true → queue_group.has (of.source p) ≡ true → s.ident p ≤ queue_group.level
  pub closed : (p q : ℕ) → p < s.count → q < s.count → planned p ≡ true → planned q ≡ true → controllers.unit q ≡ controllers.unit p
      → IsUnordered controllers p → is_with_queue_group s of queue_group p ≡ true → queue_group.has (of.source q) ≡ true
  pub own_identifiers : (p q t : ℕ) → p < s.count → q < s.count → t < s.now → planned p ≡ true → queue_group.has (of.source p) ≡ true
      → IsQueuedAt s p t → IsQueuedAt s q t → s.ident p ≡ s.ident q → (planned q ≡ true) × (queue_group.has (of.source q) ≡ true)
  pub few_unplanned : (p from to : ℕ) → p < s.count → planned p ≡ true → queue_group.has (of.source p) ≡ true → to < s.now → Waits s p to
      → QueueGroupWaits s planned of queue_group from to → unplanned_queued s planned from to ≤ unplanned
  pub above_unplanned : (p : ℕ) → p < s.count → planned p ≡ false → s.queued p < s.now → 0 < unplanned → s.ident p < queue_group.level

-- of streams that may go before, those of its frames whose units keep no order begin so, as far as is seen
abbrev pub HaveWaitsUntil : Schedule → Controllers → Traffic → (ℕ → Bool) → Origins → ℕ → (ℕ → ℕ) → ℕ → Type 0
HaveWaitsUntil s controllers traffic planned of i waits by = (p : ℕ) → p < s.count → planned p ≡ true → may_go_before traffic i (of.source p) ≡ true
    → IsUnordered controllers p → s.queued p + waits (of.source p) < by → s.start p ≤ s.queued p + waits (of.source p)

-- Planned frames among all that are on a bus: of which streams they are, between which identifiers, and what else there is.
use Rattle.j39_timing.specs.declared.stream.Stream.{Stream}
use Rattle.std.specs.Prelude.{◌≡◌, ◌≢◌, ℕ, ◌+◌, ◌*◌, ◌<◌, ◌≤◌, ◌⊎◌, Bool, true, false, not, ◌&&◌, ◌||◌, cond, nat_eq, nat_lt, nat_le, List, Some}
use Rattle.j39_timing.specs.Sums.{total}
use Rattle.j39_timing.specs.TimedFrames.{Schedule, Waits}
use Rattle.j39_timing.specs.FrameStreams.{Origins, AreOfStreams}
use Rattle.j39_timing.specs.Waits.{Demand, IsSpaced, askers_want, demand_of, frames_of_want, frames_wanted, lesser_share}
use Rattle.j39_timing.specs.declared.wants.Want.{Want}

-- streams of planned frames, by their places, with their identifiers, which may change
pub record Traffic : Type 0 where
  pub count : ℕ
  pub stream : ℕ → Stream
  -- what is wanted of some of them, which name it by its place
  pub demands : List Demand
  -- no frame of the stream has a smaller identifier
  pub least : ℕ → ℕ
  -- and where it is one of single frames, none has a greater one
  pub greatest : ℕ → ℕ
  -- a frame of one stream may have the identifier of a frame of another one: they are twins, of one unit
  pub are_twins : ℕ → ℕ → Bool

-- how many planned frames of stream j have their releases in so many bits from bit t on
abbrev pub releases_in : Schedule → (ℕ → Bool) → Origins → ℕ → ℕ → ℕ → ℕ
releases_in s planned of j t span =
    total s.count (λ p. cond (planned p && (nat_eq (of.source p) j && (nat_le t (of.since p) && nat_lt (of.since p) (t + span)))) 1 0)

-- how many of them are queued in so many bits from bit t on
abbrev pub queuings_in : Schedule → (ℕ → Bool) → Origins → ℕ → ℕ → ℕ → ℕ
queuings_in s planned of j t span =
    total s.count (λ p. cond (planned p && (nat_eq (of.source p) j && (nat_le t (s.queued p) && nat_lt (s.queued p) (t + span)))) 1 0)

pub record AreAsWanted (s : Schedule) (planned : ℕ → Bool) (of : Origins) (demands : List Demand) (stream : ℕ → Stream) : Type 0 where
  -- of a stream of which its sender may want less than its pace allows, there are no more in any time than are wanted
  pub by_sender : (j t span : ℕ) (demand : Demand) → demand_of demands (stream j) ≡ Some demand → releases_in s planned of j t span ≤ frames_wanted span demand
  -- of one for whose messages others ask, no more are queued in any time than are wanted in it and in the jitter before
  pub by_askers : (j t span : ℕ) (want : Want) → askers_want (stream j) ≡ Some want
      → queuings_in s planned of j t span ≤ frames_of_want (span + (stream j).jitter) want

-- no stream is a twin of another
abbrev pub no_twins : ℕ → ℕ → Bool
no_twins i j = false

-- a frame of stream j may have the identifier of one of stream i: it is this stream, or a twin of it
abbrev pub may_share : Traffic → ℕ → ℕ → Bool
may_share traffic i j = nat_eq j i || traffic.are_twins i j

-- frames of no stream
pub record Others : Type 0 where
  -- none has a smaller identifier
  pub least : ℕ
  -- how many of them may go before a frame while it waits
  pub count : ℕ

-- each message of the stream is one frame, and the releases of two are a period apart
abbrev pub IsSingle : Stream → Type 0
IsSingle stream = (stream.frames ≡ 1) × IsSpaced stream

-- the frame is ready at bit t, and hasn't begun before it
abbrev pub IsQueuedAt : Schedule → ℕ → ℕ → Type 0
IsQueuedAt s p t = (s.queued p ≤ t) × (t ≤ s.start p)

-- at each bit behind `from`, up to `to`, some planned frame waits whose identifier is c at most
abbrev pub PlannedFramesWait : Schedule → (ℕ → Bool) → ℕ → ℕ → ℕ → Type 0
PlannedFramesWait s planned c from to =
    (t : ℕ) → from < t → t ≤ to → (p : ℕ) × (p < s.count) × (planned p ≡ true) × (s.ident p ≤ c) × Waits s p t

-- the frame isn't planned, has a smaller identifier than c, and is queued at some bit behind `from`, up to `to`
abbrev pub is_other_queued : Schedule → (ℕ → Bool) → ℕ → ℕ → ℕ → ℕ → Bool
is_other_queued s planned c from to p =
    not (planned p) && (nat_lt (s.ident p) c && (nat_le (s.queued p) to && nat_lt from (s.start p)))

-- how many such frames there are
abbrev pub others_queued : Schedule → (ℕ → Bool) → ℕ → ℕ → ℕ → ℕ
others_queued s planned c from to = total s.count (λ p. cond (is_other_queued s planned c from to p) 1 0)

-- the planned frames of a schedule are those of the streams, and what else is in it keeps within what is foreseen of others while frames of
-- stream i wait: `to_greatest` and `few_others` are asked of frames of stream i alone, `own_identifier` of those of its twins too, all else of
-- all frames
pub record IsPlannedTraffic (s : Schedule) (traffic : Traffic) (others : Others) (longest : ℕ) (planned : ℕ → Bool) (of : Origins) (i : ℕ) : Type 0 where
  -- no frame is longer
  pub longest_at_most : (p : ℕ) → p < s.count → s.bits p ≤ longest
  -- a planned frame is one of a stream
  pub of_streams : AreOfStreams s (λ p. planned p ≡ true) traffic.count traffic.stream of
  -- of which a unit queues no more than it wants
  pub as_wanted : AreAsWanted s planned of traffic.demands traffic.stream
  -- its identifier is one of the stream's: none is below the least, and of stream i none above the greatest
  pub from_least : (p : ℕ) → p < s.count → planned p ≡ true → traffic.least (of.source p) ≤ s.ident p
  pub to_greatest : (p : ℕ) → p < s.count → planned p ≡ true → of.source p ≡ i → s.ident p ≤ traffic.greatest i
  -- while a frame of this stream or of a twin is queued, nothing that is queued too has its identifier but frames of these
  pub own_identifier : (p q t : ℕ) → p < s.count → q < s.count → t < s.now → planned p ≡ true → may_share traffic i (of.source p) ≡ true
      → IsQueuedAt s p t → IsQueuedAt s q t → s.ident p ≡ s.ident q → (planned q ≡ true) × (may_share traffic i (of.source q) ≡ true)
  -- what isn't planned has no smaller identifier than this
  pub urgency_of_others : (p : ℕ) → p < s.count → planned p ≡ false → others.least ≤ s.ident p
  -- and while a frame of this stream waits, together with the time before in which planned frames that may go before it wait without a break, no
  -- more of what isn't planned are queued than so many that may go before it
  pub few_others : (p from to : ℕ) → p < s.count → planned p ≡ true → of.source p ≡ i → to < s.now → Waits s p to
      → PlannedFramesWait s planned (s.ident p) from to → others_queued s planned (s.ident p) from to ≤ others.count

-- frames of stream j may go before those of stream i, whatever identifiers they have
abbrev pub may_go_before : Traffic → ℕ → ℕ → Bool
may_go_before traffic i j = not (nat_eq j i) && (nat_lt (traffic.least j) (traffic.greatest i) || traffic.are_twins i j)

-- how many frames of others may go before one of this identifier
abbrev pub others_before : Others → ℕ → ℕ
others_before others ident = cond (nat_le others.least ident) others.count 0

-- the frame that has begun before, others, and what the streams that may go before can queue in the wait and in the bit behind fit in it: it
-- bounds the queueing delay (Davis, Burns, Bril, Lukkien, Real-Time Systems 35, 2007)
abbrev pub DemandFits : Traffic → Others → ℕ → ℕ → ℕ → Type 0
DemandFits traffic others longest i wait =
    longest * (1 + others_before others (traffic.greatest i))
    + total traffic.count (λ j. cond (may_go_before traffic i j) (lesser_share traffic.demands (wait + 1) (traffic.stream j)) 0) ≤ wait

-- frames of stream j may go before one of those of stream i, whatever identifiers they have: others of stream i too
abbrev pub may_go_beside : Traffic → ℕ → ℕ → Bool
may_go_beside traffic i j = nat_eq j i || may_go_before traffic i j

-- as `DemandFits`, where frames of stream i may be queued at once: what it can queue itself fits too, but for the frame that waits
abbrev pub OwnDemandFits : Traffic → Others → ℕ → ℕ → ℕ → Type 0
OwnDemandFits traffic others longest i wait =
    longest * (1 + others_before others (traffic.greatest i))
    + total traffic.count (λ j. cond (may_go_beside traffic i j) (lesser_share traffic.demands (wait + 1) (traffic.stream j)) 0)
    ≤ wait + (traffic.stream i).bits

-- the worst-case response time of a frame of the stream, from its release until it has been sent, where it waits for so many bits at most:
-- release jitter, queueing delay and the bits of the frame itself (Davis, Burns, Bril, Lukkien, 2007)
abbrev pub delay_of : Stream → ℕ → ℕ
delay_of stream wait = stream.jitter + (wait + stream.bits)

-- each frame of the stream begins in time, and so has been sent in time
abbrev pub IsStreamInTime : Schedule → (ℕ → Bool) → Origins → ℕ → Stream → ℕ → Type 0
IsStreamInTime s planned of i stream wait = (p : ℕ) → p < s.count → planned p ≡ true → of.source p ≡ i → of.since p + (stream.jitter + wait) < s.now
    → (s.start p ≤ s.queued p + wait) × (s.start p + s.bits p ≤ of.since p + delay_of stream wait)

-- of two frames of the stream each is queued after the end of the other, or the other way round
abbrev pub AreQueuedBehind : Schedule → (ℕ → Bool) → Origins → ℕ → Type 0
AreQueuedBehind s planned of i = (p q : ℕ) → p < s.count → q < s.count → p ≢ q → planned p ≡ true → planned q ≡ true
    → of.source p ≡ i → of.source q ≡ i → (s.start p + s.bits p ≤ s.queued q) ⊎ (s.start q + s.bits q ≤ s.queued p)

-- two frames of the stream have one identifier where from when one is queued up to when the other is, planned frames
-- that may go before this other one wait without a break: in such a time their unit doesn't change its address
abbrev pub AreSteady : Schedule → (ℕ → Bool) → Origins → ℕ → Type 0
AreSteady s planned of i = (p q : ℕ) → p < s.count → q < s.count → planned p ≡ true → planned q ≡ true
    → of.source p ≡ i → of.source q ≡ i → s.queued p ≤ s.queued q
    → PlannedFramesWait s planned (s.ident q) (s.queued p) (s.queued q) → s.ident p ≡ s.ident q

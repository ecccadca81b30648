-- The frames of a bus that are those of a plan's flows, among what else is on it; and what a delay says of them.
use Rattle.std.specs.Prelude.{◌≡◌, ℕ, ◌+◌, ◌^◌, ◌<◌, ◌≤◌, ◌⊎◌, Bool, true, false, List, [], ◌∷◌, ◌++◌, length, slice_index_or, unwrap_or, All, IfSome}
use Rattle.std.specs.Prelude.{IsPermutation, Option, Some, None}
use Rattle.std.specs.List.{filter_map, slice_get}
use Rattle.j39_network.specs.declared.plan.Plan.{Plan}
use Rattle.j39_network.specs.declared.plan.timing.Timing.{Timing}
use Rattle.j39_network.specs.declared.plan.unit_plan.UnitPlan.{UnitPlan}
use Rattle.j39_load.specs.declared.frames.broadcast.Broadcast.{Broadcast}
use Rattle.j39_load.specs.declared.waits.delay.Delay.{Delay}
use Rattle.j39_load.specs.declared.waits.delay.Delay.TheVariants.{Beyond, Whole, Within}
use Rattle.j39_load.specs.declared.frames.flow_frames.FlowFrames.{FlowFrames}
use Rattle.j39_load.specs.declared.loads.flow_load.FlowLoad.{FlowLoad}
use Rattle.j39_load.specs.declared.frames.messages.Messages.TheVariants.{Short, ToAll}
use Rattle.j39_load.specs.declared.waits.whole_time.WholeTime.{WholeTime}
use Rattle.j39_load.specs.AnyQueues.{IsQueueGroupLevel, IsBuffering, Buffering, are_of_unit, is_of_queue_group, keep_order, leasts_of, with_unplanned}
use Rattle.j39_load.specs.Asked.{Asked, asked_of, frames_asked}
use Rattle.j39_load.specs.Broadcasts.{broadcasts_by}
use Rattle.j39_load.specs.Damage.{damage_frames}
use Rattle.j39_load.specs.Demands.{demands_of}
use Rattle.j39_load.specs.Delays.{IsFrameDelay, IsWholeTime, announcements_place, packets_place, unplanned_idents}
use Rattle.j39_load.specs.LoadFindings.{AsksOfBus}
use Rattle.j39_load.specs.Loads.{bits_at_most}
use Rattle.j39_load.specs.Twins.{are_twins}
use Rattle.j39_timing.specs.AnyOrder.{Controllers, IsLegalInAnyOrder, IsUnordered}
use Rattle.j39_timing.specs.QueueGroups.{QueueGroup, QueueGroupWaits, unplanned_queued}
use Rattle.j39_timing.specs.FrameBits.{longest_frame}
use Rattle.j39_timing.specs.Messages.{AreSentInTurn, IsBroadcast, LongMessage, all_whole_at}
use Rattle.j39_timing.specs.TimedFrames.{Schedule, IsLegal, Waits}
use Rattle.j39_timing.specs.FrameStreams.{Origins}
use Rattle.j39_timing.specs.Traffic.{Traffic, Others, AreQueuedBehind, AreSteady, IsPlannedTraffic, IsQueuedAt, IsStreamInTime, delay_of}

-- frames of which none is ever queued
abbrev pub no_frames : FlowFrames
no_frames = record {
  stream = record { frames = 0; period = 1; bits = 0; jitter = 0; wanted = None };
  least_ident = 0;
  greatest_ident = 0;
  any_sender = None;
  any_receiver = None;
  last_ident = 0;
  twin_ident = None;
  want = None;
}

-- the frames at a place
abbrev pub planned_at : List (Option FlowFrames) → ℕ → FlowFrames
planned_at all j = unwrap_or (slice_index_or all j None) no_frames

-- these are the streams of planned frames
abbrev pub traffic_of : List (Option FlowFrames) → Traffic
traffic_of all = record {
  count = length all;
  stream = λ j. (planned_at all j).stream;
  demands = demands_of all;
  least = λ j. (planned_at all j).least_ident;
  greatest = λ j. (planned_at all j).greatest_ident;
  are_twins = λ i j. are_twins (planned_at all i) (planned_at all j);
}

-- what is of no planned flow has the priority that is reported of it
abbrev pub others_of : Timing → Others
others_of timing = record { least = unplanned_idents timing; count = timing.unplanned }

-- the planned frames of a schedule are those of the flows, with damaged attempts and error frames as `with_errors` of `j39_timing` has them,
-- and no frame has more than eight bytes: the premises one by one are the fields of `IsPlannedTraffic`
abbrev pub AreFramesOfPlan : Timing → List (Option FlowFrames) → Schedule → (ℕ → Bool) → Origins → ℕ → Type 0
AreFramesOfPlan timing all s planned of i = IsPlannedTraffic s (traffic_of (all ++ damage_frames timing)) (others_of timing) (longest_frame 8) planned of i

-- ---- units that keep no order

-- all streams of the queue group of some frames among all, with identifiers up to a level
abbrev pub queue_group_of : Timing → ℕ → List (Option FlowFrames) → FlowFrames → ℕ → QueueGroup
queue_group_of timing ends all own level = record {
  has = λ j. is_of_queue_group (leasts_of all) (with_unplanned timing ends own) level (planned_at all j);
  level = level;
}

-- what is asked of a bus while frames of a queue group wait
pub record KeepToQueueGroup (timing : Timing) (ends : ℕ) (s : Schedule) (planned : ℕ → Bool) (of : Origins) (queue_group : QueueGroup) : Type 0 where
  -- what isn't planned has an identifier below this end
  pub identifiers : (p : ℕ) → p < s.count → planned p ≡ false → s.queued p < s.now → s.ident p < ends
  -- while a frame of the queue group is queued, nothing that is queued too has its identifier but frames of the queue group
  pub own_identifiers : (p q t : ℕ) → p < s.count → q < s.count → t < s.now → planned p ≡ true → queue_group.has (of.source p) ≡ true
      → IsQueuedAt s p t → IsQueuedAt s q t → s.ident p ≡ s.ident q → (planned q ≡ true) × (queue_group.has (of.source q) ≡ true)
  -- while a frame of the queue group waits, together with the time before in which it and what goes with it wait without a
  -- break, no more frames that aren't planned are queued than are reported, whatever their identifiers are
  pub few_unplanned : (p from to : ℕ) → p < s.count → planned p ≡ true → queue_group.has (of.source p) ≡ true → to < s.now → Waits s p to
      → QueueGroupWaits s planned of queue_group from to → unplanned_queued s planned from to ≤ timing.unplanned

-- the planned frames are those of the plan's streams, and of its units
pub record AreFramesInAnyOrder (timing : Timing) (ends : ℕ) (all : List (Option FlowFrames)) (s : Schedule) (controllers : Controllers)
    (planned : ℕ → Bool) (of : Origins) (i : ℕ) : Type 0 where
  -- as where all units keep order
  pub known : AreFramesOfPlan timing all s planned of i
  -- what a unit sends that keeps no order is of a stream of which it is reported
  pub of_unit : (p : ℕ) → p < s.count → planned p ≡ true → IsUnordered controllers p
      → are_of_unit (planned_at all (of.source p)) (controllers.unit p) ≡ true
  -- no frame of such a stream has an identifier above its last one: announcements, answers and packets have the priority
  -- that is reported
  pub to_last : (p : ℕ) → p < s.count → planned p ≡ true → keep_order (planned_at all (of.source p)) ≡ false
      → s.ident p ≤ (planned_at all (of.source p)).last_ident
  -- where a stream of such a unit is the one that is judged, or may go before it, the bus keeps to its queue group
  pub queue_groups : (j level : ℕ) → (j ≡ i) ⊎ ((planned_at all j).least_ident < (planned_at all i).greatest_ident)
      → keep_order (planned_at all j) ≡ false → IsQueueGroupLevel (leasts_of all) all (with_unplanned timing ends (planned_at all j)) level
      → KeepToQueueGroup timing ends s planned of (queue_group_of timing ends all (planned_at all j) level)

-- every unit keeps order
abbrev pub AreAllOrdered : List (Option FlowFrames) → Type 0
AreAllOrdered all = (j : ℕ) → keep_order (planned_at all j) ≡ true

-- ---- bounds

-- in every legal schedule of such frames each one of these that should have been sent by now has begun within `wait` bits of being queued,
-- and has been sent within its delay from its release
abbrev pub IsInTimeOnEveryBus : Timing → List (Option FlowFrames) → ℕ → FlowFrames → ℕ → Type 0
IsInTimeOnEveryBus timing all i frames wait = (s : Schedule) (planned : ℕ → Bool) (of : Origins) → IsLegal s
    → AreFramesOfPlan timing all s planned of i → IsStreamInTime s planned of i frames.stream wait

-- the same where units keep order or don't
abbrev pub IsInTimeInAnyOrder : Timing → ℕ → List (Option FlowFrames) → ℕ → FlowFrames → ℕ → Type 0
IsInTimeInAnyOrder timing ends all i frames wait = (s : Schedule) (controllers : Controllers) (planned : ℕ → Bool) (of : Origins)
    → IsLegalInAnyOrder s controllers → AreFramesInAnyOrder timing ends all s controllers planned of i
    → IsStreamInTime s planned of i frames.stream wait

-- the flow's messages go in one frame, and its delay is reported by the least wait that has room; this is within its limit, and bounds its
-- frames' time on every bus
pub record IsBounded (timing : Timing) (asked : Asked) (flow bits : ℕ) : Type 0 where
  pub load : FlowLoad
  pub its : slice_get asked.flows flow ≡ Some (Some load)
  pub frames : FlowFrames
  pub short : load.messages ≡ Short frames
  pub wait : ℕ
  pub sum : bits ≡ delay_of frames.stream wait
  pub inside : bits ≤ load.limit
  pub buffering : Buffering
  pub is : IsBuffering timing asked.unplanned_end (frames_asked asked) buffering
  pub delayed : IsFrameDelay timing buffering flow frames load.limit (Within bits)
  pub in_any_order : IsInTimeInAnyOrder timing asked.unplanned_end (frames_asked asked) flow frames wait
  pub bounds : AreAllOrdered (frames_asked asked) → IsInTimeOnEveryBus timing (frames_asked asked) flow frames wait

-- the flow's messages go in one frame, and its delay is above a deadline that is written, and within its period; it bounds its frames' time on
-- every bus all the same
pub record IsBoundedBeyond (timing : Timing) (asked : Asked) (flow bits : ℕ) : Type 0 where
  pub load : FlowLoad
  pub its : slice_get asked.flows flow ≡ Some (Some load)
  pub frames : FlowFrames
  pub short : load.messages ≡ Short frames
  pub wait : ℕ
  pub sum : bits ≡ delay_of frames.stream wait
  pub beyond : load.limit < bits
  pub inside : bits ≤ frames.stream.period
  pub in_any_order : IsInTimeInAnyOrder timing asked.unplanned_end (frames_asked asked) flow frames wait
  pub bounds : AreAllOrdered (frames_asked asked) → IsInTimeOnEveryBus timing (frames_asked asked) flow frames wait

-- each delay that is reported is a bound
abbrev pub AreDelaysBounds : Timing → Asked → List (Option Delay) → Type 0
AreDelaysBounds timing asked delays =
    (flow bits : ℕ) → slice_get delays flow ≡ Some (Some (Within bits)) → IsBounded timing asked flow bits

-- also where it is above the deadline
abbrev pub AreLateDelaysBounds : Timing → Asked → List (Option Delay) → Type 0
AreLateDelaysBounds timing asked delays =
    (flow bits : ℕ) → slice_get delays flow ≡ Some (Some (Beyond bits)) → IsBoundedBeyond timing asked flow bits

-- and one is reported of each flow whose messages go in one frame
abbrev pub AreShortFlowsBounded : Timing → Asked → List (Option Delay) → Type 0
AreShortFlowsBounded timing asked delays = (flow : ℕ) (load : FlowLoad) (frames : FlowFrames) → slice_get asked.flows flow ≡ Some (Some load)
    → load.messages ≡ Short frames → (bits : ℕ) × (slice_get delays flow ≡ Some (Some (Within bits))) × IsBounded timing asked flow bits

-- ---- long messages to all

-- the frames of one of the two streams of a unit's broadcasts: it sends one message at a time, so each is queued after
-- the end of the one before; and while planned frames that may go before them wait without a break it doesn't change
-- its address, so they have one identifier
pub record ComeInTurn (timing : Timing) (all : List (Option FlowFrames)) (s : Schedule) (planned : ℕ → Bool) (of : Origins)
    (i : ℕ) : Type 0 where
  pub known : AreFramesOfPlan timing all s planned of i
  pub behind : AreQueuedBehind s planned of i
  pub steady : AreSteady s planned of i

-- the same where units keep order or don't: of a unit that keeps none it isn't asked how its frames come
pub record ComeInAnyOrder (timing : Timing) (ends : ℕ) (all : List (Option FlowFrames)) (s : Schedule) (controllers : Controllers)
    (planned : ℕ → Bool) (of : Origins) (i : ℕ) : Type 0 where
  pub known : AreFramesInAnyOrder timing ends all s controllers planned of i
  pub behind : keep_order (planned_at all i) ≡ true → AreQueuedBehind s planned of i
  pub steady : keep_order (planned_at all i) ≡ true → AreSteady s planned of i

-- of each of these broadcasts there is one message at most, of no more packets than the longest
abbrev pub AreMessagesOf : List Broadcast → List (Option LongMessage) → Type 0
AreMessagesOf [] [] = Unit {0}
AreMessagesOf [] (m ∷ ms) = ⊥
AreMessagesOf (b ∷ bs) [] = ⊥
AreMessagesOf (b ∷ bs) (m ∷ ms) = IfSome m (λ (one : LongMessage). length one.packets ≤ b.packets) × AreMessagesOf bs ms

-- so it is of these messages, in some order
pub record IsOneTurn (broadcasts : List Broadcast) (messages : List LongMessage) : Type 0 where
  pub each : List (Option LongMessage)
  pub fit : AreMessagesOf broadcasts each
  pub order : IsPermutation messages (filter_map (λ m. m) each)

-- in every legal schedule of such frames the messages of the unit at a place, of each flow one at most, are all whole
-- so many bits after the release: where the announcement of the first is queued no more than `jitter` bits after it,
-- that of each other one at the end of the message before, and each packet no more than the longest gap behind the end
-- of the frame before
abbrev pub AreWholeOnEveryBus : Timing → Asked → ℕ → ℕ → ℕ → Type 0
AreWholeOnEveryBus timing asked u jitter bits = (s : Schedule) (planned : ℕ → Bool) (of : Origins) → IsLegal s
    → ComeInTurn timing (frames_asked asked) s planned of (announcements_place asked u)
    → ComeInTurn timing (frames_asked asked) s planned of (packets_place asked u)
    → (messages : List LongMessage) (release : ℕ) → IsOneTurn (broadcasts_by u asked.flows) messages
    → All (IsBroadcast s planned of (announcements_place asked u) (packets_place asked u)) messages
    → AreSentInTurn s (bits_at_most timing timing.broadcast_gap_most) (release + jitter) messages → release + bits < s.now
    → all_whole_at s (release + jitter) messages ≤ release + bits

-- the same where units keep order or don't
abbrev pub AreWholeInAnyOrder : Timing → Asked → ℕ → ℕ → ℕ → Type 0
AreWholeInAnyOrder timing asked u jitter bits = (s : Schedule) (controllers : Controllers) (planned : ℕ → Bool)
    (of : Origins) → IsLegalInAnyOrder s controllers
    → ComeInAnyOrder timing asked.unplanned_end (frames_asked asked) s controllers planned of (announcements_place asked u)
    → ComeInAnyOrder timing asked.unplanned_end (frames_asked asked) s controllers planned of (packets_place asked u)
    → (messages : List LongMessage) (release : ℕ) → IsOneTurn (broadcasts_by u asked.flows) messages
    → All (IsBroadcast s planned of (announcements_place asked u) (packets_place asked u)) messages
    → AreSentInTurn s (bits_at_most timing timing.broadcast_gap_most) (release + jitter) messages → release + bits < s.now
    → all_whole_at s (release + jitter) messages ≤ release + bits

-- the flow's long messages go to all, this is their time, and it bounds them on every bus
pub record AreWholeWithin (timing : Timing) (asked : Asked) (flow : ℕ) (whole : WholeTime) (bits : ℕ) : Type 0 where
  pub load : FlowLoad
  pub its : slice_get asked.flows flow ≡ Some (Some load)
  pub broadcast : Broadcast
  pub long : load.messages ≡ ToAll broadcast
  pub buffering : Buffering
  pub is : IsBuffering timing asked.unplanned_end (frames_asked asked) buffering
  pub time : IsWholeTime timing asked buffering broadcast whole
  pub stated : whole.bits ≡ Some bits
  pub in_any_order : AreWholeInAnyOrder timing asked broadcast.sender broadcast.jitter bits
  pub bounds : AreAllOrdered (frames_asked asked) → AreWholeOnEveryBus timing asked broadcast.sender broadcast.jitter bits

-- each time that is reported is a bound
abbrev pub AreTimesBounds : Timing → Asked → List (Option Delay) → Type 0
AreTimesBounds timing asked delays = (flow bits : ℕ) (whole : WholeTime)
    → slice_get delays flow ≡ Some (Some (Whole whole)) → whole.bits ≡ Some bits → AreWholeWithin timing asked flow whole bits

-- and where a deadline is written of long messages to all, one within it is reported
abbrev pub AreDeadlinesKept : Timing → Asked → List (Option Delay) → Type 0
AreDeadlinesKept timing asked delays = (flow limit : ℕ) (load : FlowLoad) (broadcast : Broadcast)
    → slice_get asked.flows flow ≡ Some (Some load) → load.messages ≡ ToAll broadcast → broadcast.deadline ≡ Some limit
    → (whole : WholeTime) × (bits : ℕ) × (slice_get delays flow ≡ Some (Some (Whole whole))) × (whole.each ≡ true) × (bits ≤ limit)
    × AreWholeWithin timing asked flow whole bits

-- ---- plans

-- in time is a plan of which each flow has a delay that bounds it, within its limit, where its messages go in one
-- frame, and a time that bounds it, within its deadline, where they are long ones to all and a deadline is written:
-- whoever reports who stays reports the same
abbrev pub ArePlannedFramesInTime : Plan → Timing → Type 0
ArePlannedFramesInTime plan timing = (stays : UnitPlan → Bool) × (delays : List (Option Delay)) × AsksOfBus plan timing stays delays
    × AreShortFlowsBounded timing (asked_of timing plan stays) delays
    × AreDeadlinesKept timing (asked_of timing plan stays) delays

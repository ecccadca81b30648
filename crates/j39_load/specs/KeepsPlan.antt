-- What a bus keeps of a plan, in the plan's own words, where its planned frames are those of messages that go in one frame, of long messages to one
-- unit and to all, and of requests: no stream stands here, and nothing that is reported of what a flow asks of the bus.
use Rattle.std.specs.Prelude.{◌≡◌, ◌≢◌, ℕ, ◌+◌, ◌*◌, ◌^◌, ◌<◌, ◌≤◌, ◌⊎◌, Bool, true, false, List, [], ◌∷◌, length, Some}
use Rattle.std.specs.List.{slice_get}
use Rattle.std.specs.Option.{option_map_or}
use Rattle.j39_network.specs.declared.plan.Plan.{Plan}
use Rattle.j39_network.specs.declared.plan.flow_plan.FlowPlan.{FlowPlan}
use Rattle.j39_network.specs.declared.plan.group_plan.GroupPlan.{GroupPlan}
use Rattle.j39_network.specs.declared.plan.pace.Pace.{Pace}
use Rattle.j39_network.specs.declared.plan.queue.Queue.TheVariants.{Any, Priority}
use Rattle.j39_network.specs.declared.plan.timing.Timing.{Timing}
use Rattle.j39_network.specs.declared.plan.unit_plan.UnitPlan.{UnitPlan}
use Rattle.j39_load.specs.KeepsAnswers.{KeepsAnswers}
use Rattle.j39_load.specs.KeepsBroadcasts.{KeepsBroadcasts}
use Rattle.j39_load.specs.LiveClaims.{unplanned_end}
use Rattle.j39_load.specs.Ranks.{AreHeldApart, AreHeldByPlan}
use Rattle.j39_load.specs.SentFrames.{FrameSources, HasTime, Held, IsFrameOf, IsMsBefore, IsMsBehind, IsSentByUnit, IsSentEvery, IsWithinMs, Part, Source}
use Rattle.j39_load.specs.SentFrames.{HasOwnIdentifier, TakesPart}
use Rattle.j39_load.specs.SentFrames.{Single, First, InSession, Asking, Announcing, Carrying, RequestToSend, Packet, ClearToSend, EndAcknowledged}
use Rattle.j39_timing.specs.AnyOrder.{Controllers, IsLegalInAnyOrder}
use Rattle.j39_timing.specs.QueueGroups.{unplanned_queued}
use Rattle.j39_timing.specs.FrameStreams.{Origins}
use Rattle.j39_timing.specs.Messages.{frame_end}
use Rattle.j39_timing.specs.TimedFrames.{Schedule, IsLegal, Waits}
use Rattle.j39_timing.specs.Traffic.{IsQueuedAt, PlannedFramesWait, others_queued}
use Rattle.j39_tp.specs.Chunks.{packets_of}

-- the planned frames of a bus are those of flows and requests, and what else is on it keeps to what the plan reports of it
pub record KeepsToPlan (plan : Plan) (timing : Timing) (s : Schedule) (planned : ℕ → Bool) (sent : FrameSources) (held : Held) : Type 0 where
  pub frames : (p : ℕ) → p < s.count → planned p ≡ true → IsFrameOf plan timing s held sent.broadcasts (sent.source p) (sent.release p) p
  -- the releases of two messages of a flow, of those that go in one frame and of the long ones, and of two requests, are a period apart, and a long
  -- message has each of its parts once: but for flows that come only as answers
  pub apart : (p q ms : ℕ) → p < s.count → q < s.count → p ≢ q → planned p ≡ true → planned q ≡ true
      → sent.source p ≡ sent.source q → IsSentEvery plan (sent.source p) ms
      → IsMsBehind timing ms (sent.release p) (sent.release q) ⊎ IsMsBehind timing ms (sent.release q) (sent.release p)
  pub answers : KeepsAnswers plan timing s planned sent
  pub broadcasts : KeepsBroadcasts plan timing s planned sent
  -- each unit holds its planned address, or one of the pool if it has to move, and no two that are named hold one
  pub held_by_plan : (t : ℕ) → AreHeldByPlan plan (held.address t)
  pub held_apart : (t : ℕ) → AreHeldApart (held.named t) (held.address t)
  -- a frame that is of none of them has eight bytes at most, and the priority that is reported or a larger number; while a message of one frame is
  -- queued too, or a frame of a long message to all, it has another identifier; and where this one is of a flow with messages of one frame alone, or of
  -- a long message to all, no more of them go before it than are reported
  pub others_length : (p : ℕ) → p < s.count → planned p ≡ false → s.bits p ≤ 160
  pub others_priority : (p : ℕ) → p < s.count → planned p ≡ false → timing.unplanned_priority * 2 ^ 26 ≤ s.ident p
  pub others_identifier : (p q t : ℕ) → p < s.count → q < s.count → t < s.now → planned p ≡ true → HasOwnIdentifier (sent.source p)
      → planned q ≡ false → IsQueuedAt s p t → IsQueuedAt s q t → s.ident p ≢ s.ident q
  pub few_others : (p from to : ℕ) → p < s.count → planned p ≡ true → HasTime (sent.source p) → to < s.now → Waits s p to
      → PlannedFramesWait s planned (s.ident p) from to → others_queued s planned (s.ident p) from to ≤ timing.unplanned

-- ---- units that keep no order

-- who sends the frames, where units keep order or don't, and what else is asked of such a bus
pub record KeepsQueues (plan : Plan) (timing : Timing) (s : Schedule) (controllers : Controllers) (planned : ℕ → Bool) (sent : FrameSources) : Type 0 where
  -- a frame is sent by its own unit, and one with `queue = "priority"` keeps order
  pub sender : (p u : ℕ) → p < s.count → planned p ≡ true → IsSentByUnit plan (sent.source p) u → controllers.unit p ≡ u
  pub order : (u : ℕ) (unit : UnitPlan) → slice_get plan.units.items u ≡ Some unit → unit.queue ≡ Priority → controllers.keeps_order u ≡ true
  -- what isn't planned has an identifier of 29 bits, and that of a claim or of a request at most where no other frames are foreseen
  pub identifiers : (p : ℕ) → p < s.count → planned p ≡ false → s.ident p < unplanned_end plan
  -- while a frame of a message is queued in which one with `queue = "any"` takes part, one that isn't planned has another identifier
  pub others_apart : (p q t u : ℕ) (unit : UnitPlan) → p < s.count → q < s.count → t < s.now → planned p ≡ true → planned q ≡ false
      → TakesPart plan (sent.source p) u → slice_get plan.units.items u ≡ Some unit → unit.queue ≡ Any
      → IsQueuedAt s p t → IsQueuedAt s q t → s.ident p ≢ s.ident q
  -- while such a frame waits, and before as long as planned frames wait without a break, no more frames are queued that aren't planned than are
  -- reported, whatever their identifiers are
  pub few_unplanned : (p from to u : ℕ) (unit : UnitPlan) → p < s.count → planned p ≡ true
      → TakesPart plan (sent.source p) u → slice_get plan.units.items u ≡ Some unit → unit.queue ≡ Any
      → to < s.now → Waits s p to
      → ((t : ℕ) → from < t → t ≤ to → (q : ℕ) × (q < s.count) × (planned q ≡ true) × Waits s q t)
      → unplanned_queued s planned from to ≤ timing.unplanned

-- ---- streams

-- of a plan without flows nothing is reported of its units
abbrev pub units_stated : List FlowPlan → List UnitPlan → ℕ
units_stated [] units = 0
units_stated (flow ∷ flows) units = length units

-- where the frames of a source stand among all that the plan asks for: flows at the first places, in as many behind them single frames of flows with
-- long messages, then packets and announcements of units, and requests at the last ones
abbrev pub source_place : Plan → Source → ℕ
source_place plan (Single f) = f
source_place plan (First f) = length plan.flows.items + f
source_place plan (InSession f part) = f
source_place plan (Asking r) = 2 * length plan.flows.items + (2 * units_stated plan.flows.items plan.units.items + r)
source_place plan (Announcing u m) = 2 * length plan.flows.items + (units_stated plan.flows.items plan.units.items + u)
source_place plan (Carrying u m k) = 2 * length plan.flows.items + u

-- the packets of a flow's longest messages
abbrev pub packets_at : Plan → ℕ → ℕ
packets_at plan f = option_map_or (λ (flow : FlowPlan).
    option_map_or (λ (group : GroupPlan). packets_of group.most) (slice_get plan.groups.items flow.group) 0) (slice_get plan.flows.items f) 0

-- a number for each part of a message of so many packets
abbrev pub turn_of_part : ℕ → Part → ℕ
turn_of_part packets RequestToSend = 0
turn_of_part packets EndAcknowledged = 1
turn_of_part packets (Packet k) = 2 + k
turn_of_part packets (ClearToSend k) = 2 + (packets + k)

-- a message that goes in one frame has one part, and frames of long messages to all count as single ones
abbrev pub source_turn : Plan → Source → ℕ
source_turn plan (Single f) = 0
source_turn plan (First f) = 0
source_turn plan (InSession f part) = turn_of_part (packets_at plan f) part
source_turn plan (Asking r) = 0
source_turn plan (Announcing u m) = 0
source_turn plan (Carrying u m k) = 0

-- what each frame is of its stream
abbrev pub origins_of : Plan → FrameSources → Origins
origins_of plan sent = record { source = λ p. source_place plan (sent.source p); turn = λ p. source_turn plan (sent.source p); since = sent.release }

-- each message of the flow at this place goes in one frame
pub record IsSingleFlow (plan : Plan) (i : ℕ) : Type 0 where
  pub flow : FlowPlan
  pub its : slice_get plan.flows.items i ≡ Some flow
  pub group : GroupPlan
  pub of : slice_get plan.groups.items flow.group ≡ Some group
  pub short : group.most ≤ 8

-- ---- what is promised of it

-- each frame of a flow with messages of one frame that should have been sent by now has been sent within the period of its flow from its release,
-- and within a deadline that is written
abbrev pub AreSentInTime : Plan → Timing → Schedule → (ℕ → Bool) → FrameSources → Type 0
AreSentInTime plan timing s planned sent = (p f : ℕ) (flow : FlowPlan) (pace : Pace) → p < s.count → planned p ≡ true
    → sent.source p ≡ Single f → slice_get plan.flows.items f ≡ Some flow → flow.pace ≡ Some pace → IsMsBefore timing pace.period (sent.release p) s.now
    → IsWithinMs timing pace.period (sent.release p) (frame_end s p)
    × ((deadline : ℕ) → pace.deadline ≡ Some deadline → IsWithinMs timing deadline (sent.release p) (frame_end s p))

-- every unit's controller keeps order
abbrev pub KeepsAllOrder : Plan → Type 0
KeepsAllOrder plan = (u : ℕ) (unit : UnitPlan) → slice_get plan.units.items u ≡ Some unit → unit.queue ≡ Priority

-- so it is on every bus that keeps to the plan, where all units keep order, and where they do or don't
pub record AreFramesInTime (plan : Plan) (timing : Timing) : Type 0 where
  pub in_order : KeepsAllOrder plan → (s : Schedule) (planned : ℕ → Bool) (sent : FrameSources) (held : Held) → IsLegal s
      → KeepsToPlan plan timing s planned sent held → AreSentInTime plan timing s planned sent
  pub in_any_order : (s : Schedule) (controllers : Controllers) (planned : ℕ → Bool) (sent : FrameSources) (held : Held) → IsLegalInAnyOrder s controllers
      → KeepsToPlan plan timing s planned sent held → KeepsQueues plan timing s controllers planned sent → AreSentInTime plan timing s planned sent

-- ---- that it can be kept

-- there is a legal schedule that keeps to the plan, in which frames of this source are sent, as many as one likes
pub record CanBeKept (plan : Plan) (timing : Timing) (source : Source) (n : ℕ) : Type 0 where
  pub s : Schedule
  pub planned : ℕ → Bool
  pub sent : FrameSources
  pub held : Held
  pub legal : IsLegal s
  pub keeps : KeepsToPlan plan timing s planned sent held
  pub frames : s.count ≡ n
  pub all_planned : (p : ℕ) → planned p ≡ true
  pub of_source : (p : ℕ) → sent.source p ≡ source

-- a bus with planned frames alone: it is legal, whether its units keep order or not, and keeps to all that the plan reports
pub record KeptBus (plan : Plan) (timing : Timing) : Type 0 where
  pub s : Schedule
  pub controllers : Controllers
  pub planned : ℕ → Bool
  pub sent : FrameSources
  pub held : Held
  pub legal : IsLegal s
  pub any_order : IsLegalInAnyOrder s controllers
  pub keeps : KeepsToPlan plan timing s planned sent held
  pub queues : KeepsQueues plan timing s controllers planned sent
  pub all_planned : (p : ℕ) → planned p ≡ true

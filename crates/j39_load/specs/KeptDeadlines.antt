-- Each long message to all that has a deadline is whole within it, in the plan's own words: also one that is wanted while another one of its flow is
-- under way.
use Rattle.std.specs.Prelude.{◌≡◌, ℕ, suc, ◌-◌, ◌<◌, ◌≤◌, ◌⊎◌, Bool, true, Some}
use Rattle.std.specs.List.{slice_get}
use Rattle.j39_network.specs.declared.plan.Plan.{Plan}
use Rattle.j39_network.specs.declared.plan.flow_plan.FlowPlan.{FlowPlan}
use Rattle.j39_network.specs.declared.plan.pace.Pace.{Pace}
use Rattle.j39_network.specs.declared.plan.timing.Timing.{Timing}
use Rattle.j39_load.specs.KeepsBroadcasts.{KeepsTurns}
use Rattle.j39_load.specs.KeepsPlan.{KeepsQueues, KeepsToPlan, KeptBus}
use Rattle.j39_load.specs.SentFrames.{Announcing, Broadcasts, Carrying, FrameSources, Held, IsMsBefore, IsWithinMs, IsWithinUnitMs, Source}
use Rattle.j39_timing.specs.AnyOrder.{Controllers, IsLegalInAnyOrder}
use Rattle.j39_timing.specs.Messages.{frame_end}
use Rattle.j39_timing.specs.TimedFrames.{Schedule}

-- the planned frame at a place is of this source
abbrev pub IsSentAs : Schedule → (ℕ → Bool) → FrameSources → Source → ℕ → Type 0
IsSentAs s planned sent source p = (p < s.count) × (planned p ≡ true) × (sent.source p ≡ source)

-- each message is sent to its end, without a pause that is longer than the plan reports
pub record AreSentWhole (timing : Timing) (s : Schedule) (planned : ℕ → Bool) (sent : FrameSources) : Type 0 where
  -- where the announcement of a unit's message stands, and each of its packets
  pub announcement : ℕ → ℕ → ℕ
  pub packet : ℕ → ℕ → ℕ → ℕ
  pub announces : (u m : ℕ) → m < sent.broadcasts.count u → IsSentAs s planned sent (Announcing u m) (announcement u m)
  pub carries : (u m k : ℕ) → m < sent.broadcasts.count u → k < sent.broadcasts.packets u m → IsSentAs s planned sent (Carrying u m k) (packet u m k)
  -- a packet is queued no more than the longest gap behind the end of the frame before
  pub first_gap : (u m : ℕ) → m < sent.broadcasts.count u
      → IsWithinUnitMs timing timing.broadcast_gap_most (frame_end s (announcement u m)) (s.queued (packet u m 0))
  pub next_gap : (u m k : ℕ) → m < sent.broadcasts.count u → suc k < sent.broadcasts.packets u m
      → IsWithinUnitMs timing timing.broadcast_gap_most (frame_end s (packet u m k)) (s.queued (packet u m (suc k)))

-- from this bit on the receivers have the unit's message whole
abbrev pub whole_from : (timing : Timing) (s : Schedule) (planned : ℕ → Bool) (sent : FrameSources) → AreSentWhole timing s planned sent → ℕ → ℕ → ℕ
whole_from timing s planned sent sends u m = frame_end s (sends.packet u m (sent.broadcasts.packets u m - 1))

-- the unit doesn't let what is wanted wait longer than it has to, where its messages are whole at these bits
pub record TakeTurns (b : Broadcasts) (whole : ℕ → ℕ → ℕ) : Type 0 where
  -- a message has been announced where all that are sent before it are whole, and it is wanted, or one that is sent later
  pub at_once : (u m n t : ℕ) → m ≤ n → n < b.count u → b.wanted u n ≤ t → ((l : ℕ) → l < m → whole u l ≤ t) → b.announced u m ≤ t
  -- each other flow goes before a message once at most, from where this one is wanted, or from the end of the one of its flow before it: of two that
  -- are sent before it the first was whole by then
  pub once : (u l m n : ℕ) → l < m → m < n → n < b.count u → b.flow u l ≡ b.flow u m
      → (whole u l ≤ b.wanted u n) ⊎ ((i : ℕ) × (i < n) × (b.flow u i ≡ b.flow u n) × (whole u l ≤ whole u i))

-- on each bus that keeps to the plan, and on which units take turns so, each message of a flow with a deadline is whole within it from its release
abbrev pub AreEachInTime : Plan → Timing → Type 0
AreEachInTime plan timing = (s : Schedule) (controllers : Controllers) (planned : ℕ → Bool) (sent : FrameSources) (held : Held)
    → IsLegalInAnyOrder s controllers → KeepsToPlan plan timing s planned sent held → KeepsQueues plan timing s controllers planned sent
    → KeepsTurns s planned sent held → (sends : AreSentWhole timing s planned sent) → TakeTurns sent.broadcasts (whole_from timing s planned sent sends)
    → (u m : ℕ) (flow : FlowPlan) (pace : Pace) (limit : ℕ) → m < sent.broadcasts.count u → slice_get plan.flows.items (sent.broadcasts.flow u m) ≡ Some flow
    → flow.pace ≡ Some pace → pace.deadline ≡ Some limit → IsMsBefore timing limit (sent.broadcasts.release u m) s.now
    → IsWithinMs timing limit (sent.broadcasts.release u m) (whole_from timing s planned sent sends u m)

-- ---- that it can be kept

-- a bus on which the unit sends a long message of this flow, of so many packets, to all, to its end
pub record CanBeSentWhole (plan : Plan) (timing : Timing) (f u packets : ℕ) : Type 0 where
  pub bus : KeptBus plan timing
  pub turns : KeepsTurns bus.s bus.planned bus.sent bus.held
  pub sends : AreSentWhole timing bus.s bus.planned bus.sent
  pub takes : TakeTurns bus.sent.broadcasts (whole_from timing bus.s bus.planned bus.sent sends)
  pub one : bus.sent.broadcasts.count u ≡ 1
  pub of_flow : bus.sent.broadcasts.flow u 0 ≡ f
  pub long : bus.sent.broadcasts.packets u 0 ≡ packets

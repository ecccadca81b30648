-- That what is asked of a bus in the plan's own words can be met, all of it on one bus: frames that are as late as the jitter allows, an attempt that
-- is damaged, and units that keep order or don't.
use Rattle.std.specs.Prelude.{◌≡◌, ℕ, suc, ◌<◌, ◌≤◌, Bool, true}
use Rattle.j39_network.specs.declared.plan.Plan.{Plan}
use Rattle.j39_network.specs.declared.plan.pace.Pace.{Pace}
use Rattle.j39_network.specs.declared.plan.timing.ErrorRate.{ErrorRate}
use Rattle.j39_network.specs.declared.plan.timing.Timing.{Timing}
use Rattle.j39_load.specs.KeepsBroadcasts.{KeepsTurns}
use Rattle.j39_load.specs.KeepsErrors.{KeepsErrors, KeepsErrorsInAnyOrder}
use Rattle.j39_load.specs.KeepsPlan.{KeepsQueues, KeepsToPlan, KeptBus}
use Rattle.j39_load.specs.SentFrames.{FrameSources, Held, IsMsBehind, Source}
use Rattle.j39_load.specs.SentFrames.{Single, InSession, Asking, Announcing, Carrying, RequestToSend, Packet, ClearToSend, EndAcknowledged}
use Rattle.j39_timing.specs.AnyOrder.{Controllers}
use Rattle.j39_timing.specs.Errors.{Damaged, IsLegalInAnyOrderWithErrors, IsLegalWithErrors}
use Rattle.j39_timing.specs.Messages.{frame_end}
use Rattle.j39_timing.specs.TimedFrames.{Schedule}

-- a bus on which a flow of this pace is sent, one frame and so many more, of which the first is damaged once, or waits for one that is left half sent
pub record CanBeKeptTogether (plan : Plan) (timing : Timing) (rate : ErrorRate) (f : ℕ) (pace : Pace) (n : ℕ) (half_sent : Bool) : Type 0 where
  pub s : Schedule
  pub damaged : Damaged
  pub controllers : Controllers
  pub planned : ℕ → Bool
  pub sent : FrameSources
  pub held : Held
  -- it is legal, whether its units keep order or not, and keeps to all that the plan reports
  pub legal : IsLegalWithErrors s damaged
  pub any_order : IsLegalInAnyOrderWithErrors s controllers damaged
  pub keeps : KeepsToPlan plan timing s planned sent held
  pub queues : KeepsQueues plan timing s controllers planned sent
  pub errors : KeepsErrors timing rate s damaged planned sent
  pub errors_in_any_order : KeepsErrorsInAnyOrder plan timing s controllers damaged planned sent
  pub frames : s.count ≡ suc n
  pub of_flow : (p : ℕ) → sent.source p ≡ Single f
  pub all_planned : (p : ℕ) → planned p ≡ true
  -- each frame is queued no earlier than its jitter allows at most
  pub jitter : (p : ℕ) → IsMsBehind timing pace.jitter (sent.release p) (s.queued p)
  pub once : damaged.count ≡ 1
  pub of_first : (e : ℕ) → damaged.frame e ≡ 0
  pub of_another : (e : ℕ) → damaged.lost e ≡ half_sent

-- a frame of this source has been sent
abbrev pub HasBeenSent : Schedule → FrameSources → Source → Type 0
HasBeenSent s sent source = (p : ℕ) × (p < s.count) × (sent.source p ≡ source) × (frame_end s p ≤ s.now)

-- a bus on which a frame of the first flow is sent, a request, a long message of the second flow, of so many packets, to one unit, and one of the
-- unit u to all
pub record CanSendAll (plan : Plan) (timing : Timing) (f g r u packets more : ℕ) : Type 0 where
  pub bus : KeptBus plan timing
  pub turns : KeepsTurns bus.s bus.planned bus.sent bus.held
  -- all of it has been sent
  pub single : HasBeenSent bus.s bus.sent (Single f)
  pub request : HasBeenSent bus.s bus.sent (Asking r)
  pub asks : HasBeenSent bus.s bus.sent (InSession g RequestToSend)
  pub clears : HasBeenSent bus.s bus.sent (InSession g (ClearToSend 0))
  pub carries : (k : ℕ) → k < packets → HasBeenSent bus.s bus.sent (InSession g (Packet k))
  pub acknowledges : HasBeenSent bus.s bus.sent (InSession g EndAcknowledged)
  pub announces : HasBeenSent bus.s bus.sent (Announcing u 0)
  pub sends_all : (k : ℕ) → k < more → HasBeenSent bus.s bus.sent (Carrying u 0 k)

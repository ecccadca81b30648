-- What `load` reports of a flow each message of which goes in one frame holds in the plan's own words too, also where it is above the flow's deadline.
use Rattle.std.specs.Prelude.{◌≡◌, ℕ, ◌+◌, ◌<◌, ◌≤◌, ◌⊎◌, Bool, true, List, Option, Some}
use Rattle.std.specs.List.{slice_get}
use Rattle.j39_network.specs.declared.plan.Plan.{Plan}
use Rattle.j39_network.specs.declared.plan.timing.Timing.{Timing}
use Rattle.j39_load.specs.declared.waits.delay.Delay.{Delay}
use Rattle.j39_load.specs.declared.waits.delay.Delay.TheVariants.{Beyond, Within}
use Rattle.j39_load.specs.KeepsPlan.{KeepsAllOrder, KeepsQueues, KeepsToPlan}
use Rattle.j39_load.specs.SentFrames.{FrameSources, Held, Single}
use Rattle.j39_timing.specs.AnyOrder.{Controllers, IsLegalInAnyOrder}
use Rattle.j39_timing.specs.Messages.{frame_end}
use Rattle.j39_timing.specs.TimedFrames.{Schedule, IsLegal}

-- so many bits are reported of the flow, within its deadline or above it
abbrev pub IsReportedBound : List (Option Delay) → ℕ → ℕ → Type 0
IsReportedBound delays f bits = (slice_get delays f ≡ Some (Some (Within bits))) ⊎ (slice_get delays f ≡ Some (Some (Beyond bits)))

-- each frame of the flow that should have been sent by now has been sent within as many bits of its release
abbrev pub AreSentAsReported : Schedule → (ℕ → Bool) → FrameSources → ℕ → ℕ → Type 0
AreSentAsReported s planned sent f bits = (p : ℕ) → p < s.count → planned p ≡ true → sent.source p ≡ Single f → sent.release p + bits < s.now
    → frame_end s p ≤ sent.release p + bits

-- so it is on every bus that keeps to the plan, where all units keep order, and where they do or don't
pub record AreTimesKept (plan : Plan) (timing : Timing) (delays : List (Option Delay)) : Type 0 where
  pub in_order : KeepsAllOrder plan → (s : Schedule) (planned : ℕ → Bool) (sent : FrameSources) (held : Held) → IsLegal s
      → KeepsToPlan plan timing s planned sent held → (f bits : ℕ) → IsReportedBound delays f bits → AreSentAsReported s planned sent f bits
  pub in_any_order : (s : Schedule) (controllers : Controllers) (planned : ℕ → Bool) (sent : FrameSources) (held : Held) → IsLegalInAnyOrder s controllers
      → KeepsToPlan plan timing s planned sent held → KeepsQueues plan timing s controllers planned sent → (f bits : ℕ) → IsReportedBound delays f bits
      → AreSentAsReported s planned sent f bits

-- No receiver gives a long message to all up, in the plan's own words: it does so where no packet comes in 750 ms (SAE J1939-21, T1).
use Rattle.std.specs.Prelude.{◌≡◌, ℕ, ◌<◌, Bool, true, Some}
use Rattle.std.specs.List.{slice_get}
use Rattle.j39_network.specs.declared.plan.Plan.{Plan}
use Rattle.j39_network.specs.declared.plan.flow_plan.FlowPlan.{FlowPlan}
use Rattle.j39_network.specs.declared.plan.group_plan.GroupPlan.{GroupPlan}
use Rattle.j39_network.specs.declared.plan.pace.Pace.{Pace}
use Rattle.j39_network.specs.declared.plan.timing.Timing.{Timing}
use Rattle.j39_network.specs.declared.plan.to.To.TheVariants.{All}
use Rattle.j39_load.specs.KeepsBroadcasts.{KeepsTurns}
use Rattle.j39_load.specs.KeepsPlan.{KeepsQueues, KeepsToPlan}
use Rattle.j39_load.specs.SentFrames.{Carrying, FrameSources, Held, IsMsBefore, IsWithinEachMs, IsWithinUnitMs}
use Rattle.j39_timing.specs.AnyOrder.{Controllers, IsLegalInAnyOrder}
use Rattle.j39_timing.specs.Messages.{frame_end}
use Rattle.j39_timing.specs.TimedFrames.{Schedule}

-- of a unit whose long messages to all have a deadline each packet has ended within 750 ms, by whatever clock, of the end of a frame behind which it is queued as soon
-- as the plan reports
abbrev pub AreNotGivenUp : Plan → Timing → Type 0
AreNotGivenUp plan timing = (s : Schedule) (controllers : Controllers) (planned : ℕ → Bool) (sent : FrameSources) (held : Held)
    → IsLegalInAnyOrder s controllers → KeepsToPlan plan timing s planned sent held → KeepsQueues plan timing s controllers planned sent
    → KeepsTurns s planned sent held
    → (f : ℕ) (flow : FlowPlan) (pace : Pace) (group : GroupPlan) (limit : ℕ) → slice_get plan.flows.items f ≡ Some flow → flow.pace ≡ Some pace
    → slice_get plan.groups.items flow.group ≡ Some group → 8 < group.most → flow.to ≡ All → pace.deadline ≡ Some limit
    → (p q m k : ℕ) → q < s.count → planned q ≡ true → sent.source q ≡ Carrying flow.sender m k
    → IsWithinUnitMs timing timing.broadcast_gap_most (frame_end s p) (s.queued q) → IsMsBefore timing 750 (frame_end s p) s.now
    → IsWithinEachMs timing 750 (frame_end s p) (frame_end s q)

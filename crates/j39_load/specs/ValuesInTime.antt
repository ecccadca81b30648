-- A value arrives in time, in the plan's own words: on each bus that keeps to the plan what was received last of a flow that brings a unit what
-- it needs had its release within the age that this asks for, and each signal in its bytes reads there what was last written to it.
use Rattle.std.specs.Prelude.{◌≡◌, ℕ, ◌+◌, ◌*◌, ◌<◌, ◌≤◌, Bool, false, List, Some}
use Rattle.std.specs.List.{slice_get}
use Rattle.j39_network.specs.Serving.{Meets}
use Rattle.j39_network.specs.declared.plan.Plan.{Plan}
use Rattle.j39_network.specs.declared.plan.flow_plan.FlowPlan.{FlowPlan}
use Rattle.j39_network.specs.declared.plan.group_plan.GroupPlan.{GroupPlan}
use Rattle.j39_network.specs.declared.plan.need_plan.NeedPlan.{NeedPlan}
use Rattle.j39_network.specs.declared.plan.pace.Pace.{Pace}
use Rattle.j39_network.specs.declared.plan.timing.Timing.{Timing}
use Rattle.j39_load.specs.Clocks.{IsTrueTime, longest_million, million}
use Rattle.j39_load.specs.KeepsPlan.{KeepsAllOrder, KeepsQueues, KeepsToPlan, origins_of}
use Rattle.j39_load.specs.ReadInTime.{CarryWritten, ReadAsWritten}
use Rattle.j39_load.specs.SentFrames.{FrameSources, Held, IsMsBefore, IsMsBehind}
use Rattle.j39_timing.specs.AnyOrder.{Controllers, IsLegalInAnyOrder}
use Rattle.j39_timing.specs.FreshFrames.{IsNewest}
use Rattle.j39_timing.specs.Messages.{IsOf}
use Rattle.j39_timing.specs.TimedFrames.{Schedule, IsLegal}

-- at each bit from one to another a message of the flow has had its release in the last `pause` milliseconds of a clock that its unit can have
abbrev pub KeepsPause : Plan → Timing → (ℕ → ℕ) → Schedule → (ℕ → Bool) → FrameSources → ℕ → ℕ → ℕ → ℕ → Type 0
KeepsPause plan timing time s planned sent flow pause from to = (t : ℕ) → from ≤ t → t ≤ to
    → (p : ℕ) × IsOf s planned (origins_of plan sent) flow p × (sent.release p ≤ t)
    × (time t < time (sent.release p) + 1000 * pause * longest_million timing)

-- the frame of the flow that has ended last by bit t had its release within so many milliseconds of true time, and its bytes read as they were written
abbrev pub IsYoungAt : (plan : Plan) → (ℕ → ℕ) → (s : Schedule) (planned : ℕ → Bool) (sent : FrameSources) (flow : ℕ) (group : GroupPlan) (bytes : ℕ → List ℕ)
    → CarryWritten s planned (origins_of plan sent) flow group bytes → ℕ → ℕ → Type 0
IsYoungAt plan time s planned sent flow group bytes written within t = ((p : ℕ) × IsNewest s planned (origins_of plan sent) flow t p)
    × ((p : ℕ) → (newest : IsNewest s planned (origins_of plan sent) flow t p)
    → (time t ≤ time (sent.release p) + 1000 * within * million) × ReadAsWritten group (bytes p) (written p newest.has_ended.its))

-- so it is on a bus, by whatever clock it has, while the flow keeps its pause, from its period on
abbrev pub ArriveOn : Plan → Timing → Schedule → (ℕ → Bool) → FrameSources → ℕ → Pace → ℕ → GroupPlan → ℕ → Type 0
ArriveOn plan timing s planned sent flow pace pause group within = (bytes : ℕ → List ℕ)
    (written : CarryWritten s planned (origins_of plan sent) flow group bytes) (time : ℕ → ℕ) → IsTrueTime timing time
    → (from to : ℕ) → KeepsPause plan timing time s planned sent flow pause from to
    → IsMsBefore timing pace.period to s.now → (t : ℕ) → IsMsBehind timing pace.period from t → t ≤ to
    → IsYoungAt plan time s planned sent flow group bytes written within t

-- some flow that isn't sent as an answer meets the need, and what it brings is young on every bus that keeps to the plan
pub record IsValueInTime (plan : Plan) (timing : Timing) (need : NeedPlan) (within : ℕ) : Type 0 where
  pub place : ℕ
  pub flow : FlowPlan
  pub its : slice_get plan.flows.items place ≡ Some flow
  pub meets : Meets plan.requests.items need flow
  pub unasked : flow.on_request ≡ false
  pub pace : Pace
  pub paced : flow.pace ≡ Some pace
  pub pause : ℕ
  pub paused : flow.pause ≡ Some pause
  pub group : GroupPlan
  pub of : slice_get plan.groups.items flow.group ≡ Some group
  pub in_any_order : (s : Schedule) (controllers : Controllers) (planned : ℕ → Bool) (sent : FrameSources) (held : Held) → IsLegalInAnyOrder s controllers
      → KeepsToPlan plan timing s planned sent held → KeepsQueues plan timing s controllers planned sent
      → ArriveOn plan timing s planned sent place pace pause group within
  pub in_order : KeepsAllOrder plan → (s : Schedule) (planned : ℕ → Bool) (sent : FrameSources) (held : Held) → IsLegal s
      → KeepsToPlan plan timing s planned sent held
      → ArriveOn plan timing s planned sent place pace pause group within

-- so it is of each need that asks for an age
abbrev pub AreValuesInTime : Plan → Timing → Type 0
AreValuesInTime plan timing = (n : ℕ) (need : NeedPlan) (within : ℕ) → slice_get plan.needs.items n ≡ Some need → need.within ≡ Some within
    → IsValueInTime plan timing need within

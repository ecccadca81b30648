-- What a plan is good for that finds no need too old: on every bus, while some flow that meets the need keeps its `pause`, what this flow
-- brings is never older than the need asks for.
use Rattle.std.specs.Prelude.{◌≡◌, ℕ, ◌+◌, ◌*◌, ◌<◌, ◌≤◌, Bool, false, List, Option, Some}
use Rattle.std.specs.List.{slice_get}
use Rattle.j39_network.specs.Serving.{Meets}
use Rattle.j39_network.specs.declared.plan.Plan.{Plan}
use Rattle.j39_network.specs.declared.plan.flow_plan.FlowPlan.{FlowPlan}
use Rattle.j39_network.specs.declared.plan.need_plan.NeedPlan.{NeedPlan}
use Rattle.j39_network.specs.declared.plan.timing.Timing.{Timing}
use Rattle.j39_network.specs.declared.plan.unit_plan.UnitPlan.{UnitPlan}
use Rattle.j39_load.specs.declared.waits.delay.Delay.{Delay}
use Rattle.j39_load.specs.declared.waits.delay.Delay.TheVariants.{Within}
use Rattle.j39_load.specs.Ages.{least_age}
use Rattle.j39_load.specs.Asked.{Asked, asked_of, frames_asked}
use Rattle.j39_load.specs.LoadFindings.{AsksOfBus}
use Rattle.j39_load.specs.Loads.{us_of_bits, us_of_unit_ms}
use Rattle.j39_load.specs.PlannedFrames.{AreAllOrdered, AreFramesInAnyOrder, AreFramesOfPlan, IsBounded}
use Rattle.j39_timing.specs.FreshFrames.{IsFresh, KeepsComing}
use Rattle.j39_timing.specs.AnyOrder.{Controllers, IsLegalInAnyOrder}
use Rattle.j39_timing.specs.TimedFrames.{Schedule, IsLegal}
use Rattle.j39_timing.specs.FrameStreams.{Origins}
use Rattle.j39_timing.specs.declared.stream.Stream.{Stream}

-- In every legal schedule of such frames: while a frame of the flow has had its release in the last `pause` bits, from its delay on a frame of
-- it has ended that had its release in the last `pause` bits and its delay.
abbrev pub IsFreshOnEveryBus : Timing → Asked → ℕ → ℕ → Stream → ℕ → ℕ → Type 0
IsFreshOnEveryBus timing asked flow pause stream wait delay = (s : Schedule) (planned : ℕ → Bool) (of : Origins) → IsLegal s
    → AreFramesOfPlan timing (frames_asked asked) s planned of flow → (from to : ℕ) → KeepsComing s planned of flow pause from to
    → to + (stream.jitter + wait) < s.now → IsFresh s planned of flow (pause + delay) (from + delay) (to + delay)

-- the same where units keep order or don't
abbrev pub IsFreshInAnyOrder : Timing → Asked → ℕ → ℕ → Stream → ℕ → ℕ → Type 0
IsFreshInAnyOrder timing asked flow pause stream wait delay = (s : Schedule) (controllers : Controllers) (planned : ℕ → Bool) (of : Origins)
    → IsLegalInAnyOrder s controllers → AreFramesInAnyOrder timing asked.unplanned_end (frames_asked asked) s controllers planned of flow → (from to : ℕ)
    → KeepsComing s planned of flow pause from to → to + (stream.jitter + wait) < s.now
    → IsFresh s planned of flow (pause + delay) (from + delay) (to + delay)

-- some flow that isn't sent as an answer meets the need; the longest time that it may be silent and its delay, which bounds its frames' time on every bus, are together
-- so many microseconds at most; and what comes by it is never older, however many bits it is silent for
pub record IsNeedFresh (plan : Plan) (timing : Timing) (asked : Asked) (delays : List (Option Delay)) (need : NeedPlan) (most : ℕ) : Type 0 where
  pub place : ℕ
  pub flow : FlowPlan
  pub its : slice_get plan.flows.items place ≡ Some flow
  pub meets : Meets plan.requests.items need flow
  pub unasked : flow.on_request ≡ false
  pub pause : ℕ
  pub paused : flow.pause ≡ Some pause
  pub bits : ℕ
  pub delayed : slice_get delays place ≡ Some (Some (Within bits))
  pub young : us_of_unit_ms timing pause + us_of_bits timing bits ≤ most
  pub bounded : IsBounded timing asked place bits
  pub in_any_order : (silent : ℕ) →
      IsFreshInAnyOrder timing asked place silent bounded.frames.stream bounded.wait bits
  pub fresh : (silent : ℕ) → AreAllOrdered (frames_asked asked)
      → IsFreshOnEveryBus timing asked place silent bounded.frames.stream bounded.wait bits

-- so it is of each need of a plan that asks for an age: whoever reports who stays reports the same
abbrev pub AreNeedsFresh : Plan → Timing → Type 0
AreNeedsFresh plan timing = (stays : UnitPlan → Bool) × (delays : List (Option Delay)) × AsksOfBus plan timing stays delays
    × ((n : ℕ) (need : NeedPlan) (within : ℕ) → slice_get plan.needs.items n ≡ Some need → need.within ≡ Some within
    → IsNeedFresh plan timing (asked_of timing plan stays) delays need (1000 * within))

-- and each age that is reported of a need is one, whether the need asks for less or not
abbrev pub AreNeedAgesBounds : Plan → Timing → Asked → List (Option Delay) → Type 0
AreNeedAgesBounds plan timing asked delays = (n : ℕ) (need : NeedPlan) (age : ℕ) → slice_get plan.needs.items n ≡ Some need
    → least_age timing plan.requests.items plan.flows.items delays need ≡ Some age → IsNeedFresh plan timing asked delays need age

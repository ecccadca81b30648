-- Of which flows of a plan an audit tells silence, and which it judges by their response times, in the words of the plan and of `load`.
use Rattle.std.specs.Prelude.{◌≡◌, ◌⊎◌, ◌↔◌, ℕ, ◌*◌, ◌≤◌, Bool, List, length, true, false, Option, Some}
use Rattle.std.specs.List.{slice_get}
use Rattle.j39_load.specs.BusTimes.{timing_of}
use Rattle.j39_load.specs.LoadFindings.{AsksOfBus}
use Rattle.j39_load.specs.Loads.{us_of_bits}
use Rattle.j39_load.specs.declared.waits.delay.Delay.{Delay}
use Rattle.j39_load.specs.declared.waits.delay.Delay.TheVariants.{Within, Beyond}
use Rattle.j39_network.specs.declared.plan.Plan.{Plan}
use Rattle.j39_network.specs.declared.plan.flow_plan.FlowPlan.{FlowPlan}
use Rattle.j39_network.specs.declared.plan.group_plan.GroupPlan.{GroupPlan}
use Rattle.j39_network.specs.declared.plan.pace.Pace.{Pace}
use Rattle.j39_network.specs.declared.plan.timing.Timing.{Timing}
use Rattle.j39_network.specs.declared.plan.to.To.TheVariants.{One}
use Rattle.j39_network.specs.declared.plan.unit_plan.UnitPlan.{UnitPlan}
use Rattle.j39_audit.specs.MessageStreams.{flow_pause}
use Rattle.j39_audit.specs.Responses.{AreResponses}
use Rattle.j39_audit.specs.Settings.{Settings}
use Rattle.j39_audit.specs.declared.streams.FlowPause.{FlowPause}

-- ---- silence

-- the unit at a place claims
abbrev pub IsClaimer : Plan → ℕ → Type 0
IsClaimer plan u = (unit : UnitPlan) × (slice_get plan.units.items u ≡ Some unit) × (unit.claims ≡ true)

-- the flow at a place has a pause and a period and isn't sent as an answer, each of its messages has 8 bytes at most, and its sender and its one
-- receiver claim, so that a log shows whether they are there
pub record ShowsItsPause (plan : Plan) (n : ℕ) : Type 0 where
  pub flow : FlowPlan
  pub its : slice_get plan.flows.items n ≡ Some flow
  pub pause : ℕ
  pub has_pause : flow.pause ≡ Some pause
  pub pace : Pace
  pub has_pace : flow.pace ≡ Some pace
  pub unasked : flow.on_request ≡ false
  pub group : GroupPlan
  pub sends : slice_get plan.groups.items flow.group ≡ Some group
  pub short : group.most ≤ 8
  pub sender : IsClaimer plan flow.sender
  pub receiver : (v : ℕ) → flow.to ≡ One v → IsClaimer plan v

-- of such flows silence is told, and of no others, where no frames are missing in the log
abbrev pub SilenceIsToldOf : Type 0
SilenceIsToldOf = (s : Settings) (t : Timing) (n : ℕ) → ((p : FlowPause) × (flow_pause s t n ≡ Some p)) ↔ ((s.part ≡ false) × ShowsItsPause s.plan n)

-- ---- response times

-- `load` answers a time for the flow at a place: within its limit, or above it
abbrev pub IsTimed : List (Option Delay) → ℕ → ℕ → Type 0
IsTimed delays n bits = (slice_get delays n ≡ Some (Some (Within bits))) ⊎ (slice_get delays n ≡ Some (Some (Beyond bits)))

-- each such flow, and no other, is judged by a time: no less than the microseconds of true time that these bits last at most, by a logger's clock
-- that may be a thousandth fast
pub record AreJudgedByTimes (timing : Timing) (delays : List (Option Delay)) (times : List (Option ℕ)) : Type 0 where
  pub count : length times ≡ length delays
  pub judged : (n bits : ℕ) → IsTimed delays n bits
      → (us : ℕ) × (slice_get times n ≡ Some (Some us)) × (1001 * us_of_bits timing bits ≤ 1000 * us)
  pub others : (n us : ℕ) → slice_get times n ≡ Some (Some us) → (bits : ℕ) × IsTimed delays n bits

-- whatever reports who stays and how long the flows of a plan take
abbrev pub TimedFlowsAreJudged : Type 0
TimedFlowsAreJudged = (plan : Plan) (timing : Timing) (stays : UnitPlan → Bool) (delays : List (Option Delay)) (times : List (Option ℕ))
    → timing_of plan ≡ Some timing → AsksOfBus plan timing stays delays → AreResponses plan times → AreJudgedByTimes timing delays times

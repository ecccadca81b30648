-- That all that is asked of one bus can be kept at once, for as long as one likes, so that a value arrives there in time.
use Rattle.std.specs.Prelude.{◌≡◌, ℕ, ◌≤◌, false, List, Some}
use Rattle.std.specs.List.{slice_get}
use Rattle.j39_id.specs.Pgn.{IsPgn}
use Rattle.j39_network.specs.PlannedUnits.{units_of}
use Rattle.j39_network.specs.declared.plan.Plan.{Plan}
use Rattle.j39_network.specs.declared.plan.flow_plan.FlowPlan.{FlowPlan}
use Rattle.j39_network.specs.declared.plan.group_plan.GroupPlan.{GroupPlan}
use Rattle.j39_network.specs.declared.plan.pace.Pace.{Pace}
use Rattle.j39_network.specs.declared.plan.timing.Timing.{Timing}
use Rattle.j39_world.specs.HeldAddresses.{ArePlannedApart}
use Rattle.j39_load.specs.AskedFlows.{is_answering}
use Rattle.j39_load.specs.Clocks.{IsTrueTime}
use Rattle.j39_load.specs.KeepsPlan.{KeptBus, origins_of}
use Rattle.j39_load.specs.ReadInTime.{AreWritten, CarryWritten}
use Rattle.j39_load.specs.SentFrames.{IsMsBefore}
use Rattle.j39_load.specs.ValuesInTime.{KeepsPause}
use Rattle.j39_timing.specs.FreshFrames.{HasEnded}

-- a flow each message of which goes in one frame, with a period and a pause that isn't shorter, and that doesn't come only as an answer to requests that
-- have a period
pub record IsSingleWithPause (plan : Plan) (f : ℕ) (flow : FlowPlan) (pace : Pace) (pause : ℕ) (group : GroupPlan) : Type 0 where
  pub its : slice_get plan.flows.items f ≡ Some flow
  pub paced : flow.pace ≡ Some pace
  pub paused : flow.pause ≡ Some pause
  pub longer : pace.period ≤ pause
  pub of : slice_get plan.groups.items flow.group ≡ Some group
  pub short : group.most ≤ 8
  pub number : IsPgn group.pgn
  pub unasked : is_answering plan.requests.items flow ≡ false

-- a bus that keeps to the plan, in which each frame of the flow has these bytes, which were written; by whatever clock it has, the flow keeps its
-- pause up to this bit, by which a frame of it has ended, and it is seen for a period more
pub record CanBringValues (plan : Plan) (timing : Timing) (f : ℕ) (pace : Pace) (pause : ℕ) (group : GroupPlan) (value : List ℕ) (to : ℕ) : Type 0 where
  pub bus : KeptBus plan timing
  pub bytes : ℕ → List ℕ
  pub are : (p : ℕ) → bytes p ≡ value
  pub written : CarryWritten bus.s bus.planned (origins_of plan bus.sent) f group bytes
  pub pauses : (time : ℕ → ℕ) → IsTrueTime timing time → KeepsPause plan timing time bus.s bus.planned bus.sent f pause 0 to
  pub seen : IsMsBefore timing pace.period to bus.s.now
  pub frame : ℕ
  pub ended : HasEnded bus.s bus.planned (origins_of plan bus.sent) f to frame

abbrev pub CanValuesBeBrought : Plan → Timing → Type 0
CanValuesBeBrought plan timing = ArePlannedApart (units_of plan) → (f : ℕ) (flow : FlowPlan) (pace : Pace) (pause : ℕ) (group : GroupPlan)
    → IsSingleWithPause plan f flow pace pause group → (value : List ℕ) → AreWritten group value → (to : ℕ) → 80 ≤ to
    → CanBringValues plan timing f pace pause group value to

-- Gaps: the log has no frame for so long that the bus may have slept, the logger may have stood still, or its clock may have been set.
use Rattle.std.specs.Prelude.{ℕ, ◌+◌, ◌*◌, min, max, nat_le, nat_lt, ◌||◌, Bool, false, if◌then◌else◌, length, Option, Some, None}
use Rattle.std.specs.List.{slice_get}
use Rattle.std.specs.Option.{option_and_then}
use Rattle.j39_id.specs.Limits.{frame_bytes}
use Rattle.j39_network.specs.declared.plan.Plan.{Plan}
use Rattle.j39_network.specs.declared.plan.flow_plan.FlowPlan.{FlowPlan}
use Rattle.j39_network.specs.declared.plan.group_plan.GroupPlan.{GroupPlan}
use Rattle.j39_audit.specs.Below.{least_below}
use Rattle.j39_audit.specs.Breaks.{breaks}

-- ---- how long, in milliseconds

-- the pause of the flow at a place, each message of which goes in one frame
abbrev pub pause_of_frames : FlowPlan → GroupPlan → Option ℕ
pause_of_frames flow group = if nat_le group.most frame_bytes then flow.pause else None

unfoldable pub single_pause : Plan → ℕ → Option ℕ
single_pause plan n = option_and_then (λ (flow : FlowPlan). option_and_then (λ (group : GroupPlan). pause_of_frames flow group)
    (slice_get plan.groups.items flow.group)) (slice_get plan.flows.items n)

unfoldable pub least_pause : Plan → Option ℕ
least_pause plan = least_below (single_pause plan) (length plan.flows.items)

-- four of the least pause, a tenth of a second at least, and a second at most
abbrev pub usual_quiet : Option ℕ → ℕ
usual_quiet None = 1000
usual_quiet (Some pause) = min 1000 (max 100 (4 * pause))

-- as it is given, or by the plan
abbrev pub quiet_by : Plan → Option ℕ → ℕ
quiet_by plan (Some quiet) = quiet
quiet_by plan None = usual_quiet (least_pause plan)

-- ---- a frame

-- it comes so long behind the one before
abbrev pub is_long_behind : ℕ → Option ℕ → Option ℕ → Bool
is_long_behind quiet (Some before) (Some time) = nat_lt (before + 1000 * quiet) time
is_long_behind quiet _ _ = false

-- a gap ends just before it: so it is also where the log breaks off
abbrev pub ends_gap : ℕ → ℕ → Option ℕ → Option ℕ → Option ℕ → Bool
ends_gap stamps quiet newest before time = breaks stamps newest time || is_long_behind quiet before time

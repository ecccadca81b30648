-- That no message counts twice: as an answer or a refusal of a request, or for a need.
use Rattle.std.specs.Prelude.{◌≡◌, ℕ, ◌+◌, ◌≤◌, Bool, false, List, count_by, Some}
use Rattle.std.specs.List.{slice_get}
use Rattle.std.specs.Option.{option_map_or}
use Rattle.j39_network.specs.Serving.{meets}
use Rattle.j39_network.specs.declared.plan.Plan.{Plan}
use Rattle.j39_network.specs.declared.plan.need_plan.NeedPlan.{NeedPlan}
use Rattle.j39_network.specs.declared.plan.request_plan.RequestPlan.{RequestPlan}
use Rattle.j39_follow.specs.FollowText.{times_met}
use Rattle.j39_follow.specs.LoggedRequests.{answers, refuses, times_answered, times_asked, times_refused}
use Rattle.j39_follow.specs.declared.request.event.Event.{Event}
use Rattle.j39_follow.specs.declared.message.Sort.{Sort}
use Rattle.j39_follow.specs.declared.message.Sort.TheVariants.{Grouped}

-- each time that a request is asked counts one answer or one refusal at most, and each of these counts once at most
pub record IsAnsweredOnce (plan : Plan) (place : ℕ) (r : RequestPlan) (events : List Event) : Type 0 where
  pub asked : times_answered plan place r events + times_refused plan place r events ≤ times_asked place events
  pub answered : times_answered plan place r events ≤ count_by (answers plan r) events
  pub refused : times_refused plan place r events ≤ count_by (refuses plan r) events

-- the message is of a flow that meets the need
abbrev pub is_met_by : Plan → NeedPlan → Sort → Bool
is_met_by plan need (Grouped group (Some f)) = option_map_or (meets plan.requests.items need) (slice_get plan.flows.items f) false
is_met_by plan need _ = false

-- ---- laws

abbrev pub RequestsAreAnsweredOnce : Type 0
RequestsAreAnsweredOnce = (plan : Plan) (place : ℕ) (r : RequestPlan) (events : List Event) → IsAnsweredOnce plan place r events

-- a need was met as often as messages came of flows that meet it
abbrev pub NeedsAreMetOnce : Type 0
NeedsAreMetOnce = (plan : Plan) (need : NeedPlan) (sent : List Sort)
    → times_met plan.requests.items sent need 0 plan.flows.items ≡ count_by (is_met_by plan need) sent

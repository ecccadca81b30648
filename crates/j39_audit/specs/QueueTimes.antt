-- Within how many milliseconds of its moment a message of a flow is queued, where such moments are a period apart.
use Rattle.std.specs.Prelude.{◌≡◌, ℕ, ◌||◌, nat_lt, not, if◌then◌else◌, Bool, List, map, Option, Some, None}
use Rattle.std.specs.List.{slice_get}
use Rattle.std.specs.Option.{option_and_then}
use Rattle.j39_load.specs.AnswerStreams.{answered_within, askers_of}
use Rattle.j39_load.specs.AskedFlows.{is_answering, is_asked_too_often}
use Rattle.j39_network.specs.declared.plan.Plan.{Plan}
use Rattle.j39_network.specs.declared.plan.flow_plan.FlowPlan.{FlowPlan}
use Rattle.j39_network.specs.declared.plan.pace.Pace.{Pace}
use Rattle.j39_network.specs.declared.plan.request_plan.RequestPlan.{RequestPlan}

-- several requests ask for the flow, or one oftener than once in its period: so two of its messages may come at once
abbrev pub is_asked_oftener : List RequestPlan → FlowPlan → Bool
is_asked_oftener requests flow = nat_lt 1 (askers_of requests flow) || is_asked_too_often requests flow

-- a message of a flow of this pace is queued within the jitter; one that answers a request within the time that a unit has for answers, from the moment of
-- the request on
unfoldable pub longest_queueing : List RequestPlan → FlowPlan → Pace → Option ℕ
longest_queueing requests flow pace =
    if not (is_answering requests flow) then Some pace.jitter
    else if is_asked_oftener requests flow then None else Some (answered_within pace)

abbrev pub queueing_of : List RequestPlan → FlowPlan → Option ℕ
queueing_of requests flow = option_and_then (longest_queueing requests flow) flow.pace

-- of the flow at a place
unfoldable pub queue_time_of : Plan → ℕ → Option ℕ
queue_time_of plan n = option_and_then (queueing_of plan.requests.items) (slice_get plan.flows.items n)

-- those of all flows of a plan
abbrev pub AreQueueTimes : Plan → List (Option ℕ) → Type 0
AreQueueTimes plan times = times ≡ map (queueing_of plan.requests.items) plan.flows.items

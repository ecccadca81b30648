-- Which flows answer requests that have a period, and of which more is asked than their own period lets them send (SAE J1939-21, requests).
use Rattle.std.specs.Prelude.{ℕ, ◌+◌, ◌*◌, nat_lt, if◌then◌else◌, Bool, false, not, ◌&&◌, ◌==◌, List, [], ◌∷◌, filter_map, length, Option, None, is_some}
use Rattle.std.specs.Option.{option_map_or}
use Rattle.j39_network.specs.declared.plan.flow_plan.FlowPlan.{FlowPlan}
use Rattle.j39_network.specs.declared.plan.request_plan.RequestPlan.{RequestPlan}
use Rattle.j39_network.specs.Serving.{serves}

-- ---- answering flows

-- how often a request asks for the flow: its period, where the flow serves it and it has one
abbrev pub asked_every : FlowPlan → RequestPlan → Option ℕ
asked_every flow request = if serves request flow then request.period else None

-- the periods of the requests that ask for the flow, one request a period
abbrev pub asking_periods : List RequestPlan → FlowPlan → List ℕ
asking_periods requests flow = filter_map (asked_every flow) requests

-- the flow comes only as an answer, has a period, and some request that has a period asks for it
abbrev pub is_answering : List RequestPlan → FlowPlan → Bool
is_answering requests flow = flow.on_request && (is_some flow.pace && not (length (asking_periods requests flow) == 0))

-- ---- how much is asked

-- The sum of period / every over these periods is asked_parts period periods / whole_parts periods:

-- its denominator, their product
unfoldable pub whole_parts : List ℕ → ℕ
whole_parts [] = 1
whole_parts (every ∷ periods) = every * whole_parts periods

-- its numerator
unfoldable pub asked_parts : ℕ → List ℕ → ℕ
asked_parts period [] = 0
asked_parts period (every ∷ periods) = period * whole_parts periods + every * asked_parts period periods

-- the sum is above 1: requests of these periods ask oftener together than once a period
abbrev pub is_more_than_one : ℕ → List ℕ → Bool
is_more_than_one period periods = nat_lt (whole_parts periods) (asked_parts period periods)

-- the flow is answering, and more answers are asked of it than one a period
abbrev pub is_asked_too_often : List RequestPlan → FlowPlan → Bool
is_asked_too_often requests flow = is_answering requests flow
    && option_map_or (λ pace. is_more_than_one pace.period (asking_periods requests flow)) flow.pace false

-- What is kept of the requests of a plan.
use Rattle.std.specs.Prelude.{◌≡◌, ◌^◌, ◌-◌, ◌<◌, ◌≤◌, ℕ, Bool, false, List, [], ◌∷◌, ◌++◌, length, Some, slice_index_or}
use Rattle.std.specs.List.{filter, slice_get}
use Rattle.j39_id.specs.declared.frame.Frame.{Frame}
use Rattle.j39_network.specs.PlanLimits.{request_limit}
use Rattle.j39_network.specs.declared.plan.Plan.{Plan}
use Rattle.j39_network.specs.declared.plan.request_plan.RequestPlan.{RequestPlan}
use Rattle.j39_follow.specs.Contests.{Timed}
use Rattle.j39_follow.specs.FollowReports.{AreEventsOf}
use Rattle.j39_follow.specs.LoggedRequests.{asks_request as asks, concerns, times_answered, times_asked, times_refused}
use Rattle.j39_follow.specs.declared.request.event.Event.{Event}
use Rattle.j39_follow.specs.declared.request.exchange.Exchange.{Exchange}
use Rattle.j39_follow.specs.declared.request.exchanges.Exchanges.{Exchanges}
use Rattle.j39_follow.specs.declared.message.Sort.{Sort}

-- ---- a request

-- the last of these events asks
unfoldable pub ends_asking : ℕ → List Event → Bool
ends_asking place [] = false
ends_asking place (e ∷ []) = asks place e
ends_asking place (d ∷ (e ∷ events)) = ends_asking place (e ∷ events)

-- what is kept of the request at a place is that of these events
pub record IsExchange (plan : Plan) (place : ℕ) (r : RequestPlan) (kept : Exchange) (events : List Event) : Type 0 where
  pub asked : kept.asked ≡ times_asked place events
  pub answered : kept.answered ≡ times_answered plan place r events
  pub refused : kept.refused ≡ times_refused plan place r events
  pub open_is : kept.is_open ≡ ends_asking place (filter (concerns plan place r) events)

-- an event leads from what was kept to what is
abbrev pub IsAfter : Plan → ℕ → RequestPlan → Event → Exchange → Exchange → Type 0
IsAfter plan place r event old new =
    (events : List Event) → length events < 2 ^ 64 - 1 → IsExchange plan place r old events → IsExchange plan place r new (events ++ event ∷ [])

-- ---- all requests

abbrev pub nothing_asked : Exchange
nothing_asked = record { asked = 0; answered = 0; refused = 0; is_open = false }

abbrev pub exchange_at : List Exchange → ℕ → Exchange
exchange_at table place = slice_index_or table place nothing_asked

abbrev pub AreExchanges : Plan → Exchanges → List Event → Type 0
AreExchanges plan kept events = (place : ℕ) (r : RequestPlan) → slice_get plan.requests.items place ≡ Some r
    → IsExchange plan place r (exchange_at kept.table.value place) events

-- what is kept of the requests below a place is that behind an event, and the rest as it was
pub record IsHeardBelow (plan : Plan) (event : Event) (old new : List Exchange) (many : ℕ) : Type 0 where
  pub size : length new ≡ request_limit
  pub heard : (place : ℕ) (r : RequestPlan) → place < many → slice_get plan.requests.items place ≡ Some r
      → IsAfter plan place r event (exchange_at old place) (exchange_at new place)
  pub rest : (place : ℕ) → many ≤ place → exchange_at new place ≡ exchange_at old place

-- ---- a frame

-- what the frame reports of requests was noted, behind these events
pub record AreNoted (plan : Plan) (log : List Timed) (f : Frame) (sorts : List Sort) (events : List Event) (kept : Exchanges) : Type 0 where
  pub more : List Event
  pub are_events : AreEventsOf plan log f sorts more
  pub exchanges : AreExchanges plan kept (events ++ more)

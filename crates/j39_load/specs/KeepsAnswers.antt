-- What a bus keeps of messages that come only as answers, in the plan's own words (SAE J1939-21, requests): each answers a request that was made,
-- within the time that a unit has for it, and no request is answered twice. So two answers may come at once.
use Rattle.std.specs.Prelude.{◌≡◌, ℕ, ◌+◌, ◌-◌, ◌*◌, ◌<◌, ◌≤◌, Bool, true, false, Some}
use Rattle.std.specs.List.{slice_get}
use Rattle.j39_network.specs.Serving.{serves}
use Rattle.j39_network.specs.declared.plan.Plan.{Plan}
use Rattle.j39_network.specs.declared.plan.flow_plan.FlowPlan.{FlowPlan}
use Rattle.j39_network.specs.declared.plan.pace.Pace.{Pace}
use Rattle.j39_network.specs.declared.plan.request_plan.RequestPlan.{RequestPlan}
use Rattle.j39_network.specs.declared.plan.timing.Timing.{Timing}
use Rattle.j39_load.specs.AnswerStreams.{answered_within}
use Rattle.j39_load.specs.AskedFlows.{is_answering, is_asked_too_often}
use Rattle.j39_load.specs.SentFrames.{FrameSources, IsMsBehind, IsWithinUnitMs, Source}
use Rattle.j39_load.specs.SentFrames.{Single, First, InSession, Asking, Announcing, Carrying}
use Rattle.j39_timing.specs.TimedFrames.{Schedule}

-- the flow at a place comes only as an answer to requests that have a period
pub record IsAnswering (plan : Plan) (f : ℕ) : Type 0 where
  pub flow : FlowPlan
  pub its : slice_get plan.flows.items f ≡ Some flow
  pub pace : Pace
  pub paced : flow.pace ≡ Some pace
  pub answers : is_answering plan.requests.items flow ≡ true

-- the request at a place asks for the flow, and has this period, in milliseconds
pub record IsAskedEvery (plan : Plan) (flow : FlowPlan) (r ms : ℕ) : Type 0 where
  pub asked : RequestPlan
  pub its : slice_get plan.requests.items r ≡ Some asked
  pub served : serves asked flow ≡ true
  pub period : asked.period ≡ Some ms

-- what a message answers: a request, by its place in the plan, the how manieth one of it, and the bit at which this was queued
pub record Answered : Type 0 where
  pub request : ℕ
  pub number : ℕ
  pub moment : ℕ

abbrev pub AreOfOneRequest : Answered → Answered → Type 0
AreOfOneRequest a b = (a.request ≡ b.request) × (a.number ≡ b.number)

-- messages of a flow, or frames of them, by their places, each of which is queued at a bit and answers this, within so many milliseconds; some of them
-- are the same part of their messages
pub record AnswerRequests (plan : Plan) (timing : Timing) (flow : FlowPlan) (Is : ℕ → Type 0) (AreAlike : ℕ → ℕ → Type 0) (within at : ℕ → ℕ)
    (of : ℕ → Answered) : Type 0 where
  -- no more is asked of the flow than its period lets
  pub few : (m : ℕ) → Is m → is_asked_too_often plan.requests.items flow ≡ false
  -- a request that asks for the flow was queued at this bit or before
  pub asked : (m : ℕ) → Is m → (ms : ℕ) × IsAskedEvery plan flow (of m).request ms
  pub moment_first : (m : ℕ) → Is m → (of m).moment ≤ at m
  pub in_time : (m : ℕ) → Is m → IsWithinUnitMs timing (within m) (of m).moment (at m)
  -- no request is answered twice
  pub once : (m n : ℕ) → Is m → Is n → AreAlike m n → AreOfOneRequest (of m) (of n) → m ≡ n
  -- one is behind another of its kind by its period for each between them, by its unit's clock
  pub apart : (m n ms : ℕ) → Is m → Is n → (of m).request ≡ (of n).request → (of m).number ≤ (of n).number → IsAskedEvery plan flow (of m).request ms
      → IsMsBehind timing (((of n).number - (of m).number) * ms) (of m).moment (of n).moment

-- the source is of the flow at a place, but for long messages to all
abbrev pub IsOfFlow : ℕ → Source → Type 0
IsOfFlow f (Single g) = g ≡ f
IsOfFlow f (First g) = g ≡ f
IsOfFlow f (InSession g part) = g ≡ f
IsOfFlow f (Asking r) = ⊥
IsOfFlow f (Announcing u m) = ⊥
IsOfFlow f (Carrying u m k) = ⊥

-- and the frame at a place, where it is planned
abbrev pub IsFrameOfFlow : Schedule → (ℕ → Bool) → FrameSources → ℕ → ℕ → Type 0
IsFrameOfFlow s planned sent f p = (p < s.count) × (planned p ≡ true) × IsOfFlow f (sent.source p)

-- a long message to one unit has a period of its flow beside to come to its end
abbrev pub answered_in : Pace → Source → ℕ
answered_in pace (Single f) = answered_within pace
answered_in pace (First f) = answered_within pace
answered_in pace (InSession f part) = pace.period + answered_within pace
answered_in pace (Asking r) = answered_within pace
answered_in pace (Announcing u m) = answered_within pace
answered_in pace (Carrying u m k) = answered_within pace

-- each message of a flow that comes only as an answer is one
pub record KeepsAnswers (plan : Plan) (timing : Timing) (s : Schedule) (planned : ℕ → Bool) (sent : FrameSources) : Type 0 where
  -- what the message of each frame answers, and each long message of a unit to all, by its number
  pub of_frame : ℕ → Answered
  pub of_message : ℕ → ℕ → Answered
  pub frames : (f : ℕ) (answering : IsAnswering plan f) → AnswerRequests plan timing answering.flow (IsFrameOfFlow s planned sent f)
      (λ p q. sent.source p ≡ sent.source q) (λ p. answered_in answering.pace (sent.source p)) s.queued of_frame
  pub messages : (u f : ℕ) (answering : IsAnswering plan f) → AnswerRequests plan timing answering.flow
      (λ m. (m < sent.broadcasts.count u) × (sent.broadcasts.flow u m ≡ f))
      (λ m n. Unit {0}) (λ m. answered_within answering.pace) (sent.broadcasts.wanted u) (of_message u)

-- Of flows that answer no requests with periods: their messages are queued within the jitter.
use Rattle.std.proofs.Common.{◌≡◌, ◌+◌, ◌-◌, ◌*◌, ◌==◌, ◌&&◌, not, ℕ, Bool, true, false, cond, Option, Some, None, length, refl, ap, arith, ◌∙◌}
use Rattle.std.specs.Prelude.{is_some}
use Rattle.std.specs.Int.{div_ceil}
use Rattle.std.specs.List.{slice_get}
use Rattle.std.specs.Option.{option_and_then, option_map}
use Rattle.j39_load.specs.AnswerStreams.{answered_within}
use Rattle.j39_load.specs.AskedFlows.{asking_periods, is_answering}
use Rattle.j39_network.specs.declared.plan.Plan.{Plan}
use Rattle.j39_network.specs.declared.plan.flow_plan.FlowPlan.{FlowPlan}
use Rattle.j39_network.specs.declared.plan.pace.Pace.{Pace}
use Rattle.j39_network.specs.declared.plan.timing.Timing.{Timing}
use Rattle.j39_audit.specs.MessageStreams.{sent_within}
use Rattle.j39_audit.specs.QueueTimes.{is_asked_oftener, queueing_of, queue_time_of, longest_queueing}
use Rattle.j39_audit.specs.Settings.{Settings, response_of}
use Rattle.j39_audit.specs.UnitTimes.{longest_us}

module _ (plan : Plan) (flow : FlowPlan) where
  pub unanswering : flow.on_request ≡ false → is_answering plan.requests.items flow ≡ false
  unanswering unasked = ap (λ (b : Bool). b && (is_some flow.pace && not (length (asking_periods plan.requests.items flow) == 0))) unasked

  pub queued_in_jitter : (n : ℕ) (pace : Pace) → slice_get plan.flows.items n ≡ Some flow → flow.pace ≡ Some pace
      → is_answering plan.requests.items flow ≡ false → queue_time_of plan n ≡ Some pace.jitter
  unfolding queue_time_of longest_queueing
  queued_in_jitter n pace its paced none =
      ap (λ (o : Option FlowPlan). option_and_then (queueing_of plan.requests.items) o) its
      ∙ ap (λ (o : Option Pace). option_and_then (longest_queueing plan.requests.items flow) o) paced
      ∙ ap (λ (b : Bool). cond (not b) (Some pace.jitter) (cond (is_asked_oftener plan.requests.items flow) None (Some (answered_within pace)))) none

-- no time more than the jitter
no_later : (t : Timing) (jitter d : ℕ) → d + longest_us t (jitter - jitter) ≡ d
no_later t jitter d =
    let none : jitter - jitter ≡ 0 = omega arith in
    let nothing : 1001 * 0 * (1000000 + t.drift) ≡ 0 = omega arith in
    ap (λ (ms : ℕ). d + longest_us t ms) none ∙ ap (λ (x : ℕ). d + div_ceil x 1000000) nothing ∙ omega arith

pub sent_in_jitter : (s : Settings) (t : Timing) (n : ℕ) (pace : Pace) → sent_within s t n pace pace.jitter ≡ response_of s n
sent_in_jitter s t n pace =
    elim (response_of s n) as (λ o. option_map (λ d. d + longest_us t (pace.jitter - pace.jitter)) o ≡ o) [
      | None ↦ refl
      | Some d ↦ ap Some (no_later t pace.jitter d)
    ]

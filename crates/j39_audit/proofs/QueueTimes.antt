-- Of which flows two messages may come at once, as a walk over the requests reports it.
use Rattle.std.proofs.Common.{◌≡◌, ◌≢◌, ◌+◌, ◌*◌, ◌<◌, ◌==◌, ◌&&◌, ◌||◌, not, ℕ, List, [], ◌∷◌, Bool, true, false, cond, Option, Some, None, length, refl, sym, ap, arith, ◌∙◌}
use Rattle.std.specs.Prelude.{filter_map, is_some, nat_lt}
use Rattle.std.specs.List.{cons_option}
use Rattle.std.specs.List.{list_any}
use Rattle.std.specs.Option.{option_map_or}
use Rattle.std.proofs.Math.Bool.{or-false}
use Rattle.std.proofs.lemmas.Bool.{lt-ltb, ne_eqb}
use Rattle.j39_load.specs.AnswerStreams.{answered_within, askers_of}
use Rattle.j39_load.specs.AskedFlows.{asked_every, asking_periods, is_answering, is_asked_too_often, is_more_than_one, asked_parts, whole_parts}
use Rattle.j39_network.specs.declared.plan.flow_plan.FlowPlan.{FlowPlan}
use Rattle.j39_network.specs.declared.plan.pace.Pace.{Pace}
use Rattle.j39_network.specs.declared.plan.request_plan.RequestPlan.{RequestPlan}
use Rattle.j39_audit.specs.QueueTimes.{is_asked_oftener, longest_queueing}
use Rattle.j39_audit.specs.inside.AskedWithin.{is_each_within}

-- ---- periods

pub any_period : {X : Type 0} (period : ℕ) (every : X → Option ℕ) (xs : List X)
    → list_any (λ (x : X). is_each_within period (every x)) xs ≡ list_any (λ (p : ℕ). nat_lt p period) (filter_map every xs)
any_period {X} period every [] = refl
any_period {X} period every (x ∷ xs) =
    elim (every x) as (λ o. (is_each_within period o || list_any (λ (y : X). is_each_within period (every y)) xs)
    ≡ list_any (λ (p : ℕ). nat_lt p period) (cons_option o (filter_map every xs))) [
      | None ↦ any_period period every xs
      | Some p ↦ ap (λ (b : Bool). nat_lt p period || b) (any_period period every xs)
    ]

-- of one period the sum is above 1 where the flow's is longer
one_period : (period every : ℕ) → is_more_than_one period (every ∷ []) ≡ nat_lt every period
unfolding whole_parts asked_parts
one_period period every =
    let whole : every * 1 ≡ every = omega arith in
    let asked : period * 1 + every * 0 ≡ period = omega arith in
    λ i. nat_lt (whole i) (asked i)

-- ---- a flow

by_flag : (b : Bool) (n : ℕ) → (b && (true && not (n == 0))) ≡ not (cond b n 0 == 0)
by_flag true n = refl
by_flag false n = refl

by_periods : (b : Bool) (periods : List ℕ) (period : ℕ) → cond b (length periods) 0 ≢ 0
    → (nat_lt 1 (cond b (length periods) 0) || is_more_than_one period periods)
    ≡ (nat_lt 1 (cond b (length periods) 0) || list_any (λ (p : ℕ). nat_lt p period) periods)
by_periods false periods period some = absurd (some refl)
by_periods true [] period some = absurd (some refl)
by_periods true (every ∷ []) period some = one_period period every ∙ sym (or-false (nat_lt every period))
by_periods true (every ∷ other ∷ periods) period some =
    let several : nat_lt 1 (length (every ∷ other ∷ periods)) ≡ true = lt-ltb 1 (length (every ∷ other ∷ periods)) (omega arith) in
    ap (λ (b : Bool). b || is_more_than_one period (every ∷ other ∷ periods)) several
    ∙ sym (ap (λ (b : Bool). b || list_any (λ (p : ℕ). nat_lt p period) (every ∷ other ∷ periods)) several)

module _ (requests : List RequestPlan) (flow : FlowPlan) (pace : Pace) (paced : flow.pace ≡ Some pace) where
  abbrev periods : List ℕ
  periods = asking_periods requests flow

  pub answers_by : is_answering requests flow ≡ not (askers_of requests flow == 0)
  answers_by = ap (λ (o : Option Pace). flow.on_request && (is_some o && not (length periods == 0))) paced ∙ by_flag flow.on_request (length periods)

  pub oftener_by : askers_of requests flow ≢ 0 → is_asked_oftener requests flow
      ≡ (nat_lt 1 (askers_of requests flow) || list_any (λ (r : RequestPlan). is_each_within pace.period (asked_every flow r)) requests)
  oftener_by some =
      let n = askers_of requests flow in
      let answers : is_answering requests flow ≡ true = answers_by ∙ ap not (ne_eqb n 0 some) in
      ap (λ (b : Bool). nat_lt 1 n || (b && option_map_or (λ (p : Pace). is_more_than_one p.period periods) flow.pace false)) answers
      ∙ ap (λ (o : Option Pace). nat_lt 1 n || option_map_or (λ (p : Pace). is_more_than_one p.period periods) o false) paced
      ∙ by_periods flow.on_request periods pace.period some
      ∙ sym (ap (λ (b : Bool). nat_lt 1 n || b) (any_period pace.period (asked_every flow) requests))

  pub queued_unasked : askers_of requests flow ≡ 0 → longest_queueing requests flow pace ≡ Some pace.jitter
  unfolding longest_queueing
  queued_unasked none =
      let answers : is_answering requests flow ≡ false = answers_by ∙ ap (λ (n : ℕ). not (n == 0)) none in
      ap (λ (b : Bool). cond (not b) (Some pace.jitter) (cond (is_asked_oftener requests flow) None (Some (answered_within pace)))) answers

  pub queued_asked : askers_of requests flow ≢ 0 → (several : Bool)
      → (nat_lt 1 (askers_of requests flow) || list_any (λ (r : RequestPlan). is_each_within pace.period (asked_every flow r)) requests) ≡ several
      → longest_queueing requests flow pace ≡ cond several None (Some (answered_within pace))
  unfolding longest_queueing
  queued_asked some several is =
      let answers : is_answering requests flow ≡ true = answers_by ∙ ap not (ne_eqb (askers_of requests flow) 0 some) in
      ap (λ (b : Bool). cond (not b) (Some pace.jitter) (cond (is_asked_oftener requests flow) None (Some (answered_within pace)))) answers
      ∙ ap (λ (b : Bool). cond b None (Some (answered_within pace))) (oftener_by some ∙ is)

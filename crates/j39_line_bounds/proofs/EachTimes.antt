-- What is reported of each variant, one after the other.
use Rattle.std.proofs.Common.{◌≡◌, ◌⊎◌, ℕ, ◌+◌, ◌<◌, List, [], ◌∷◌, ◌++◌, Option, Some, None, inl, inr, get_or, length, map, take, refl, sym, ap, ◌∙◌, arith}
use Rattle.std.proofs.Common.{subst}
use Rattle.std.specs.List.{AllZip, range_with_len}
use Rattle.std.specs.Option.{option_map}
use Rattle.std.proofs.lemmas.Option.{none-some}
use Rattle.std.proofs.lemmas.List.{map-append, take_more}
use Rattle.std.proofs.lemmas.List.FromFn.{get_or-map-range_with_len, length-map-range_with_len}
use Rattle.j39_answer.proofs.Answered.{unknown_bus}
use Rattle.j39_answer.specs.PlanAnswers.{IsBusAnswer, IsPlanAnswer}
use Rattle.j39_answer.specs.declared.plan_answer.PlanAnswer.{PlanAnswer}
use Rattle.j39_load.specs.Asked.{total_load}
use Rattle.j39_load.specs.AskedLoads.{asked_in}
use Rattle.j39_load.specs.BusTimes.{timing_of, with_claims}
use Rattle.j39_load.specs.LoadAnswers.{IsLoadAnswer}
use Rattle.j39_load.specs.declared.findings.load_answer.LoadAnswer.{LoadAnswer}
use Rattle.j39_network.specs.declared.plan.Plan.{Plan}
use Rattle.j39_network.specs.declared.plan.timing.Timing.{Timing}
use Rattle.j39_variants.specs.VariantPlans.{IsVariantPlan}
use Rattle.j39_variants.specs.declared.line.ProductLine.{ProductLine}
use Rattle.j39_line_findings.specs.There.{IsPresent}
use Rattle.j39_line_findings.specs.declared.there.Present.{Present}
use Rattle.j39_line_findings.specs.AllVariants.{IsOneOf}
use Rattle.j39_line_bounds.specs.LineTimes.{AreTimesAmong, AreVariantTimes, AreWorst, BoundEachOf, IsOfSomeVariant, IsTimesAmong, TimesBoundThese, time_of_flow}
use Rattle.j39_line_bounds.specs.LineTimes.{flow_time, time_of_need, need_time}
use Rattle.j39_line_bounds.specs.declared.times.FlowTime.TheVariants as flow
use Rattle.j39_line_bounds.specs.declared.times.LineTimes.{LineTimes as Times}
use Rattle.j39_line_bounds.specs.declared.times.NeedTime.TheVariants as need

-- ---- of one variant

pub reported_of : (line : ProductLine) (v : List ℕ) (there : Present) (plan : Plan) (timing : Timing) (answer : LoadAnswer) (reported : Times)
    → IsPresent line v there → IsVariantPlan line v plan → timing_of plan ≡ Some timing → IsLoadAnswer plan timing answer
    → reported.flows.items ≡ map (flow_time there.flows.items answer.delays.items) (range_with_len 0 (length line.plan.flows.items))
    → reported.needs.items ≡ map (need_time line v there plan timing answer.delays.items) (range_with_len 0 (length line.plan.needs.items))
    → reported.load ≡ total_load answer.loads.timing (asked_in answer.loads) → AreVariantTimes line v reported
reported_of line v there plan timing answer reported is_there is timed is_answer flows needs load =
    let flow_here = flow_time there.flows.items answer.delays.items in
    let need_here = need_time line v there plan timing answer.delays.items in
    let n = length line.plan.flows.items in
    let m = length line.plan.needs.items in record {
      there = there;
      is_there = is_there;
      plan = plan;
      is_plan = is;
      timing = timing;
      timed = timed;
      stays = is_answer.stays;
      delays = answer.delays.items;
      asks = is_answer.asks;
      flow_count = ap length flows ∙ length-map-range_with_len flow_here 0 n;
      flows = λ f below.
          let first : 0 + f ≡ f = omega arith in
          ap (λ xs. get_or xs f flow.NoVariant) flows ∙ get_or-map-range_with_len flow_here 0 n f f flow.NoVariant below first;
      need_count = ap length needs ∙ length-map-range_with_len need_here 0 m;
      needs = λ d below.
          let first : 0 + d ≡ d = omega arith in
          ap (λ xs. get_or xs d need.NoVariant) needs ∙ get_or-map-range_with_len need_here 0 m d d need.NoVariant below first;
      load = load ∙ ap (λ t. total_load t (asked_in answer.loads)) is_answer.timed ∙ ap (total_load timing) is_answer.asked;
    }

-- nothing is known of the bus of a plan of whose load nothing is
pub unanswered : (plan : Plan) (known : PlanAnswer) → IsPlanAnswer plan known → known.load ≡ None → timing_of plan ≡ None
unanswered plan known is none = unknown_bus plan (timing_of plan) (subst (IsBusAnswer plan (timing_of plan)) none is.bus)

-- nothing is known of the bus of a variant where nothing is of that of the line
pub untimed : (line plan : Plan) (t : Option Timing) → plan.timing ≡ t → line.timing ≡ t → timing_of plan ≡ None → timing_of line ≡ None
unfolding timing_of
untimed line plan None is its none = ap (option_map (with_claims line)) its
untimed line plan (Some t) is its none = absurd (none-some (with_claims plan t) (sym none ∙ ap (option_map (with_claims plan)) is))

-- ---- one variant more

counted : (line : ProductLine) (vs : List (List ℕ)) (v : List ℕ) (each : List Times) (more : Times) → AreVariantTimes line v more
    → AllZip (AreVariantTimes line) vs each → AllZip (AreVariantTimes line) (vs ++ v ∷ []) (each ++ more ∷ [])
counted line [] v [] more is are = (is, tt)
counted line [] v (times ∷ each) more is are = absurd are
counted line (w ∷ vs) v [] more is are = absurd are
counted line (w ∷ vs) v (times ∷ each) more is are = (are.0, counted line vs v each more is are.1)

pub none_yet : (line : ProductLine) (reported : Times) → AreWorst line [] reported → AreTimesAmong line [] reported
none_yet line reported are = record { each = []; are_each = tt; worst = are }

pub one_more : (line : ProductLine) (vs : List (List ℕ)) (v : List ℕ) (old here new : Times) → AreVariantTimes line v here
    → ((each : List Times) → AreWorst line each old → AreWorst line (each ++ here ∷ []) new) → AreTimesAmong line vs old
    → AreTimesAmong line (vs ++ v ∷ []) new
one_more line vs v old here new is worse are = record {
  each = are.each ++ here ∷ [];
  are_each = counted line vs v are.each here is are.are_each;
  worst = worse are.each are.worst;
}

-- the next one of these
pub next_one : {V : Type 0} (line : ProductLine) (f : V → List ℕ) (vs : List V) (k : ℕ) (d : V) (v : List ℕ) (old new : Times) → k < length vs
    → d ≡ get_or vs k d → v ≡ f d → AreTimesAmong line (map f (take k vs)) old
    → ((ws : List (List ℕ)) → AreTimesAmong line ws old → AreTimesAmong line (ws ++ v ∷ []) new) → AreTimesAmong line (map f (take (k + 1) vs)) new
next_one line f vs k d v old new below is same so_far add =
    let longer : map f (take (k + 1) vs) ≡ map f (take k vs) ++ f (get_or vs k d) ∷ [] =
    ap (map f) (take_more vs k d below) ∙ map-append f (take k vs) (get_or vs k d ∷ []) in
    let here : v ≡ f (get_or vs k d) = same ∙ ap f is in
    let all : map f (take (k + 1) vs) ≡ map f (take k vs) ++ v ∷ [] = longer ∙ ap (λ w. map f (take k vs) ++ w ∷ []) (sym here) in
    subst (λ ws. AreTimesAmong line ws new) (sym all) (add (map f (take k vs)) so_far)

-- ---- of them all

module _ (line : ProductLine) where
  of_variant : (vs : List (List ℕ)) (each : List Times) → AllZip (AreVariantTimes line) vs each → (v : List ℕ) → IsOneOf vs v
      → (times : Times) × AreVariantTimes line v times × IsTimesAmong each times
  of_variant [] each are v is = absurd is
  of_variant (w ∷ vs) [] are v is = absurd are
  of_variant (w ∷ vs) (times ∷ each) are v (inl same) = (times, subst (λ x. AreVariantTimes line x times) same are.0, inl refl)
  of_variant (w ∷ vs) (times ∷ each) are v (inr later) =
      let found = of_variant vs each are.1 v later in (found.0, found.1, inr found.2)

  of_times : (vs : List (List ℕ)) (each : List Times) → AllZip (AreVariantTimes line) vs each → (times : Times) → IsTimesAmong each times
      → (v : List ℕ) × IsOneOf vs v × AreVariantTimes line v times
  of_times vs [] are times among = absurd among
  of_times [] (x ∷ each) are times among = absurd are
  of_times (w ∷ vs) (x ∷ each) are times (inl same) = (w, inl refl, subst (λ t. AreVariantTimes line w t) same are.0)
  of_times (w ∷ vs) (x ∷ each) are times (inr later) =
      let found = of_times vs each are.1 times later in (found.0, inr found.1, found.2)

  module _ (vs : List (List ℕ)) (reported : Times) (are : AreTimesAmong line vs reported) where
    of_some : {T : Type 0} (at : Times → T) (nothing worst : T)
        → (worst ≡ nothing) ⊎ ((times : Times) × IsTimesAmong are.each times × (worst ≡ at times))
        → (worst ≡ nothing) ⊎ IsOfSomeVariant (IsOneOf vs) line at worst
    of_some at nothing worst (inl none) = inl none
    of_some at nothing worst (inr (times, among, same)) =
        let found = of_times vs are.each are.are_each times among in
        inr (found.0, found.1, (times, found.2, same))

    pub bound : BoundEachOf (IsOneOf vs) line reported
    bound = record {
      each = λ v is.
          let found = of_variant vs are.each are.are_each v is in (
            found.0,
            found.1,
            record {
              flows = λ f below. (are.worst.flows f below).none_worse found.0 found.2;
              needs = λ d below. (are.worst.needs d below).none_worse found.0 found.2;
              load = are.worst.load.none_more found.0 found.2;
            },
          );
      flows = λ f below. of_some (λ times. time_of_flow times f) flow.NoVariant (time_of_flow reported f) (are.worst.flows f below).one;
      needs = λ d below. of_some (λ times. time_of_need times d) need.NoVariant (time_of_need reported d) (are.worst.needs d below).one;
      load = of_some (λ times. times.load) 0 reported.load are.worst.load.one;
    }

pub bound_these : TimesBoundThese
bound_these line vs reported are = bound line vs reported are

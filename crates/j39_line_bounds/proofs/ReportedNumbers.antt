-- What a number that is reported says of times that are no worse.
use Rattle.std.proofs.Common.{◌≡◌, ℕ, ◌≤◌, false, Option, Some, None, refl, subst}
use Rattle.std.proofs.lemmas.Bool.{ltb-false, true≢false}
use Rattle.j39_load.specs.declared.waits.delay.Delay.TheVariants.{Within, Beyond, Late, Whole}
use Rattle.j39_variants.specs.declared.line.ProductLine.{ProductLine}
use Rattle.j39_line_bounds.specs.LineTimes.{AreNoWorse, BoundNumbers, ReportedNumbersBoundTimes, badness_known, time_of_flow, flow_badness, is_less_bad}
use Rattle.j39_line_bounds.specs.LineTimes.{time_of_need, need_badness, of_degree, time_reported}
use Rattle.j39_line_bounds.specs.declared.times.Badness.{Badness}
use Rattle.j39_line_bounds.specs.declared.times.FlowTime.TheVariants as flow
use Rattle.j39_line_bounds.specs.declared.times.LineTimes.{LineTimes as Times}
use Rattle.j39_line_bounds.specs.declared.times.NeedTime.TheVariants as need

no_more : (a b : ℕ) → is_less_bad (of_degree 1 a) (of_degree 1 b) ≡ false → b ≤ a
no_more a b no_worse = ltb-false a b no_worse

no_later : (a b : ℕ) → is_less_bad (of_degree 2 a) (of_degree 2 b) ≡ false → b ≤ a
no_later a b no_worse = ltb-false a b no_worse

known : (s t : Option ℕ) (a : ℕ) → s ≡ Some a → is_less_bad (badness_known s) (badness_known t) ≡ false → (b : ℕ) × (t ≡ Some b) × (b ≤ a)
known s None a is no_worse = absurd (true≢false (subst (λ x. is_less_bad (badness_known x) (of_degree 3 0) ≡ false) is no_worse))
known s (Some b) a is no_worse = (b, refl, no_more a b (subst (λ x. is_less_bad (badness_known x) (of_degree 1 b) ≡ false) is no_worse))

of_both : {T : Type 0} (bad : T → Badness) (x y p q : T) → x ≡ p → y ≡ q → is_less_bad (bad x) (bad y) ≡ false → is_less_bad (bad p) (bad q) ≡ false
of_both bad x y p q is here no_worse =
    subst (λ z. is_less_bad (bad p) (bad z) ≡ false) here (subst (λ z. is_less_bad (bad z) (bad y) ≡ false) is no_worse)

module _ (line : ProductLine) (reported times : Times) (are : AreNoWorse line times reported) where
  numbers : BoundNumbers line reported times
  numbers = record {
    never_late = λ f below a is here.
        true≢false (of_both flow_badness (time_of_flow reported f) (time_of_flow times f) (flow.Reported (Some (Within a))) (flow.Reported (Some Late)) is here
        (are.flows f below));
    never_beyond = λ f below a b is here.
        true≢false
        (of_both flow_badness (time_of_flow reported f) (time_of_flow times f) (flow.Reported (Some (Within a))) (flow.Reported (Some (Beyond b))) is here
        (are.flows f below));
    delays = λ f below a b is here.
        no_more a b
        (of_both flow_badness (time_of_flow reported f) (time_of_flow times f) (flow.Reported (Some (Within a))) (flow.Reported (Some (Within b))) is here
        (are.flows f below));
    never_unknown = λ f below a is here.
        true≢false (of_both flow_badness (time_of_flow reported f) (time_of_flow times f) (flow.Reported (Some (Beyond a))) (flow.Reported (Some Late)) is here
        (are.flows f below));
    late_delays = λ f below a b is here.
        no_later a b
        (of_both flow_badness (time_of_flow reported f) (time_of_flow times f) (flow.Reported (Some (Beyond a))) (flow.Reported (Some (Beyond b))) is here
        (are.flows f below));
    whole = λ f below w v a is is_known here.
        known (time_reported w) (time_reported v) a is_known
        (of_both flow_badness (time_of_flow reported f) (time_of_flow times f) (flow.Reported (Some (Whole w))) (flow.Reported (Some (Whole v))) is here
        (are.flows f below));
    ages = λ d below a age y x is here.
        known (Some a) age a refl
        (of_both need_badness (time_of_need reported d) (time_of_need times d) (need.Age (Some a) y) (need.Age age x) is here (are.needs d below));
  }

pub numbers_bound : ReportedNumbersBoundTimes
numbers_bound line reported times are = numbers line reported times are

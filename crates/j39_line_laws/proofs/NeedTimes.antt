-- What is reported of a need is no worse in a variant than in one that is full for it and covers it.
use Rattle.std.proofs.Common.{◌≡◌, ℕ, ◌<◌, ◌≤◌, Bool, true, false, not, ◌&&◌, ◌==◌, if◌then◌else◌, List, length, Option, Some, None, refl, sym, ◌∙◌, ap, inl}
use Rattle.std.proofs.Common.{inr}
use Rattle.std.specs.List.{slice_get}
use Rattle.std.specs.Option.{option_and_then, option_map_or}
use Rattle.std.proofs.lemmas.Bool.{and_from, and_parts, cases_Bool, eqb-true, false≢true, true≢false}
use Rattle.j39_findings.specs.Found.{is_unmet}
use Rattle.j39_network.specs.Serving.{is_from, meets}
use Rattle.j39_network.specs.declared.plan.flow_plan.FlowPlan.{FlowPlan}
use Rattle.j39_network.specs.declared.plan.need_plan.NeedPlan.{NeedPlan}
use Rattle.j39_load.specs.Ages.{least_age}
use Rattle.j39_load.specs.LiveClaims.{unplanned_of}
use Rattle.j39_load.specs.inside.FewClaims.{few_unplanned}
use Rattle.j39_variants.specs.Variants.{IsVariant}
use Rattle.j39_variants.specs.declared.line.ProductLine.{ProductLine}
use Rattle.j39_line_findings.specs.MissedNeeds.{is_group_there, is_in_at, is_need_asked_for, is_sender_there, is_source_there, is_unit_there}
use Rattle.j39_line_findings.specs.There.{is_need_there, is_receiver_there}
use Rattle.j39_part_laws.specs.PartLoads.{HasGoodNumbers}
use Rattle.j39_part_laws.proofs.LoadFindings.{unplanned_there}
use Rattle.j39_line_laws.specs.Covering.{IsCoveredBy, IsCoveredFor}
use Rattle.j39_line_findings.proofs.Tests.{any_at}
use Rattle.j39_line_bounds.specs.LineTimes.{age_here, AreVariantTimes, badness_known, is_less_bad, need_badness, need_time, of_degree, place_in_variant}
use Rattle.j39_line_bounds.specs.LineTimes.{time_of_need, youngest_here}
use Rattle.j39_line_bounds.specs.declared.times.LineTimes.{LineTimes}
use Rattle.j39_line_bounds.specs.declared.times.NeedTime.{NeedTime}
use Rattle.j39_line_bounds.specs.declared.times.NeedTime.TheVariants as need
use Rattle.j39_line_laws.specs.FullForNeeds.{MeetsIn}
use Rattle.j39_line_laws.proofs.Ages.{younger}
use Rattle.j39_line_laws.proofs.NeedsInPlan.{IsNeedInPlan, move_need, need_in_plan, one_need_place}
use Rattle.j39_line_laws.proofs.OldNeeds.{source_too}
use Rattle.j39_line_laws.proofs.Sources.{meets_back, of_file}
use Rattle.j39_line_laws.proofs.TooOld.{come, covered_by, met_here, met_there, some_of}
use Rattle.j39_line_laws.proofs.Badness.{known_no_worse, nothing_less}
use Rattle.j39_line_laws.proofs.BoundPlaces.{found_at, is_found_at, passes_test}
use Rattle.j39_line_laws.proofs.FlowTimes.{asks_here, asks_there, bus, is_part, p}

-- ---- in one variant

module _ (line : ProductLine) (v : List ℕ) (times : LineTimes) (are : AreVariantTimes line v times) (d : ℕ) where
  abbrev of_need : NeedTime
  of_need = need_time line v are.there are.plan are.timing are.delays d

  abbrev age_of_need : NeedPlan → NeedTime
  age_of_need = age_here are.there.flows.items are.plan are.timing are.delays

  pub not_asked : is_need_asked_for line v d ≡ false → of_need ≡ need.NoVariant
  not_asked none = ap (λ b. if b
      then option_map_or age_of_need (option_and_then (slice_get are.plan.needs.items) (place_in_variant are.there.needs.items d)) need.NoVariant
      else need.NoVariant) none

  asked_is : is_need_asked_for line v d ≡ true
      → of_need ≡ option_map_or age_of_need (option_and_then (slice_get are.plan.needs.items) (place_in_variant are.there.needs.items d)) need.NoVariant
  asked_is asked = ap (λ b. if b
      then option_map_or age_of_need (option_and_then (slice_get are.plan.needs.items) (place_in_variant are.there.needs.items d)) need.NoVariant
      else need.NoVariant) asked

  -- what it is for isn't there
  pub without_source : is_need_asked_for line v d ≡ true → is_source_there line v d ≡ false → of_need ≡ need.NoVariant
  without_source asked none = asked_is asked ∙ go (place_in_variant are.there.needs.items d) refl
    where
      go : (o : Option ℕ) → place_in_variant are.there.needs.items d ≡ o
          → option_map_or age_of_need (option_and_then (slice_get are.plan.needs.items) o) need.NoVariant ≡ need.NoVariant
      go None is_o = refl
      go (Some k) is_o =
          let stands = ap (λ l. slice_get l k) (sym are.is_there.has_needs) ∙ found_at are.there.needs.items k d is_o in
          let there = passes_test (is_need_there line v) _ k d stands in
          absurd (true≢false (sym (and_parts (is_need_asked_for line v d) (is_source_there line v d) there).1 ∙ none))

  -- or its age is reported by the need in the plan
  pub with_source : is_need_asked_for line v d ≡ true → (x : NeedPlan) (its : IsNeedInPlan line v are.there are.is_there are.plan are.is_plan d x)
      → of_need ≡ age_of_need its.value
  with_source asked x its =
      let (k, is_k, at_k) = is_found_at are.there.needs.items its.k d its.stands in
      let same : k ≡ its.k = one_need_place line v are.there are.is_there k its.k d at_k its.stands in
      asked_is asked ∙ ap (λ o. option_map_or age_of_need (option_and_then (slice_get are.plan.needs.items) o) need.NoVariant) (is_k ∙ ap Some same)
      ∙ ap (λ o. option_map_or age_of_need o need.NoVariant) its.at

-- ---- in both

module _ (line : ProductLine) (v w : List ℕ) (is_v : IsVariant line.choices.items v) (is_w : IsVariant line.choices.items w) (d : ℕ)
    (covered : IsCoveredFor line (Some d) v w) (asked_there : is_need_asked_for line w d ≡ true) (x : NeedPlan)
    (at_d : slice_get line.plan.needs.items d ≡ Some x)
    (times reported : LineTimes) (are : AreVariantTimes line v times) (also : AreVariantTimes line w reported) (good : HasGoodNumbers also.plan)
    (asked : is_need_asked_for line v d ≡ true) where
  abbrev by : IsCoveredBy line v w
  by = covered_by line d v w covered

  abbrev here : NeedTime
  here = need_time line v are.there are.plan are.timing are.delays d

  abbrev there : NeedTime
  there = need_time line w also.there also.plan also.timing also.delays d

  -- no age here
  none_here : here ≡ need.NoVariant → is_less_bad (need_badness there) (need_badness here) ≡ false
  none_here none =
      ap (λ t. is_less_bad (need_badness there) (need_badness t)) none ∙ nothing_less (need_badness there).degree (need_badness there).time

  -- it is in both
  module _ (e f : NeedPlan) (made : move_need line v x ≡ Some e) (made_there : move_need line w x ≡ Some f) where
    abbrev age : NeedTime
    age = age_here are.there.flows.items are.plan are.timing are.delays e

    abbrev age_there : NeedTime
    age_there = age_here also.there.flows.items also.plan also.timing also.delays f

    met_too : is_unmet are.plan.requests.items are.plan.flows.items e ≡ false → is_unmet also.plan.requests.items also.plan.flows.items f ≡ false
    met_too met = elim (cases_Bool (is_unmet also.plan.requests.items also.plan.flows.items f)) [
      | inr is ↦ is
      | inl unmet ↦
          let some = met_there line v w is_v is_w d covered asked_there are.there also.there are.is_there also.is_there are.plan also.plan are.is_plan also.is_plan x at_d
          e f made made_there (ap not met) in
          absurd (false≢true (sym (ap not unmet) ∙ some))
    ]

    its_age : (n : ℕ) → least_age also.timing also.plan.requests.items also.plan.flows.items also.delays f ≡ Some n
        → (m : ℕ) × (least_age are.timing are.plan.requests.items are.plan.flows.items are.delays e ≡ Some m) × (m ≤ n)
    its_age n is_n =
        let known = bus line v w by times reported are also good in
        let part_of = is_part line v w by times reported are also good in
        let (m, is_m, less) = younger (p line v w by times reported are also good) are.plan also.plan part_of good _ (unplanned_of also.plan known.timing)
        (few_unplanned also.plan known.timing)
        (unplanned_there (p line v w by times reported are also good) are.plan also.plan part_of known.timing) are.stays also.stays
        are.delays also.delays (asks_here line v w by times reported are also good) (asks_there line v w by times reported are also good) e f
        (come line v w is_v is_w d covered asked_there are.there also.there are.is_there also.is_there are.plan also.plan are.is_plan also.is_plan x at_d e f made made_there)
        n (ap (λ t. least_age t also.plan.requests.items also.plan.flows.items also.delays f) (sym known.there_is) ∙ is_n) in
        (m, ap (λ t. least_age t are.plan.requests.items are.plan.flows.items are.delays e) known.here_is ∙ is_m, less)

    age_no_worse : (b : Bool) → is_unmet are.plan.requests.items are.plan.flows.items e ≡ b → is_less_bad (need_badness age_there) (need_badness age) ≡ false
    age_no_worse true unmet =
        ap (λ t. is_less_bad (need_badness age_there) (need_badness t)) (ap (λ b. if b then need.NoVariant
        else need.Age (least_age are.timing are.plan.requests.items are.plan.flows.items are.delays e)
        (youngest_here are.there.flows.items are.plan are.timing are.delays e)) unmet)
        ∙ nothing_less (need_badness age_there).degree (need_badness age_there).time
    age_no_worse false met =
        ap (λ t. is_less_bad (need_badness t) (need_badness age)) (ap (λ b. if b then need.NoVariant
        else need.Age (least_age also.timing also.plan.requests.items also.plan.flows.items also.delays f)
        (youngest_here also.there.flows.items also.plan also.timing also.delays f)) (met_too met))
        ∙ ap (λ t. is_less_bad (badness_known (least_age also.timing also.plan.requests.items also.plan.flows.items also.delays f)) (need_badness t))
        (ap (λ b. if b then need.NoVariant
        else need.Age (least_age are.timing are.plan.requests.items are.plan.flows.items are.delays e)
        (youngest_here are.there.flows.items are.plan are.timing are.delays e)) met)
        ∙ known_no_worse (least_age are.timing are.plan.requests.items are.plan.flows.items are.delays e)
        (least_age also.timing also.plan.requests.items also.plan.flows.items also.delays f) its_age

  no_worse_here : is_less_bad (need_badness there) (need_badness here) ≡ false
  no_worse_here = elim (cases_Bool (is_source_there line v d)) [
    | inr none ↦ none_here (without_source line v times are d asked none)
    | inl source ↦
        let its = need_in_plan line v are.there are.is_there are.plan are.is_plan d x at_d asked source in
        let those = need_in_plan line w also.there also.is_there also.plan also.is_plan d x at_d asked_there (source_too line v w by d source) in
        ap (λ t. is_less_bad (need_badness t) (need_badness here)) (with_source line w reported also d asked_there x those)
        ∙ ap (λ t. is_less_bad (need_badness (age_here also.there.flows.items also.plan also.timing also.delays those.value)) (need_badness t))
        (with_source line v times are d asked x its)
        ∙ age_no_worse its.value those.value its.made those.made (is_unmet are.plan.requests.items are.plan.flows.items its.value) refl
  ]

  pub need_as_bad : d < length line.plan.needs.items → is_less_bad (need_badness (time_of_need reported d)) (need_badness (time_of_need times d)) ≡ false
  need_as_bad below =
      ap (λ t. is_less_bad (need_badness t) (need_badness (time_of_need times d))) (also.needs d below)
      ∙ ap (λ t. is_less_bad (need_badness there) (need_badness t)) (are.needs d below) ∙ no_worse_here

-- It is written of a need that it is unmet exactly where this is found.
use Rattle.std.proofs.Common.{◌≡◌, ◌≢◌, ◌↔◌, ℕ, ◌+◌, ◌<◌, ◌==◌, Bool, true, false, if◌then◌else◌, List, length, get_or, Option, Some, None, inl, inr, refl, sym}
use Rattle.std.proofs.Common.{ap, ◌∙◌, subst, arith}
use Rattle.std.specs.List.{Contains, list_any}
use Rattle.std.specs.Option.{option_map_or}
use Rattle.std.proofs.lemmas.Bool.{cases_Bool, eq-eqb, eqb-true, false≢true, true≢false}
use Rattle.std.proofs.lemmas.List.FromFn.{get_or-map-range_with_len}
use Rattle.std.proofs.lemmas.List.Folds.{list_any_at}
use Rattle.std.proofs.lemmas.Option.{get_or_from_slice_get, slice_get_within}
use Rattle.j39_findings.specs.declared.checking.finding.Finding.{Finding}
use Rattle.j39_findings.specs.declared.checking.finding.Finding.TheVariants.{NeedUnmet}
use Rattle.j39_findings.specs.Found.{is_unmet}
use Rattle.j39_load.specs.Ages.{least_age}
use Rattle.j39_network.specs.declared.plan.need_plan.NeedPlan.{NeedPlan}
use Rattle.j39_variants.specs.declared.line.ProductLine.{ProductLine}
use Rattle.j39_line_findings.specs.MissedNeeds.{is_need_asked_for}
use Rattle.j39_line_findings.specs.declared.line_finding.LineFinding.{LineFinding}
use Rattle.j39_line_findings.specs.declared.line_finding.LineFinding.TheVariants.{OfPlan, OfLoad}
use Rattle.j39_line_findings.proofs.Tests.{any_at}
use Rattle.j39_line_bounds.specs.LineTimes.{AreTimesAmong, AreVariantTimes, age_here, need_time, time_of_need, youngest_here}
use Rattle.j39_line_bounds.specs.declared.times.LineTimes.{LineTimes}
use Rattle.j39_line_bounds.specs.declared.times.NeedTime.{NeedTime}
use Rattle.j39_line_bounds.specs.declared.times.NeedTime.TheVariants as need
use Rattle.j39_line_bounds.proofs.EachTimes.{bound_these}
use Rattle.j39_line_check.specs.declared.answer.ReportedFinding.{ReportedFinding}
use Rattle.j39_line_text.specs.ShownTimes.{AreShownTimes, IsFoundUnmet, UnmetIsFound, is_need_of, is_reported_unmet, reports_unmet, shown_need}

-- ---- no variant's times say it

none_is_not : need.NoVariant ≢ need.Unmet
none_is_not is = false≢true (ap at is)
  where
    at : NeedTime → Bool
    at need.Unmet = true
    at _ = false

age_is_not : (age youngest : Option ℕ) → need.Age age youngest ≢ need.Unmet
age_is_not age youngest is = false≢true (ap at is)
  where
    at : NeedTime → Bool
    at need.Unmet = true
    at _ = false

module _ (line : ProductLine) (v : List ℕ) (times : LineTimes) (are : AreVariantTimes line v times) (d : ℕ) where
  age_of : NeedPlan → NeedTime
  age_of = age_here are.there.flows.items are.plan are.timing are.delays

  age_known : (n : NeedPlan) → age_of n ≢ need.Unmet
  unfolding age_of
  age_known n is = go (is_unmet are.plan.requests.items are.plan.flows.items n) is
    where
      go : (b : Bool) → (if b then need.NoVariant else need.Age (least_age are.timing are.plan.requests.items are.plan.flows.items are.delays n)
          (youngest_here are.there.flows.items are.plan are.timing are.delays n)) ≢ need.Unmet
      go true = none_is_not
      go false = age_is_not _ _

  of_one : need_time line v are.there are.plan are.timing are.delays d ≢ need.Unmet
  unfolding age_of
  of_one is = go (is_need_asked_for line v d) _ is
    where
      in_plan : (o : Option NeedPlan) → option_map_or age_of o need.NoVariant ≢ need.Unmet
      in_plan None = none_is_not
      in_plan (Some n) = age_known n

      go : (b : Bool) (o : Option NeedPlan) → (if b then option_map_or age_of o need.NoVariant else need.NoVariant) ≢ need.Unmet
      go true o = in_plan o
      go false o = none_is_not

module _ (line : ProductLine) (variants : List (List ℕ)) (times : LineTimes) (among : AreTimesAmong line variants times) (d : ℕ)
    (below : d < length line.plan.needs.items) where
  of_none : time_of_need times d ≢ need.Unmet
  of_none is = elim ((bound_these line variants times among).needs d below) [
    | inl none ↦ none_is_not (sym none ∙ is)
    | inr (v, these, (t, are, same)) ↦ of_one line v t are d (sym (are.needs d below) ∙ (sym same ∙ is))
  ]

-- ---- where it is found

found_unmet : (reported : List ReportedFinding) (d : ℕ) → is_reported_unmet reported d ≡ true → IsFoundUnmet reported d
found_unmet reported d is =
    let its = any_at (λ (t : ReportedFinding). reports_unmet d t.finding) reported is in (
      its.value,
      (its.i, slice_get_within reported its.i its.value its.value_is, get_or_from_slice_get reported its.i its.value its.value its.value_is),
      of_finding its.value.finding its.passes,
    )
  where
    of_plan : (f : Finding) → is_need_of d f ≡ true → f ≡ NeedUnmet d
    of_plan (NeedUnmet e) same = ap NeedUnmet (eqb-true e d same)
    of_plan _ same = absurd (false≢true same)

    of_finding : (f : LineFinding) → reports_unmet d f ≡ true → f ≡ OfPlan (NeedUnmet d)
    of_finding (OfPlan f) is_f = ap OfPlan (of_plan f is_f)
    of_finding (OfLoad f) is_f = absurd (false≢true is_f)

unmet_found : (reported : List ReportedFinding) (d : ℕ) → IsFoundUnmet reported d → is_reported_unmet reported d ≡ true
unmet_found reported d (t, at, is) =
    list_any_at (λ (one : ReportedFinding). reports_unmet d one.finding) reported at.0 t at.1
    (subst (λ (one : ReportedFinding). reports_unmet d one.finding ≡ true) (sym at.2) (ap (reports_unmet d) is ∙ eq-eqb d d refl))

-- ---- the law

module _ (line : ProductLine) (variants : List (List ℕ)) (times shown : LineTimes) (reported : List ReportedFinding) (among : AreTimesAmong line variants times)
    (are : AreShownTimes line times reported shown) (d : ℕ) (below : d < length line.plan.needs.items) where
  shown_is : time_of_need shown d ≡ shown_need are.possible_needs times reported d
  shown_is =
      let first : 0 + d ≡ d = omega arith in
      let inside = subst (λ n. d < n) (sym among.worst.need_count) below in
      ap (λ xs. get_or xs d need.NoVariant) are.needs
      ∙ get_or-map-range_with_len (shown_need are.possible_needs times reported) 0 (length times.needs.items) d d need.NoVariant inside first

  to : (p r : Bool) → get_or are.possible_needs d false ≡ p → is_reported_unmet reported d ≡ r
      → (if p then (if r then need.Unmet else time_of_need times d) else need.NoVariant) ≡ need.Unmet
      → (get_or are.possible_needs d false ≡ true) × IsFoundUnmet reported d
  to true true is_p is_r is = (is_p, found_unmet reported d is_r)
  to true false is_p is_r is = absurd (of_none line variants times among d below is)
  to false r is_p is_r is = absurd (none_is_not is)

  back : get_or are.possible_needs d false ≡ true → IsFoundUnmet reported d → shown_need are.possible_needs times reported d ≡ need.Unmet
  back possible found =
      ap (λ p. if p then (if is_reported_unmet reported d then need.Unmet else time_of_need times d) else need.NoVariant) possible
      ∙ ap (λ r. if r then need.Unmet else time_of_need times d) (unmet_found reported d found)

  exactly : (time_of_need shown d ≡ need.Unmet) ↔ ((get_or are.possible_needs d false ≡ true) × IsFoundUnmet reported d)
  exactly = (
    λ is. to (get_or are.possible_needs d false) (is_reported_unmet reported d) refl refl (sym shown_is ∙ is),
    λ its. shown_is ∙ back its.0 its.1,
  )

pub unmet_is_found : UnmetIsFound
unmet_is_found line variants times shown reported among are d below = exactly line variants times shown reported among are d below

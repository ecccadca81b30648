-- Each finding that comes by what is there, of a plan and of its load.
use Rattle.std.proofs.Common.{◌≡◌, ◌↔◌, ℕ, true, false, not, ◌&&◌, is_some, List, [], ◌∷◌, Contains, Option, Some, None, refl, sym, ◌∙◌, ap, subst}
use Rattle.std.specs.List.{slice_get}
use Rattle.std.proofs.lemmas.Bool.{and_from, and_parts, false≢true}
use Rattle.std.proofs.lemmas.Option.{same_Some}
use Rattle.j39_load.specs.declared.findings.load_finding.LoadFinding.{LoadFinding}
use Rattle.j39_load.specs.declared.findings.load_finding.LoadFinding.TheVariants.{NoPeriod, Overload, LateFlow, NeedTooOld, AskedTooOften}
use Rattle.j39_network.specs.declared.plan.flow_plan.FlowPlan.{FlowPlan}
use Rattle.j39_network.specs.declared.plan.pace.Pace.{Pace}
use Rattle.j39_variants.specs.declared.line.ProductLine.{ProductLine}
use Rattle.j39_part_laws.specs.PlanParts.{IsPartAt}
use Rattle.j39_line_findings.specs.Conditions.{conditions_of_load, goes_by_conditions, meets_any, meets_condition, no_period_conditions, where_together}
use Rattle.j39_line_findings.specs.InFile.{load_finding_in_file}
use Rattle.j39_line_findings.specs.LineFound.{AreVariantFindings, IsFound}
use Rattle.j39_line_findings.specs.There.{place_in_file}
use Rattle.j39_line_findings.specs.declared.line_finding.LineFinding.{LineFinding}
use Rattle.j39_line_findings.specs.declared.line_finding.LineFinding.TheVariants.{OfPlan, OfLoad}
use Rattle.j39_line_findings.specs.declared.part.LinePart.TheVariants.{Flow}
use Rattle.j39_line_laws.proofs.FoundOfCovering.{in_load, of_load_reported}
use Rattle.j39_line_laws.specs.FoundOfCovering.{is_by_absence}
use Rattle.j39_line_laws.proofs.FoundTogether.{plan_reported, reported_plan}
use Rattle.j39_line_laws.proofs.InWhole.{at, flow_in_file, flow_place, flow_there, is_part}
use Rattle.j39_line_laws.proofs.Periods.{no_period_reported, reported_no_period}
use Rattle.j39_line_laws.proofs.Tests.{if_of, met_one, of_if, of_some, one_met, some_of}
use Rattle.j39_line_laws.specs.ByPresence.{FoundByPresence, IsFoundOfParts}

module _ (line : ProductLine) (v : List ℕ) (findings : List LineFinding) (has : AreVariantFindings line v findings) where
  is : IsPartAt (at line v) has.plan line.plan
  is = is_part line v has.plan has.is_plan

  abbrev Is : LoadFinding → Type 0
  Is finding = IsFound findings (OfLoad finding)

  abbrev IsMet : ℕ → Type 0
  IsMet f = meets_any line v (conditions_of_load line (NoPeriod f)) ≡ true

  unpaced_met : (i : ℕ) → Contains has.others (NoPeriod i) → IsMet (place_in_file has.there.flows.items i)
  unpaced_met i among =
      let (timed, its) = no_period_reported has.plan has.others has.are_others i among in
      let there = is.flows.each i its.flow its.flow_is in
      let none : not (is_some there.value.pace) ≡ true = ap (λ o. not (is_some o)) (there.meets.pace ∙ its.unpaced) in
      let known : is_some line.plan.timing ≡ true = ap is_some (sym is.timing) ∙ timed in
      subst IsMet (sym (flow_in_file line v has.plan has.is_plan has.there has.is_there i its.flow its.flow_is))
      (some_of (meets_condition line v) (no_period_conditions line ((at line v).flow i))
      (slice_get line.plan.flows.items ((at line v).flow i)) there.value there.value_is
      (if_of (meets_condition line v) (is_some line.plan.timing && not (is_some there.value.pace)) (where_together (Flow ((at line v).flow i) ∷ []))
      (and_from (is_some line.plan.timing) (not (is_some there.value.pace)) known none)
      (one_met line v (Flow ((at line v).flow i)) (flow_there line v has.plan has.is_plan i its.flow its.flow_is))))

  load_stated : (f : ℕ) → Is (NoPeriod f) → IsMet f
  load_stated f one = let (y, among, same) = in_load line v findings has (NoPeriod f) one in by y among same
    where
      place_of : (a b : ℕ) → NoPeriod a ≡ NoPeriod b → a ≡ b
      place_of a b same = cc

      by : (y : LoadFinding) → Contains has.others y → load_finding_in_file has.there y ≡ NoPeriod f → IsMet f
      by (NoPeriod i) among same = subst IsMet (place_of (place_in_file has.there.flows.items i) f same) (unpaced_met i among)
      by (Overload n) among same = cc
      by (LateFlow i) among same = cc
      by (NeedTooOld d) among same = cc
      by (AskedTooOften i) among same = cc

  unpaced : (o : Option Pace) → not (is_some o) ≡ true → o ≡ None
  unpaced None none = refl
  unpaced (Some pace) none = absurd (false≢true none)

  reported_load : (f : ℕ) → IsMet f → Is (NoPeriod f)
  reported_load f met =
      let of = of_some (meets_condition line v) (no_period_conditions line f) (slice_get line.plan.flows.items f) met in
      let (test, together) = of_if (meets_condition line v) (is_some line.plan.timing && not (is_some of.value.pace))
      (where_together (Flow f ∷ [])) of.passes in
      let (known, none) = and_parts (is_some line.plan.timing) (not (is_some of.value.pace)) test in
      let its = flow_place line v has.plan has.is_plan f (met_one line v (Flow f) together) in
      let there = is.flows.each its.i its.value its.value_is in
      let same = same_Some there.value of.value (sym there.value_is ∙ ap (slice_get line.plan.flows.items) its.place_is ∙ of.value_is) in
      let is_none : its.value.pace ≡ None = sym there.meets.pace ∙ ap (λ (flow : FlowPlan). flow.pace) same ∙ unpaced of.value.pace none in
      subst (λ a. Is (NoPeriod a)) (flow_in_file line v has.plan has.is_plan has.there has.is_there its.i its.value its.value_is ∙ its.place_is)
      (of_load_reported line v findings has (NoPeriod its.i) (reported_no_period has.plan has.others has.are_others its.i (ap is_some is.timing ∙ known)
      (record { flow = its.value; flow_is = its.value_is; unpaced = is_none })))

  pub by_presence : (finding : LineFinding) → goes_by_conditions line finding ≡ true → is_by_absence finding ≡ false
      → IsFound findings finding ↔ IsFoundOfParts line v finding
  by_presence (OfPlan x) goes present = (plan_reported line v findings has x goes present, reported_plan line v findings has x present)
  by_presence (OfLoad (NoPeriod f)) goes present = (λ one. (tt, load_stated f one), λ parts. reported_load f parts.1)
  by_presence (OfLoad (Overload n)) goes present = absurd (false≢true goes)
  by_presence (OfLoad (LateFlow f)) goes present = absurd (false≢true goes)
  by_presence (OfLoad (NeedTooOld d)) goes present = absurd (false≢true goes)
  by_presence (OfLoad (AskedTooOften f)) goes present = absurd (false≢true goes)

pub found_by_presence : FoundByPresence
found_by_presence = by_presence

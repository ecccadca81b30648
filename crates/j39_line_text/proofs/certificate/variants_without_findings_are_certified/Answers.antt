use Rattle.std.proofs.Common.{◌≡◌, ◌++◌, ℕ, List, [], length, map, refl, subst}
use Rattle.std.specs.List.{range_with_len}
use Rattle.j39_findings.specs.Found.{found}
use Rattle.j39_findings.specs.declared.checking.finding.Finding.TheVariants.{NeedUnmet}
use Rattle.j39_load.specs.BusTimes.{timing_of}
use Rattle.j39_load.specs.LoadFindings.{AreLoadFindings}
use Rattle.j39_load.specs.declared.findings.load_finding.LoadFinding.{LoadFinding}
use Rattle.j39_network.specs.declared.plan.Plan.{Plan}
use Rattle.j39_variants.specs.VariantPlans.{IsVariantPlan}
use Rattle.j39_variants.specs.declared.line.ProductLine.{ProductLine}
use Rattle.j39_line_findings.specs.InFile.{finding_in_file, findings_in_file, load_finding_in_file}
use Rattle.j39_line_findings.specs.MissedNeeds.{is_need_missed}
use Rattle.j39_line_findings.specs.There.{missed_needs}
use Rattle.j39_line_findings.specs.declared.line_finding.LineFinding.TheVariants.{OfPlan, OfLoad}
use Rattle.j39_line_check.specs.LineChecks.{HasNothing}
use Rattle.j39_line_laws.proofs.VariantsExist.{some_plan, some_there}
use Rattle.j39_part_laws.proofs.LoadsExist.{some_load_findings}
use Rattle.j39_line_text.proofs.CertifiedVariants.{none_made, none_of_both, none_passes}
use Rattle.j39_line_text.proofs.certificate.variants_without_findings_are_certified.Goals as goal

-- nothing is found of a plan of the variant, nor of its load, and no need is missed
record IsEmpty (line : ProductLine) (v : List ℕ) (plan : Plan) (load : List LoadFinding) : Type 0 where
  plans : found plan ≡ []
  loads : load ≡ []
  needs : missed_needs line v ≡ []

empty : (line : ProductLine) (v : List ℕ) → HasNothing line v → (plan : Plan) → IsVariantPlan line v plan → (load : List LoadFinding)
    → AreLoadFindings plan (timing_of plan) load → IsEmpty line v plan load
empty line v nothing plan is_plan load are_load =
    let there = some_there line v in
    let listed = map (λ finding. OfPlan (finding_in_file there.0 finding)) (found plan) in
    let of_load = map (λ finding. OfLoad (load_finding_in_file there.0 finding)) load in
    let missed = map (λ d. OfPlan (NeedUnmet d)) (missed_needs line v) in
    let none : findings_in_file there.0 (found plan) load (missed_needs line v) ≡ [] =
    nothing.alone (findings_in_file there.0 (found plan) load (missed_needs line v))
    (record { there = there.0; is_there = there.1; plan = plan; is_plan = is_plan; others = load; are_others = are_load; are_all = refl }) in
    let first = none_of_both listed (of_load ++ missed) none in
    let others = none_of_both of_load missed first.1 in
    record {
      plans = none_made (λ finding. OfPlan (finding_in_file there.0 finding)) (found plan) first.0;
      loads = none_made (λ finding. OfLoad (load_finding_in_file there.0 finding)) load others.0;
      needs = none_made (λ d. OfPlan (NeedUnmet d)) (missed_needs line v) others.1;
    }

pub returns : goal.returns
returns c line reported v possible =
    let nothing = c.nothing_reported_is_nothing_found.ensures line reported v possible in
    let of : (plan : Plan) → IsVariantPlan line v plan → (load : List LoadFinding) × IsEmpty line v plan load × AreLoadFindings plan (timing_of plan) load =
    λ plan is_plan. let load = some_load_findings plan (timing_of plan) in (load.0, empty line v nothing plan is_plan load.0 load.1, load.1) in
    let planned = some_plan line v in
    record {
      planned = planned;
      each = λ plan is_plan.
          let (load, none, are_load) = of plan is_plan in
          let clean = (c.clean_where_none.ensures plan).0 none.plans in
          let unhurried = subst (AreLoadFindings plan (timing_of plan)) none.loads are_load in
          record { clean = clean; unhurried = unhurried; certified = c.clean_plans_are_certified.ensures plan clean unhurried };
      asked = none_passes (is_need_missed line v) (range_with_len 0 (length line.plan.needs.items)) (of planned.0 planned.1).1.needs;
    }

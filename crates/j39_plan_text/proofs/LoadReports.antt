-- What is written of a plan's load.
use Rattle.std.proofs.Common.{◌≡◌, ℕ, ◌++◌, true, false, List, [], Option, Some, None, codes, refl, sym, ap, ◌∙◌, subst, true≢false}
use Rattle.j39_answer.proofs.Answered.{unknown_bus}
use Rattle.j39_answer.specs.PlanAnswers.{IsBusAnswer, IsPlanAnswer}
use Rattle.j39_answer.specs.declared.plan_answer.PlanAnswer.{PlanAnswer}
use Rattle.j39_network.specs.declared.plan.Plan.{Plan}
use Rattle.j39_network.specs.declared.plan.timing.Timing.{Timing}
use Rattle.j39_findings.specs.declared.checking.finding.Finding.{Finding}
use Rattle.j39_findings.specs.Found.{found}
use Rattle.j39_load.specs.BusTimes.{timing_of}
use Rattle.j39_load.specs.declared.findings.load_answer.LoadAnswer.{LoadAnswer}
use Rattle.j39_load.specs.declared.findings.load_finding.LoadFinding.{LoadFinding}
use Rattle.j39_load.specs.Asked.{Asked, asked_of, total_load}
use Rattle.j39_load.specs.AskedLoads.{asked_in}
use Rattle.j39_load.specs.LoadAnswers.{IsLoadAnswer}
use Rattle.j39_load.specs.LoadFindings.{AreLoadFindings, all_findings}
use Rattle.j39_plan_text.specs.CheckText.{IsReport, findings_text}
use Rattle.j39_plan_text.specs.LoadText.{IsLoadReport, WritesLoads, load_verdict, shows_times, unshown_text}
use Rattle.j39_plan_text.specs.LoadLines.{loads_text}
use Rattle.j39_stream.specs.declared.verdict.Verdict.{Verdict}
use Rattle.j39_stream.specs.declared.verdict.Verdict.TheVariants.{Findings, Refused}

module _ (plan : Plan) (timing : Timing) (is : timing_of plan ≡ Some timing) (answer : LoadAnswer) (stated : IsLoadAnswer plan timing answer)
    (findings : List Finding) (listed : findings ≡ found plan) where
  -- some finding hides the times
  none_wrong : shows_times findings ≡ false → ¬ ((found plan ≡ []) × (answer.findings.items ≡ []))
  none_wrong hidden none = true≢false (sym (ap shows_times (listed ∙ none.0)) ∙ hidden)

  -- what is reported of the plan's load is reported of a plan with its timing
  of_plan : (text : List ℕ) (verdict : Verdict) → WritesLoads plan timing stated.stays answer.delays.items text verdict
      → IsLoadReport plan (timing_of plan) text verdict
  of_plan text verdict loads =
      subst (λ (t : Option Timing). IsLoadReport plan t text verdict) (sym is) (stated.stays, answer.delays.items, stated.asks, loads)

  -- it is what check writes
  pub as_checked : (text : List ℕ) → shows_times findings ≡ false → text ≡ findings_text plan findings answer.findings.items
      → IsLoadReport plan (timing_of plan) text Findings
  as_checked text hidden written =
      let others = answer.findings.items in
      let late : AreLoadFindings plan (timing_of plan) others =
      subst (λ (t : Option Timing). AreLoadFindings plan t others) (sym is) (stated.stays, answer.delays.items, stated.asks, stated.found) in
      let shown : text ≡ findings_text plan (found plan) others = written ∙ ap (λ (fs : List Finding). findings_text plan fs others) listed in
      let report : IsReport plan text Findings = (others, late, none_wrong hidden, shown) in
      let here : shows_times (found plan) ≡ false = ap shows_times (sym listed) ∙ hidden in
      let loads : WritesLoads plan timing stated.stays answer.delays.items text Findings = rw here report in
      of_plan text Findings loads

  -- the loads, and the findings of which they don't report
  pub loads_reported : (text : List ℕ) (verdict : Verdict) → shows_times findings ≡ true
      → text ≡ loads_text plan timing (asked_in answer.loads) answer.delays.items ++ unshown_text plan findings answer.findings.items
      → verdict ≡ load_verdict findings answer.findings.items → IsLoadReport plan (timing_of plan) text verdict
  loads_reported text verdict shown written verdict_is =
      let delays = answer.delays.items in
      let others = answer.findings.items in
      let asked = asked_of timing plan stated.stays in
      let all : List LoadFinding = all_findings plan timing (total_load timing asked) delays in
      let here : shows_times (found plan) ≡ true = ap shows_times (sym listed) ∙ shown in
      let lines : text ≡ loads_text plan timing asked delays ++ unshown_text plan (found plan) all =
      written ∙ ap (λ (a : Asked). loads_text plan timing a delays ++ unshown_text plan findings others) stated.asked
      ∙ ap (λ (fs : List Finding). loads_text plan timing asked delays ++ unshown_text plan fs others) listed
      ∙ ap (λ (os : List LoadFinding). loads_text plan timing asked delays ++ unshown_text plan (found plan) os) stated.found in
      let ends : verdict ≡ load_verdict (found plan) all =
      verdict_is ∙ ap (λ (fs : List Finding). load_verdict fs others) listed ∙ ap (load_verdict (found plan)) stated.found in
      let loads : WritesLoads plan timing stated.stays delays text verdict = rw here (lines, ends) in
      of_plan text verdict loads

-- nothing is known of the bus
pub not_timed : (plan : Plan) (answer : PlanAnswer) → IsPlanAnswer plan answer → answer.load ≡ None → (text : List ℕ)
    → text ≡ codes "refused plan NoTiming\n" → IsLoadReport plan (timing_of plan) text Refused
not_timed plan answer is none text written =
    let untimed : timing_of plan ≡ None = unknown_bus plan (timing_of plan) (subst (IsBusAnswer plan (timing_of plan)) none is.bus) in
    subst (λ (t : Option Timing). IsLoadReport plan t text Refused) (sym untimed) (written, refl)

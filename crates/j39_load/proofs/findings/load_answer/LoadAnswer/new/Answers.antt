use Rattle.std.proofs.Common.{◌≡◌, ◌≢◌, ◌⊎◌, ◌++◌, ℕ, [], length, Some, inl, inr, ap, subst, ◌∙◌, arith}
use Rattle.std.proofs.lemmas.Bool.{cases_lt}
use Rattle.j39_network.specs.declared.plan.timing.Timing.{Timing}
use Rattle.j39_load.specs.Asked.{asked_of, total_load}
use Rattle.j39_load.specs.AskedLoads.{asked_in}
use Rattle.j39_load.specs.LoadFindings.{IsFullOfDamage, further_findings, load_findings}
use Rattle.j39_load.proofs.LoadAnswers.{answered}
use Rattle.j39_search.proofs.WantedMemory.{on_err}
use Rattle.j39_load.proofs.WithoutFlows.{full_of_damage}
use Rattle.j39_load.proofs.findings.load_answer.LoadAnswer.new.Goals as goal

pub returns-clause-answer : goal.returns-clause-answer
returns-clause-answer c =
    let (stays, states, same) = c.in_ok-loads.ensures.asked in
    answered c.args.plan.now c.args.timing stays
    (record { loads = c.in_ok-loads.loads; delays = c.in_ok-delays.delays; findings = c.in_ok-findings.findings }) states c.in_ok-loads.ensures.timing same
    c.in_ok-delays.ensures.delays (rw (c.total.ensures, c.as_slice.ensures.value) at c.in_ok-findings.ensures.findings)

pub returns-in_err-findings-clause-memory : goal.returns-in_err-findings-clause-memory
returns-in_err-findings-clause-memory c =
    let plan = c.args.plan.now in
    let timing = c.args.timing in
    let loads = c.in_ok-loads.loads in
    let delays = c.in_ok-delays.delays.items in
    let (stays, states, same) = c.in_ok-loads.ensures.asked in
    let total : c.total.result ≡ total_load timing (asked_of timing plan stays) =
    c.total.ensures ∙ ap (λ (t : Timing). total_load t (asked_in loads)) c.in_ok-loads.ensures.timing ∙ ap (total_load timing) same in
    let found = rw (c.as_slice.ensures.value) at c.in_err-findings.ensures.memory in
    let which : (plan.flows.items ≢ []) ⊎ ((plan.requests.items ≢ []) ⊎ IsFullOfDamage (Some timing)) =
    elim (cases_lt 0 (length plan.flows.items)) [
      | inl flows ↦ inl (λ none. absurd (omega (arith, flows, ap length none)))
      | inr none ↦ inr (elim (cases_lt 0 (length plan.requests.items)) [
        | inl requests ↦ inl (λ silent. absurd (omega (arith, requests, ap length silent)))
        | inr silent ↦ inr (full_of_damage timing plan stays delays (omega (arith, none)) (omega (arith, silent))
            (omega (arith, none, c.in_ok-loads.ensures.count, c.in_ok-delays.ensures.delays.count))
            (subst (λ (n : ℕ). load_findings timing n delays ++ further_findings plan timing delays ≢ [])
            total found))
      ])
    ] in
    on_err _ _ _ c.from_residual-in_err-findings.ensures.1 which

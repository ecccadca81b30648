-- A flow is reported as asked for too often exactly where more is asked in each time that is whole periods of its requests.
use Rattle.std.proofs.Common.{◌≡◌, ℕ, ◌+◌, ◌-◌, ◌*◌, ◌/◌, ◌<◌, ◌≤◌, true, List, [], ◌∷◌, ◌++◌, Contains, Option, Some, None, is_some, inl, inr, ltb, refl, sym}
use Rattle.std.proofs.Common.{ap, subst, ◌∙◌, arith}
use Rattle.std.specs.List.{slice_get}
use Rattle.std.proofs.Math.Nat.{mul-div_cancel}
use Rattle.std.proofs.lemmas.Bool.{and_parts, cases_lt, false≢true, le-ltb, lt-ltb, ltb-true}
use Rattle.std.proofs.lemmas.List.Elements.{Contains-append_cases, Contains-append_right}
use Rattle.std.proofs.lemmas.Option.{same_Some}
use Rattle.j39_network.specs.declared.plan.Plan.{Plan}
use Rattle.j39_network.specs.declared.plan.flow_plan.FlowPlan.{FlowPlan}
use Rattle.j39_network.specs.declared.plan.pace.Pace.{Pace}
use Rattle.j39_network.specs.declared.plan.request_plan.RequestPlan.{RequestPlan}
use Rattle.j39_network.specs.declared.plan.timing.Timing.{Timing}
use Rattle.j39_load.specs.Ages.{old_needs}
use Rattle.j39_load.specs.Asked.{asked_of, total_load}
use Rattle.j39_load.specs.AskedFlows.{asked_parts, asking_periods, is_asked_too_often, is_more_than_one, whole_parts}
use Rattle.j39_load.specs.AskedMore.{AreAskedMore, asked_within, IsAskedMore, IsCommonTime}
use Rattle.j39_load.specs.LineLists.{lines_of_each}
use Rattle.j39_load.specs.LoadFindings.{all_findings, flows_asked_too_often, AreLoadFindings, further_findings, lateness, load_findings, overload}
use Rattle.j39_load.specs.LoadFindings.{without_period}
use Rattle.j39_load.specs.declared.findings.load_finding.LoadFinding.{LoadFinding}
use Rattle.j39_load.specs.declared.findings.load_finding.LoadFinding.TheVariants.{NoPeriod, Overload, LateFlow, NeedTooOld, AskedTooOften}
use Rattle.j39_load.specs.declared.waits.delay.Delay.{Delay}
use Rattle.j39_load.proofs.AskedParts.{answering_more, some_whole}
use Rattle.j39_load.proofs.AskedShares.{times_greater}
use Rattle.j39_load.proofs.ReportedLines.{asked_reported, of_asked, of_late, of_old, of_overload, of_unpaced, reported_at}

-- ---- in a time that is whole periods

asked_in_time : (p time : ℕ) (periods : List ℕ) → 1 ≤ time → IsCommonTime time periods
    → time * asked_parts p periods ≡ whole_parts periods * (p * asked_within time periods)
unfolding asked_parts whole_parts
asked_in_time p time [] some common = omega arith
asked_in_time p time (every ∷ periods) some ((n, is), common) =
    let rest = ap (λ (m : ℕ). every * m) (asked_in_time p time periods some common) in
    let positive : 0 < every = elim (cases_lt 0 every) [
      | inl above ↦ above
      | inr none ↦ absurd (let product = ap (λ (m : ℕ). n * m) (let zero_every : every ≡ 0 = omega (arith, none) in zero_every)
          in omega (arith, product, is, some))
    ] in
    let quotient : time / every ≡ n = ap (λ (m : ℕ). m / every) is ∙ mul-div_cancel n positive in
    let first = ap (λ (m : ℕ). m * (p * whole_parts periods)) is in
    let second = ap (λ (m : ℕ). (every * whole_parts periods) * (p * m)) quotient in
    omega (arith, rest, first, second)

pub no_greater : (p a b : ℕ) → a ≤ b → p * a ≤ p * b
no_greater p a b less =
    let split : b ≡ a + (b - a) = omega (arith, less) in
    let grown = ap (λ (n : ℕ). p * n) split in
    omega (arith, grown)

more_in_time : (p time : ℕ) (periods : List ℕ) → 1 ≤ time → 1 ≤ whole_parts periods → IsCommonTime time periods
    → is_more_than_one p periods ≡ ltb time (p * asked_within time periods)
more_in_time p time periods some whole common =
    let both = asked_in_time p time periods some common in
    let d : ℕ = whole_parts periods in
    let n : ℕ = asked_parts p periods in
    let asked : ℕ = p * asked_within time periods in
    elim (cases_lt time asked) [
      | inl less ↦
          let above = times_greater d time asked less in
          elim (cases_lt d n) [
            | inl more ↦ rw (lt-ltb d n more, lt-ltb time asked less) refl
            | inr none ↦ absurd (let below = no_greater time n d none in omega (arith, both, above, below, whole))
          ]
      | inr all ↦
          let below = no_greater d asked time all in
          elim (cases_lt d n) [
            | inl more ↦ absurd (let above = times_greater time d n more in omega (arith, both, above, below, some))
            | inr none ↦ rw (le-ltb d n none, le-ltb time asked all) refl
          ]
    ]

-- their product is such a time
times_common : (every time : ℕ) (periods : List ℕ) → IsCommonTime time periods → IsCommonTime (every * time) periods
times_common every time [] common = tt
times_common every time (x ∷ periods) ((n, is), common) =
    let product = ap (λ (m : ℕ). every * m) is in
    ((every * n, omega (arith, product)), times_common every time periods common)

product_common : (periods : List ℕ) → IsCommonTime (whole_parts periods) periods
unfolding whole_parts
product_common [] = tt
product_common (every ∷ periods) =
    ((whole_parts periods, omega arith), times_common every (whole_parts periods) periods (product_common periods))

-- ---- of a flow

module _ (requests : List RequestPlan) (flow : FlowPlan) where
  pub asked_more : is_asked_too_often requests flow ≡ true → IsAskedMore requests flow
  asked_more is = go flow.pace refl
    where
      go : (pace : Option Pace) → flow.pace ≡ pace → IsAskedMore requests flow
      go None paced =
          let answering = (and_parts _ _ is).0 in
          absurd (false≢true (sym (ap is_some paced) ∙ (and_parts _ _ (and_parts _ _ answering).1).0))
      go (Some pace) paced =
          let answering = (and_parts _ _ is).0 in
          let answers = (and_parts _ _ answering).0 in
          record {
            pace = pace;
            paced = paced;
            answers = answers;
            more = λ time some common. ltb-true time (pace.period * asked_within time (asking_periods requests flow))
                (sym (more_in_time pace.period time (asking_periods requests flow) some (some_whole flow requests) common)
                ∙ sym (answering_more requests flow pace answers paced) ∙ is);
          }

  more_asked : IsAskedMore requests flow → is_asked_too_often requests flow ≡ true
  more_asked is =
      let periods : List ℕ = asking_periods requests flow in
      let some = some_whole flow requests in
      let common = product_common periods in
      answering_more requests flow is.pace is.answers is.paced
      ∙ more_in_time is.pace.period (whole_parts periods) periods some some common
      ∙ lt-ltb (whole_parts periods) (is.pace.period * asked_within (whole_parts periods) periods) (is.more (whole_parts periods) some common)

-- ---- what is reported

module _ (plan : Plan) (timing : Timing) (load : ℕ) (delays : List (Option Delay)) where
  only_asked : (f : ℕ) → Contains (all_findings plan timing load delays) (AskedTooOften f)
      → Contains (flows_asked_too_often plan.requests.items plan.flows.items) (AskedTooOften f)
  only_asked f found = elim (Contains-append_cases (load_findings timing load delays) (further_findings plan timing delays) (AskedTooOften f) found) [
    | inl now ↦ elim (Contains-append_cases (lines_of_each without_period 0 delays) (overload timing load ++ lines_of_each lateness 0 delays)
        (AskedTooOften f) now) [
          | inl unpaced ↦ absurd (let its = reported_at without_period 0 delays (AskedTooOften f) unpaced
              in not_unpaced (0 + its.k) (of_unpaced (0 + its.k) its.value (AskedTooOften f) its.reported).1)
          | inr more ↦ elim (Contains-append_cases (overload timing load) (lines_of_each lateness 0 delays) (AskedTooOften f) more) [
            | inl too_much ↦ absurd (not_overload (of_overload timing load (AskedTooOften f) too_much).1)
            | inr late ↦ absurd (let its = reported_at lateness 0 delays (AskedTooOften f) late
                in not_late (0 + its.k) (of_late (0 + its.k) its.value (AskedTooOften f) its.reported))
          ]
        ]
    | inr further ↦ elim (Contains-append_cases (old_needs timing plan.requests.items plan.flows.items delays plan.needs.items)
        (flows_asked_too_often plan.requests.items plan.flows.items) (AskedTooOften f) further) [
          | inl old ↦ absurd (let its = of_old timing plan delays (AskedTooOften f) old in not_old its.0 its.1)
          | inr asked ↦ asked
        ]
  ]
    where
      not_unpaced : (k : ℕ) → AskedTooOften f ≡ NoPeriod k → ⊥
      not_unpaced k same = cc

      not_overload : AskedTooOften f ≡ Overload load → ⊥
      not_overload same = cc

      not_late : (k : ℕ) → AskedTooOften f ≡ LateFlow k → ⊥
      not_late k same = cc

      not_old : (k : ℕ) → AskedTooOften f ≡ NeedTooOld k → ⊥
      not_old k same = cc

pub asked_at : (plan : Plan) (timing : Timing) (findings : List LoadFinding) → AreLoadFindings plan (Some timing) findings → (f : ℕ)
    → Contains findings (AskedTooOften f) → (flow : FlowPlan) × (slice_get plan.flows.items f ≡ Some flow)
    × (is_asked_too_often plan.requests.items flow ≡ true)
asked_at plan timing findings (stays, delays, asks, is) f found =
    let load : ℕ = total_load timing (asked_of timing plan stays) in
    let its = of_asked plan.requests.items plan.flows.items (AskedTooOften f)
    (only_asked plan timing load delays f (subst (λ l. Contains l (AskedTooOften f)) is found)) in
    let same_place : f ≡ its.0 = same_flow f its.0 its.4 in
    (its.1, ap (slice_get plan.flows.items) same_place ∙ its.2, its.3)
  where
    same_flow : (a b : ℕ) → AskedTooOften a ≡ AskedTooOften b → a ≡ b
    same_flow a b same = cc

pub asked_exactly : (plan : Plan) (timing : Timing) → AreAskedMore plan timing
asked_exactly plan timing findings are f flow at = (
  λ found.
      let its = asked_at plan timing findings are f found in
      let same : its.0 ≡ flow = same_Some its.0 flow (sym its.1 ∙ at) in
      asked_more plan.requests.items flow (subst (λ x. is_asked_too_often plan.requests.items x ≡ true) same its.2),
  λ more. reported are (more_asked plan.requests.items flow more),
)
  where
    reported : AreLoadFindings plan (Some timing) findings → is_asked_too_often plan.requests.items flow ≡ true → Contains findings (AskedTooOften f)
    reported (stays, delays, asks, is) too_often =
        subst (λ l. Contains l (AskedTooOften f)) (sym is)
        (Contains-append_right (load_findings timing (total_load timing (asked_of timing plan stays)) delays) (further_findings plan timing delays)
        (AskedTooOften f)
        (Contains-append_right (old_needs timing plan.requests.items plan.flows.items delays plan.needs.items)
        (flows_asked_too_often plan.requests.items plan.flows.items) (AskedTooOften f)
        (asked_reported plan.requests.items plan.flows.items f flow at too_often)))

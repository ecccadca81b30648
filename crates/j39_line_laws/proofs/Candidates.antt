-- What is asked for is what goes by conditions, where some variant meets one.
use Rattle.std.proofs.Common.{◌≡◌, ◌⊎◌, ℕ, zero, suc, ◌+◌, ◌<◌, Bool, true, false, cond, if◌then◌else◌, List, [], ◌∷◌, ◌++◌, filter, length, Contains, refl}
use Rattle.std.proofs.Common.{sym, ◌∙◌, ap, subst, inl, inr, arith}
use Rattle.std.specs.List.{range_with_len, slice_get}
use Rattle.std.proofs.lemmas.Bool.{false≢true, true≢false}
use Rattle.std.proofs.lemmas.List.FromFn.{get_or-range_with_len, length-range_with_len}
use Rattle.std.proofs.lemmas.Option.{slice_get_within}
use Rattle.j39_findings.specs.Found.{found}
use Rattle.j39_findings.specs.declared.checking.finding.Finding.{Finding}
use Rattle.j39_findings.specs.declared.checking.finding.Finding.TheVariants.{SameName, SameFixedAddress, TooFewAddresses, BadPgn, SamePgn, SignalWidth}
use Rattle.j39_findings.specs.declared.checking.finding.Finding.TheVariants.{SignalOutside, SignalOverlap, FlowToOne, FlowToSelf, FlowRepeated, KeptAddress}
use Rattle.j39_findings.specs.declared.checking.finding.Finding.TheVariants.{PrivateUnsent, RecordOverlap, TextOutside, NeedUnmet, RequestUnanswered}
use Rattle.j39_findings.specs.declared.checking.finding.Finding.TheVariants.{RequestUnheard, AnswerAstray, WhenOutside, RequestRepeated, SilentAddress}
use Rattle.j39_findings.specs.declared.checking.finding.Finding.TheVariants.{SilentInPool, FlowContested}
use Rattle.j39_load.specs.declared.findings.load_finding.LoadFinding.TheVariants.{NoPeriod, Overload, LateFlow, NeedTooOld, AskedTooOften}
use Rattle.j39_network.specs.Serving.{is_to_one}
use Rattle.j39_network.specs.declared.plan.request_plan.RequestPlan.{RequestPlan}
use Rattle.j39_part_laws.specs.ByAbsence.{comes_by_absence}
use Rattle.j39_line_findings.specs.Conditions.{astray_conditions, conditions_of, goes_by_conditions, meets_any, meets_condition, no_period_conditions}
use Rattle.j39_line_findings.specs.Conditions.{unmet_condition, unsent_condition, unserved_condition}
use Rattle.j39_line_findings.specs.LineFound.{IsFound}
use Rattle.j39_line_findings.specs.declared.line_finding.LineFinding.{LineFinding}
use Rattle.j39_line_findings.specs.declared.line_finding.LineFinding.TheVariants.{OfPlan, OfLoad}
use Rattle.j39_line_findings.proofs.OneOf.{one_cases, one_left, one_right}
use Rattle.j39_line_laws.proofs.FoundOfCovering.{made_of, of_made}
use Rattle.j39_line_laws.proofs.Tests.{of_some}
use Rattle.j39_line_laws.specs.ByConditions.{MayBeFound}
use Rattle.j39_line_witnesses.specs.Candidates.{candidates, candidates_of_parts, candidates_of_requests, is_of_parts, of_each_place}
use Rattle.j39_variants.specs.declared.line.ProductLine.{ProductLine}

-- ---- some of a list

passing : (test : Finding → Bool) (xs : List Finding) (x : Finding) → Contains (filter test xs) x → (test x ≡ true) × Contains xs x
passing test [] x (k, below, is) = absurd (omega (arith, below))
passing test (y ∷ ys) x among = by (test y) refl among (passing test ys x)
  where
    later : (test x ≡ true) × Contains ys x → (test x ≡ true) × Contains (y ∷ ys) x
    later (passes, (k, below, is)) = (passes, (suc k, omega (arith, below), is))

    by : (b : Bool) → test y ≡ b → Contains (cond b (y ∷ filter test ys) (filter test ys)) x
        → (Contains (filter test ys) x → (test x ≡ true) × Contains ys x) → (test x ≡ true) × Contains (y ∷ ys) x
    by true passes (zero, below, is) rest = (ap test (sym is) ∙ passes, (0, omega arith, is))
    by true passes (suc k, below, is) rest = later (rest (k, omega (arith, below), is))
    by false fails found rest = later (rest found)

passed : (test : Finding → Bool) (xs : List Finding) (x : Finding) → test x ≡ true → Contains xs x → Contains (filter test xs) x
passed test [] x passes (k, below, is) = absurd (omega (arith, below))
passed test (y ∷ ys) x passes (zero, below, is) =
    subst (λ b. Contains (cond b (y ∷ filter test ys) (filter test ys)) x) (sym (ap test is ∙ passes)) (0, omega arith, is)
passed test (y ∷ ys) x passes (suc k, below, is) = by (test y) (passed test ys x passes (k, omega (arith, below), is))
  where
    by : (b : Bool) → Contains (filter test ys) x → Contains (cond b (y ∷ filter test ys) (filter test ys)) x
    by true (l, under, at) = (suc l, omega (arith, under), at)
    by false among = among

placed : (make : ℕ → LineFinding) (n k : ℕ) → k < n → IsFound (of_each_place make n) (make k)
placed make n k below = of_made make (range_with_len 0 n) k
    (k, let counted = length-range_with_len 0 n in omega (arith, below, counted), get_or-range_with_len 0 n k k below ∙ (let e : 0 + k ≡ k = omega arith in e))

module _ (line : ProductLine) where
  -- ---- what is asked for goes by conditions

  of_parts : (x : Finding) → is_of_parts line x ≡ true → (goes_by_conditions line (OfPlan x) ≡ true) × (comes_by_absence x ≡ false)
  of_parts (SameName i j) is = (refl, refl)
  of_parts (SameFixedAddress i j) is = (refl, refl)
  of_parts (TooFewAddresses n) is = absurd (false≢true is)
  of_parts (BadPgn g) is = (refl, refl)
  of_parts (SamePgn g h) is = (refl, refl)
  of_parts (SignalWidth g s) is = (refl, refl)
  of_parts (SignalOutside g s) is = (refl, refl)
  of_parts (SignalOverlap g s t) is = (refl, refl)
  of_parts (FlowToOne f) is = (refl, refl)
  of_parts (FlowToSelf f) is = (refl, refl)
  of_parts (FlowRepeated f h) is = (refl, refl)
  of_parts (KeptAddress i) is = (refl, refl)
  of_parts (PrivateUnsent g) is = absurd (false≢true is)
  of_parts (RecordOverlap g s t) is = (refl, refl)
  of_parts (TextOutside g t) is = (refl, refl)
  of_parts (NeedUnmet d) is = absurd (false≢true is)
  of_parts (RequestUnanswered r) is = absurd (false≢true is)
  of_parts (RequestUnheard r) is = absurd (false≢true is)
  of_parts (AnswerAstray r) is = absurd (false≢true is)
  of_parts (WhenOutside g) is = (refl, refl)
  of_parts (RequestRepeated r s) is = (refl, refl)
  of_parts (SilentAddress u v) is = (refl, refl)
  of_parts (SilentInPool u) is = (refl, refl)
  of_parts (FlowContested f) is = (is, refl)

  -- ---- lists of places

  abbrev of_groups : List LineFinding
  of_groups = of_each_place (λ g. OfPlan (PrivateUnsent g)) (length line.plan.groups.items)

  abbrev of_flows : List LineFinding
  of_flows = of_each_place (λ f. OfLoad (NoPeriod f)) (length line.plan.flows.items)

  abbrev of_needs : List LineFinding
  of_needs = of_each_place (λ d. OfPlan (NeedUnmet d)) (length line.plan.needs.items)

  abbrev unanswered_ones : List LineFinding
  unanswered_ones = of_each_place (λ r. OfPlan (RequestUnanswered r)) (length line.plan.requests.items)

  abbrev unheard_ones : List LineFinding
  unheard_ones = of_each_place (λ r. OfPlan (RequestUnheard r)) (length line.plan.requests.items)

  abbrev astray_ones : List LineFinding
  astray_ones = of_each_place (λ r. OfPlan (AnswerAstray r)) (length line.plan.requests.items)

  abbrev behind_parts : List LineFinding
  behind_parts = of_groups ++ (of_flows ++ (of_needs ++ candidates_of_requests line))

  abbrev GoesAndMayBe : LineFinding → Type 0
  GoesAndMayBe finding = (goes_by_conditions line finding ≡ true) × MayBeFound line finding

  of_places : (make : ℕ → LineFinding) → ((k : ℕ) → GoesAndMayBe (make k)) → (n : ℕ) (finding : LineFinding) → IsFound (of_each_place make n) finding
      → GoesAndMayBe finding
  of_places make each n finding one =
      let its = made_of make (range_with_len 0 n) finding one in
      subst GoesAndMayBe its.made (each its.value)

  requests_go : (finding : LineFinding) → IsFound (candidates_of_requests line) finding → GoesAndMayBe finding
  requests_go finding one = elim (one_cases unanswered_ones (unheard_ones ++ astray_ones) finding one) [
    | inl first ↦ of_places (λ r. OfPlan (RequestUnanswered r)) (λ k. (refl, inl refl)) (length line.plan.requests.items) finding first
    | inr others ↦ elim (one_cases unheard_ones astray_ones finding others) [
      | inl second ↦ of_places (λ r. OfPlan (RequestUnheard r)) (λ k. (refl, inl refl)) (length line.plan.requests.items) finding second
      | inr third ↦ of_places (λ r. OfPlan (AnswerAstray r)) (λ k. (refl, inl refl)) (length line.plan.requests.items) finding third
    ]
  ]

  behind_go : (finding : LineFinding) → IsFound behind_parts finding → GoesAndMayBe finding
  behind_go finding one = elim (one_cases of_groups (of_flows ++ (of_needs ++ candidates_of_requests line)) finding one) [
    | inl group ↦ of_places (λ g. OfPlan (PrivateUnsent g)) (λ k. (refl, inl refl)) (length line.plan.groups.items) finding group
    | inr more ↦ elim (one_cases of_flows (of_needs ++ candidates_of_requests line) finding more) [
      | inl flow ↦ of_places (λ f. OfLoad (NoPeriod f)) (λ k. (refl, inr tt)) (length line.plan.flows.items) finding flow
      | inr others ↦ elim (one_cases of_needs (candidates_of_requests line) finding others) [
        | inl need ↦ of_places (λ d. OfPlan (NeedUnmet d)) (λ k. (refl, inl refl)) (length line.plan.needs.items) finding need
        | inr request ↦ requests_go finding request
      ]
    ]
  ]

  pub candidate_goes : (finding : LineFinding) → IsFound (candidates line) finding → GoesAndMayBe finding
  candidate_goes finding one = elim (one_cases (candidates_of_parts line) behind_parts finding one) [
    | inl part ↦
        let its = made_of OfPlan (filter (is_of_parts line) (found line.plan)) finding part in
        let (is, among) = passing (is_of_parts line) (found line.plan) its.value its.among in
        subst GoesAndMayBe its.made ((of_parts its.value is).0, inr among)
    | inr behind ↦ behind_go finding behind
  ]

  -- ---- what goes by conditions is asked for, where a variant meets one

  module _ (v : List ℕ) where
    abbrev Behind : LineFinding → Type 0
    Behind finding = IsFound behind_parts finding

    unsent : (g : ℕ) → meets_any line v (conditions_of line (OfPlan (PrivateUnsent g))) ≡ true → Behind (OfPlan (PrivateUnsent g))
    unsent g met =
        let its = of_some (meets_condition line v) (unsent_condition line g) (slice_get line.plan.groups.items g) met in
        one_left of_groups (of_flows ++ (of_needs ++ candidates_of_requests line)) (OfPlan (PrivateUnsent g))
        (placed (λ k. OfPlan (PrivateUnsent k)) (length line.plan.groups.items) g (slice_get_within line.plan.groups.items g its.value its.value_is))

    unpaced : (f : ℕ) → meets_any line v (conditions_of line (OfLoad (NoPeriod f))) ≡ true → Behind (OfLoad (NoPeriod f))
    unpaced f met =
        let its = of_some (meets_condition line v) (no_period_conditions line f) (slice_get line.plan.flows.items f) met in
        one_right of_groups (of_flows ++ (of_needs ++ candidates_of_requests line)) (OfLoad (NoPeriod f))
        (one_left of_flows (of_needs ++ candidates_of_requests line) (OfLoad (NoPeriod f))
        (placed (λ k. OfLoad (NoPeriod k)) (length line.plan.flows.items) f (slice_get_within line.plan.flows.items f its.value its.value_is)))

    unmet : (d : ℕ) → meets_any line v (conditions_of line (OfPlan (NeedUnmet d))) ≡ true → Behind (OfPlan (NeedUnmet d))
    unmet d met =
        let its = of_some (meets_condition line v) (unmet_condition line d) (slice_get line.plan.needs.items d) met in
        one_right of_groups (of_flows ++ (of_needs ++ candidates_of_requests line)) (OfPlan (NeedUnmet d))
        (one_right of_flows (of_needs ++ candidates_of_requests line) (OfPlan (NeedUnmet d))
        (one_left of_needs (candidates_of_requests line) (OfPlan (NeedUnmet d))
        (placed (λ k. OfPlan (NeedUnmet k)) (length line.plan.needs.items) d (slice_get_within line.plan.needs.items d its.value its.value_is))))

    behind_needs : (finding : LineFinding) → IsFound (candidates_of_requests line) finding → Behind finding
    behind_needs finding one = one_right of_groups (of_flows ++ (of_needs ++ candidates_of_requests line)) finding
        (one_right of_flows (of_needs ++ candidates_of_requests line) finding (one_right of_needs (candidates_of_requests line) finding one))

    unanswered : (r : ℕ) → meets_any line v (conditions_of line (OfPlan (RequestUnanswered r))) ≡ true → Behind (OfPlan (RequestUnanswered r))
    unanswered r met =
        let its = of_some (meets_condition line v) (λ (request : RequestPlan). if is_to_one request.to then unserved_condition line r request else [])
        (slice_get line.plan.requests.items r) met in
        behind_needs (OfPlan (RequestUnanswered r)) (one_left unanswered_ones (unheard_ones ++ astray_ones) (OfPlan (RequestUnanswered r))
        (placed (λ k. OfPlan (RequestUnanswered k)) (length line.plan.requests.items) r (slice_get_within line.plan.requests.items r its.value its.value_is)))

    unheard : (r : ℕ) → meets_any line v (conditions_of line (OfPlan (RequestUnheard r))) ≡ true → Behind (OfPlan (RequestUnheard r))
    unheard r met =
        let its = of_some (meets_condition line v) (λ (request : RequestPlan). if is_to_one request.to then [] else unserved_condition line r request)
        (slice_get line.plan.requests.items r) met in
        behind_needs (OfPlan (RequestUnheard r)) (one_right unanswered_ones (unheard_ones ++ astray_ones) (OfPlan (RequestUnheard r))
        (one_left unheard_ones astray_ones (OfPlan (RequestUnheard r))
        (placed (λ k. OfPlan (RequestUnheard k)) (length line.plan.requests.items) r (slice_get_within line.plan.requests.items r its.value its.value_is))))

    astray : (r : ℕ) → meets_any line v (conditions_of line (OfPlan (AnswerAstray r))) ≡ true → Behind (OfPlan (AnswerAstray r))
    astray r met =
        let its = of_some (meets_condition line v) (astray_conditions line r) (slice_get line.plan.requests.items r) met in
        behind_needs (OfPlan (AnswerAstray r)) (one_right unanswered_ones (unheard_ones ++ astray_ones) (OfPlan (AnswerAstray r))
        (one_right unheard_ones astray_ones (OfPlan (AnswerAstray r))
        (placed (λ k. OfPlan (AnswerAstray k)) (length line.plan.requests.items) r (slice_get_within line.plan.requests.items r its.value its.value_is))))

    asked : (x : Finding) → goes_by_conditions line (OfPlan x) ≡ true → meets_any line v (conditions_of line (OfPlan x)) ≡ true
        → (is_of_parts line x ≡ true) ⊎ Behind (OfPlan x)
    asked (SameName i j) goes met = inl refl
    asked (SameFixedAddress i j) goes met = inl refl
    asked (TooFewAddresses n) goes met = absurd (false≢true goes)
    asked (BadPgn g) goes met = inl refl
    asked (SamePgn g h) goes met = inl refl
    asked (SignalWidth g s) goes met = inl refl
    asked (SignalOutside g s) goes met = inl refl
    asked (SignalOverlap g s t) goes met = inl refl
    asked (FlowToOne f) goes met = inl refl
    asked (FlowToSelf f) goes met = inl refl
    asked (FlowRepeated f h) goes met = inl refl
    asked (KeptAddress i) goes met = inl refl
    asked (PrivateUnsent g) goes met = inr (unsent g met)
    asked (RecordOverlap g s t) goes met = inl refl
    asked (TextOutside g t) goes met = inl refl
    asked (NeedUnmet d) goes met = inr (unmet d met)
    asked (RequestUnanswered r) goes met = inr (unanswered r met)
    asked (RequestUnheard r) goes met = inr (unheard r met)
    asked (AnswerAstray r) goes met = inr (astray r met)
    asked (WhenOutside g) goes met = inl refl
    asked (RequestRepeated r s) goes met = inl refl
    asked (SilentAddress u v) goes met = inl refl
    asked (SilentInPool u) goes met = inl refl
    asked (FlowContested f) goes met = inl goes

    pub is_candidate : (finding : LineFinding) → goes_by_conditions line finding ≡ true → MayBeFound line finding
        → meets_any line v (conditions_of line finding) ≡ true
        → IsFound (candidates line) finding
    is_candidate (OfPlan x) goes may met = elim (asked x goes met) [
      | inr behind ↦ one_right (candidates_of_parts line) behind_parts (OfPlan x) behind
      | inl is ↦ elim may [
        | inl absent ↦ absurd (true≢false (sym absent ∙ (of_parts x is).1))
        | inr there ↦ one_left (candidates_of_parts line) behind_parts (OfPlan x)
            (of_made OfPlan (filter (is_of_parts line) (found line.plan)) x (passed (is_of_parts line) (found line.plan) x is there))
      ]
    ]
    is_candidate (OfLoad (NoPeriod f)) goes may met = one_right (candidates_of_parts line) behind_parts (OfLoad (NoPeriod f)) (unpaced f met)
    is_candidate (OfLoad (Overload n)) goes may met = absurd (false≢true goes)
    is_candidate (OfLoad (LateFlow f)) goes may met = absurd (false≢true goes)
    is_candidate (OfLoad (NeedTooOld d)) goes may met = absurd (false≢true goes)
    is_candidate (OfLoad (AskedTooOften f)) goes may met = absurd (false≢true goes)

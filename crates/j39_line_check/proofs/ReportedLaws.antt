-- What is reported of a witness is a condition of each finding.
use Rattle.std.proofs.Common.{◌≡◌, ℕ, Bool, true, false, if◌then◌else◌, List, [], ◌∷◌, map, refl, sym, ◌∙◌, subst, inl, inr, arith}
use Rattle.std.proofs.lemmas.Bool.{cases_Bool, true≢false}
use Rattle.j39_load.specs.declared.findings.load_finding.LoadFinding.TheVariants.{NoPeriod, Overload, LateFlow, NeedTooOld, AskedTooOften}
use Rattle.j39_variants.specs.declared.line.ProductLine.{ProductLine}
use Rattle.j39_variants.specs.Variants.{IsEarlier}
use Rattle.j39_line_findings.specs.Conditions.{conditions_of, goes_by_conditions}
use Rattle.j39_line_findings.specs.PossibleVariants.{IsPossible}
use Rattle.j39_line_findings.specs.declared.line_finding.LineFinding.{LineFinding}
use Rattle.j39_line_findings.specs.declared.line_finding.LineFinding.TheVariants.{OfPlan, OfLoad}
use Rattle.j39_line_witnesses.specs.ReportedChoices.{choices_by, choices_counted, choices_met, reported_choices}
use Rattle.j39_line_laws.proofs.AllByConditions.{found_by_conditions}
use Rattle.j39_line_check.proofs.AskedKept.{asked_kept}
use Rattle.j39_line_check.proofs.Had.{had}
use Rattle.j39_line_check.proofs.KeptConditions.{Agree, AreTwo, kept_any}
use Rattle.j39_line_check.proofs.TakenReported.{agreed, all_agreed, own_taken}
use Rattle.j39_line_check.specs.LineChecks.{HasIt}
use Rattle.j39_line_check.specs.ReportedConditions.{is_of_requests, TakesWhatIsReported, ReportedIsCondition, ReportedIsHad, ReportedLeads}
use Rattle.j39_line_check.specs.ReportedConditions.{ReportedMayBeAll}

-- ---- by conditions

two_of : (line : ProductLine) (finding : LineFinding) (w v : List ℕ) → TakesWhatIsReported line finding w v → AreTwo line w v
two_of line finding w v takes = record { one = takes.is_witness; other = takes.is_variant }

taken : (line : ProductLine) (finding : LineFinding) (w v : List ℕ) → TakesWhatIsReported line finding w v → Agree (reported_choices line w finding) w v
taken line finding w v takes =
    agreed (reported_choices line w finding) w v (takes.is_variant.of_each ∙ sym takes.is_witness.of_each) takes.takes

-- the choices are those of the one way or the other
abbrev by_way : ProductLine → LineFinding → List ℕ → Bool → List Bool
by_way line finding w b = if b then choices_by (choices_met line w (conditions_of line finding)) else choices_counted line finding

pub reported_is_condition : ReportedIsCondition
reported_is_condition line finding goes w v takes = kept_any line w v (two_of line finding w v takes) (conditions_of line finding)
    (subst (λ b. Agree (by_way line finding w b) w v) goes (taken line finding w v takes))

-- ---- each other one

counted : (line : ProductLine) (finding : LineFinding) → goes_by_conditions line finding ≡ false → (w v : List ℕ) → TakesWhatIsReported line finding w v
    → Agree (choices_counted line finding) w v
counted line finding counts w v takes = subst (λ b. Agree (by_way line finding w b) w v) counts (taken line finding w v takes)

pub reported_may_be_all : ReportedMayBeAll
reported_may_be_all line finding counts whole w v takes =
    all_agreed line.choices.items w v takes.is_witness.of_each takes.is_variant.of_each (all finding whole (counted line finding counts w v takes))
  where
    all : (x : LineFinding) → is_of_requests x ≡ false → Agree (choices_counted line x) w v → Agree (map (λ choice. true) line.choices.items) w v
    all (OfPlan x) whole agree = agree
    all (OfLoad (NoPeriod f)) whole agree = agree
    all (OfLoad (Overload n)) whole agree = agree
    all (OfLoad (LateFlow f)) whole agree = agree
    all (OfLoad (NeedTooOld d)) whole agree = agree
    all (OfLoad (AskedTooOften f)) whole agree = absurd (true≢false whole)

-- ---- all of them

-- of one that counts what is there the witness alone takes what is reported, or the same requests ask for the flow
counted_had : (line : ProductLine) (finding : LineFinding) (w v : List ℕ) → TakesWhatIsReported line finding w v → IsPossible line v
    → HasIt line w finding → goes_by_conditions line finding ≡ false → HasIt line v finding
counted_had line (OfLoad (AskedTooOften f)) w v takes possible its counts =
    had line v (OfLoad (AskedTooOften f)) (record {
      possible = possible;
      one = asked_kept line w v (two_of line (OfLoad (AskedTooOften f)) w v takes) f
          (counted line (OfLoad (AskedTooOften f)) counts w v takes) its.findings its.are_findings its.one;
    })
counted_had line (OfPlan x) w v takes possible its counts =
    subst (λ y. HasIt line y (OfPlan x)) (sym (reported_may_be_all line (OfPlan x) counts refl w v takes)) its
counted_had line (OfLoad (NoPeriod f)) w v takes possible its counts = absurd (true≢false counts)
counted_had line (OfLoad (Overload n)) w v takes possible its counts =
    subst (λ y. HasIt line y (OfLoad (Overload n))) (sym (reported_may_be_all line (OfLoad (Overload n)) counts refl w v takes)) its
counted_had line (OfLoad (LateFlow f)) w v takes possible its counts =
    subst (λ y. HasIt line y (OfLoad (LateFlow f))) (sym (reported_may_be_all line (OfLoad (LateFlow f)) counts refl w v takes)) its
counted_had line (OfLoad (NeedTooOld d)) w v takes possible its counts =
    subst (λ y. HasIt line y (OfLoad (NeedTooOld d))) (sym (reported_may_be_all line (OfLoad (NeedTooOld d)) counts refl w v takes)) its

pub reported_is_had : ReportedIsHad
reported_is_had line finding w v takes possible its = elim (cases_Bool (goes_by_conditions line finding)) [
  | inr counts ↦ counted_had line finding w v takes possible its counts
  | inl goes ↦ had line v finding (record {
    possible = possible;
    one = λ others are_others.
        let (may, met) = (found_by_conditions line w its.findings its.are_findings finding goes).0 its.one in
        (found_by_conditions line v others are_others finding goes).1 (may, reported_is_condition line finding goes w v takes met);
  })
]

-- ---- the witness is the first that takes what is reported

not_earlier : (v : List ℕ) → ¬ IsEarlier v v
not_earlier [] earlier = earlier
not_earlier (p ∷ v) (inl less) = absurd (omega (arith, less))
not_earlier (p ∷ v) (inr (same, earlier)) = not_earlier v earlier

pub reported_leads : ReportedLeads
reported_leads line finding whole w possible first = record {
  is_taking = record { is_variant = possible.is_variant; possible = possible.possible; takes_these = own_taken (reported_choices line w finding) w };
  first = λ v taking earlier.
      let takes : TakesWhatIsReported line finding w v = record
      { is_witness = possible.is_variant; is_variant = taking.is_variant; takes = taking.takes_these } in
      elim (cases_Bool (goes_by_conditions line finding)) [
        | inl goes ↦
            let its = first goes in
            its.first v (record { is_variant = taking.is_variant; possible = taking.possible })
            (reported_is_condition line finding goes w v takes its.meets) earlier
        | inr counts ↦ not_earlier w (subst (λ x. IsEarlier x w) (reported_may_be_all line finding counts whole w v takes) earlier)
      ];
}

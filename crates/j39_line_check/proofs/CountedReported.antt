-- What is reported of full variants is reported of all possible ones.
use Rattle.std.proofs.Common.{◌≡◌, ℕ, zero, suc, ◌<◌, ◌≤◌, List, [], ◌∷◌, true, false, not, Option, Some, inl, inr, map, unwrap_or, refl, sym, ap, subst, ◌∙◌}
use Rattle.std.proofs.Common.{arith}
use Rattle.std.specs.List.{slice_get}
use Rattle.std.proofs.lemmas.Bool.{and_parts, false≢true, not-true, true≢false}
use Rattle.std.proofs.lemmas.Option.{same_Some}
use Rattle.j39_load.specs.declared.findings.load_finding.LoadFinding.TheVariants.{NoPeriod, Overload, LateFlow, NeedTooOld, AskedTooOften}
use Rattle.j39_variants.specs.Variants.{IsEarlier}
use Rattle.j39_variants.specs.declared.line.ProductLine.{ProductLine}
use Rattle.j39_line_findings.specs.AllVariants.{IsOneOf}
use Rattle.j39_line_findings.specs.Best.{IsWitnessAmong, amount_in, rank_in}
use Rattle.j39_line_findings.specs.Conditions.{goes_by_conditions}
use Rattle.j39_line_findings.specs.InFile.{amount_of, rank_of}
use Rattle.j39_line_findings.specs.PossibleVariants.{IsPossible}
use Rattle.j39_line_findings.specs.LineFound.{AreVariantFindings, IsFound}
use Rattle.j39_line_findings.specs.declared.full.LineNevers.TheVariants.{Kept}
use Rattle.j39_line_findings.specs.declared.line_finding.LineFinding.{LineFinding}
use Rattle.j39_line_findings.specs.declared.line_finding.LineFinding.TheVariants.{OfPlan, OfLoad}
use Rattle.j39_line_findings.specs.declared.witnessed.Witnessed.{Witnessed}
use Rattle.j39_line_laws.specs.FoundOfCovering.{AreFoundOfCovering, IsAbsentOrFound, is_by_absence}
use Rattle.j39_line_laws.specs.FoundOfFull.{FullVariantsHaveWhatIsFound}
use Rattle.j39_line_laws.specs.OldNeeds.{HasNoBadNumber, OldNeedsAreFoundOfFull}
use Rattle.j39_line_check.specs.CountedFindings.{IsReportedOfNoLater, is_looked_for, takes_full_for, takes_full_of_need}
use Rattle.j39_line_check.specs.LookedVariants.{AreFullVariants}
use Rattle.j39_line_check.specs.SetVariants.{takes_alone}
use Rattle.j39_line_check.specs.declared.looking.FullVariants.{FullVariants}
use Rattle.j39_line_check.proofs.Assembled.{only_one}
use Rattle.j39_line_check.proofs.CountingRanks.{same_way}
use Rattle.j39_line_laws.proofs.WithoutNevers.{plan_present}
use Rattle.j39_line_check.proofs.FindingKinds.{full_for}
use Rattle.j39_line_check.proofs.TakenFull.{full_taken, looked_at_full, looked_at_need, need_taken}
use Rattle.j39_line_check.proofs.Timed.{is_timed}
use Rattle.j39_line_check.specs.LineChecks.{AreNumbersGood, HasIt, IsSure, IsWitnessFor}

one_at : (vs : List (List ℕ)) (k : ℕ) (v : List ℕ) → slice_get vs k ≡ Some v → IsOneOf vs v
one_at [] k v at = absurd (cc at)
one_at (u ∷ vs) zero v at = inl (same_Some u v at)
one_at (u ∷ vs) (suc k) v at = inr (one_at vs k v at)

module _ (line : ProductLine) (covers : FullVariantsHaveWhatIsFound line) (ages : OldNeedsAreFoundOfFull line) (x : FullVariants)
    (are : AreFullVariants line Kept x) where
  abbrev vs : List (List ℕ)
  vs = map (λ v. v.items) x.variants.items

  looked_for : (v : List ℕ) (f : LineFinding) → goes_by_conditions line f ≡ false → takes_full_for line x.full v f ≡ true → is_looked_for line x.full v f ≡ true
  looked_for v f counts takes = rw (counts, takes) refl

  -- one that counts as the witness is looked at
  looked_at : (v : List ℕ) (f : LineFinding) → IsPossible line v → takes_full_for line x.full v f ≡ true → IsOneOf vs v
  looked_at v (OfPlan f) possible takes = are.are_looked_at.complete v (looked_at_full line x.full are.are_full v possible takes)
  looked_at v (OfLoad (NoPeriod f)) possible takes = are.are_looked_at.complete v (looked_at_full line x.full are.are_full v possible takes)
  looked_at v (OfLoad (Overload n)) possible takes = are.are_looked_at.complete v (looked_at_full line x.full are.are_full v possible takes)
  looked_at v (OfLoad (LateFlow f)) possible takes = are.are_looked_at.complete v (looked_at_full line x.full are.are_full v possible takes)
  looked_at v (OfLoad (NeedTooOld d)) possible takes = are.are_looked_at.complete v (looked_at_need line x.full are.are_full v possible d takes)
  looked_at v (OfLoad (AskedTooOften f)) possible takes = are.are_looked_at.complete v (looked_at_full line x.full are.are_full v possible takes)

  -- ---- what is reported for what a possible variant has

  -- of at least its number of addresses or bits
  abbrev IsReportedFor : LineFinding → Type 0
  IsReportedFor f = (w : Witnessed) × IsWitnessAmong x.reported.items w × (rank_in w ≡ rank_of f) × (amount_of f ≤ amount_in w)

  reported_of : (v : List ℕ) (f : LineFinding) → IsReportedOfNoLater vs x.reported.items v f → IsReportedFor f
  reported_of v f is = (
    is.witness,
    is.is_reported,
    is.has_rank,
    elim is.as_good [
      | inl less ↦ omega (arith, less)
      | inr (same, later) ↦ omega (arith, same)
    ],
  )

  -- what is found of a full variant that covers it
  found_of : (f : LineFinding) → goes_by_conditions line f ≡ false → is_by_absence f ≡ false → (w : List ℕ) → takes_alone x.full.all.items w ≡ true
      → (there : List LineFinding)
      → ((g : LineFinding) → IsFound there g → is_looked_for line x.full w g ≡ true → IsReportedOfNoLater vs x.reported.items w g)
      → IsAbsentOrFound there f → IsReportedFor f
  found_of f counts present w takes there report (inl absent) = absurd (false≢true (sym present ∙ absent))
  found_of f counts present w takes there report (inr found) =
      let g : LineFinding = found.0 in
      let same : rank_of g ≡ rank_of f = found.3 in
      let also : goes_by_conditions line g ≡ false = same_way line g f same ∙ counts in
      let full : takes_full_for line x.full w g ≡ true = full_for line x.full w g found.2 ∙ takes in
      let reported = reported_of w g (report g found.1 (looked_for w g also full)) in
      let most : amount_of f ≤ amount_of g = found.4 in
      let more : amount_of g ≤ amount_in reported.0 = reported.3 in
      (reported.0, reported.1, reported.2 ∙ same, omega (arith, most, more))

  by_cover : (v : List ℕ) (f : LineFinding) → goes_by_conditions line f ≡ false → is_by_absence f ≡ false → IsPossible line v
      → (here : List LineFinding) → AreVariantFindings line v here
      → ((w : List ℕ) → IsPossible line w → (there : List LineFinding) → AreVariantFindings line w there → AreFoundOfCovering here there
      → IsAbsentOrFound there f)
      → IsReportedFor f
  by_cover v f counts present possible here are_here found =
      let cover = covers v possible here are_here in
      let w : List ℕ = cover.0 in
      let takes : takes_alone x.full.all.items w ≡ true = full_taken line x.full are.are_full w cover.1.full in
      let there = are.are_found.complete w (are.are_looked_at.complete w (looked_at_full line x.full are.are_full w cover.1.possible takes)) in
      found_of f counts present w takes there.0 there.2 (found w cover.1.possible there.0 there.1 (cover.2 there.0 there.1))

  no_bad : AreNumbersGood line → (w : List ℕ) → IsPossible line w → (there : List LineFinding) → AreVariantFindings line w there → HasNoBadNumber there
  no_bad good w possible there are_there g found = good w g (record { possible = possible; findings = there; are_findings = are_there; one = found })

  pub counted_reported : (v : List ℕ) (f : LineFinding) → HasIt line v f → goes_by_conditions line f ≡ false → IsSure line f → IsReportedFor f
  counted_reported v (OfPlan f) has counts sure = by_cover v (OfPlan f) counts (plan_present line f counts) has.possible has.findings has.are_findings
      (λ w possible there are_there covering. covering.plans f has.one)
  counted_reported v (OfLoad (NoPeriod f)) has counts sure = absurd (false≢true (sym counts))
  counted_reported v (OfLoad (Overload n)) has counts sure = by_cover v (OfLoad (Overload n)) counts refl has.possible has.findings has.are_findings
      (λ w possible there are_there covering. covering.loads (no_bad sure w possible there are_there) (Overload n) has.one)
  counted_reported v (OfLoad (LateFlow f)) has counts sure = by_cover v (OfLoad (LateFlow f)) counts refl has.possible has.findings has.are_findings
      (λ w possible there are_there covering. covering.loads (no_bad sure w possible there are_there) (LateFlow f) has.one)
  counted_reported v (OfLoad (AskedTooOften f)) has counts sure = by_cover v (OfLoad (AskedTooOften f)) counts refl has.possible has.findings has.are_findings
      (λ w possible there are_there covering. covering.loads (no_bad sure w possible there are_there) (AskedTooOften f) has.one)
  counted_reported v (OfLoad (NeedTooOld d)) has counts sure =
      let old = ages v has.possible has.findings has.are_findings d has.one in
      let (w, full, found_there) = old.1 in
      let takes : takes_full_of_need line x.full w d ≡ true =
      need_taken line x.full are.are_full d old.0 (is_timed line v has.findings d has.are_findings has.one) w full.full in
      let there = are.are_found.complete w (are.are_looked_at.complete w (looked_at_need line x.full are.are_full w full.possible d takes)) in
      let found = found_there there.0 there.1 (no_bad sure w full.possible there.0 there.1) in
      reported_of w (OfLoad (NeedTooOld d)) (there.2 (OfLoad (NeedTooOld d)) found (looked_for w (OfLoad (NeedTooOld d)) counts takes))

  -- ---- the witnesses

  most_reported : (w : Witnessed) → IsWitnessAmong x.reported.items w → (v : List ℕ) (more : LineFinding) → HasIt line v more → IsSure line more
      → goes_by_conditions line more ≡ false → rank_of more ≡ rank_in w → amount_of more ≤ amount_in w
  most_reported w among v more has sure counts same =
      let reported = counted_reported v more has counts sure in
      let one : reported.0 ≡ w = only_one x.reported.items reported.0 w are.are_found.in_order reported.1 among (reported.2 ∙ same) in
      let most : amount_of more ≤ amount_in reported.0 = reported.3 in
      subst (λ (y : Witnessed). amount_of more ≤ amount_in y) one most

  pub counted_witness : (w : Witnessed) → IsWitnessAmong x.reported.items w → IsWitnessFor line x.full w.finding (unwrap_or (slice_get vs w.variant) [])
  counted_witness w among =
      let is = are.are_found.sound w among in
      let variant : unwrap_or (slice_get vs w.variant) [] ≡ is.variant = ap (λ (o : Option (List ℕ)). unwrap_or o []) is.at in
      let somehow = are.are_looked_at.sound is.variant (one_at vs w.variant is.variant is.at) in
      let parts = and_parts (not (goes_by_conditions line w.finding)) (takes_full_for line x.full is.variant w.finding) is.looked_for in
      let counts : goes_by_conditions line w.finding ≡ false = not-true (goes_by_conditions line w.finding) parts.0 in
      subst (λ v. IsWitnessFor line x.full w.finding v) (sym variant) (record {
        has = record {
          possible = record { is_variant = somehow.is_variant; possible = somehow.possible };
          findings = is.findings;
          are_findings = is.are_findings;
          one = is.one;
        };
        meets = λ goes. absurd (true≢false (sym goes ∙ counts));
        counts = rw (counts, parts.1) refl;
        first = λ other whatever counted.
            let takes : takes_full_for line x.full other w.finding ≡ true = rw counts at counted in
            let there = are.are_found.complete other (looked_at other w.finding whatever.possible takes) in
            let reported = there.2 w.finding (whatever.one there.0 there.1) (looked_for other w.finding counts takes) in
            let one : reported.witness ≡ w = only_one x.reported.items reported.witness w are.are_found.in_order reported.is_reported among reported.has_rank in
            let at : slice_get vs w.variant ≡ Some reported.variant = subst
            (λ (y : Witnessed). slice_get vs y.variant ≡ Some reported.variant) one reported.at in
            let same : reported.variant ≡ is.variant = same_Some reported.variant is.variant (sym at ∙ is.at) in
            elim reported.as_good [
              | inl less ↦
                  let own : amount_of w.finding < amount_in w = subst (λ (y : Witnessed). amount_of w.finding < amount_in y) one less in
                  absurd (omega (arith, own))
              | inr (amount, later) ↦ subst (λ v. ¬ IsEarlier other v) same later
            ];
        most = λ other more has sure same. most_reported w among other more has sure (same_way line more w.finding same ∙ counts) same;
      })

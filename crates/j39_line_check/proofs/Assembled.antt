-- What is reported of a line, from what is found by conditions and what is found of full variants.
use Rattle.std.proofs.Common.{◌≡◌, ◌⊎◌, ℕ, ◌<◌, ◌≤◌, List, [], ◌∷◌, ◌++◌, Bool, true, false, not, ◌&&◌, ◌||◌, Some, None, inl, inr, map, unwrap_or, refl, sym}
use Rattle.std.proofs.Common.{ap, subst, ◌∙◌, arith}
use Rattle.std.specs.List.{Contains, slice_get}
use Rattle.std.proofs.lemmas.Bool.{and_parts, cases_Bool, false≢true}
use Rattle.std.proofs.lemmas.List.Elements.{Contains-append_cases, Contains-append_left, Contains-append_right}
use Rattle.j39_variants.specs.Variants.{IsEarlier}
use Rattle.j39_variants.specs.declared.line.ProductLine.{ProductLine}
use Rattle.j39_line_findings.specs.Best.{AreInOrder, IsWitnessAmong, amount_in, rank_in}
use Rattle.j39_line_findings.specs.AllVariants.{IsOneOf}
use Rattle.j39_line_findings.specs.Conditions.{goes_by_conditions}
use Rattle.j39_line_findings.specs.FullVariants.{AreFullAlternatives}
use Rattle.j39_line_findings.specs.InFile.{amount_of, is_below, rank_of}
use Rattle.j39_line_findings.specs.declared.full.FullAlternatives.{FullAlternatives}
use Rattle.j39_line_findings.specs.declared.line_finding.LineFinding.{LineFinding}
use Rattle.j39_line_findings.specs.declared.witnessed.Witnessed.{Witnessed}
use Rattle.j39_line_findings.proofs.Ranking.{none_below_itself}
use Rattle.j39_line_witnesses.specs.declared.found.FoundByCondition.{FoundByCondition}
use Rattle.j39_line_laws.specs.ReportedByConditions.{ReportWhatVariantsHave}
use Rattle.j39_line_witnesses.specs.WitnessLaws.{IsReportedAmong}
use Rattle.j39_line_check.specs.CountedFindings.{takes_full_for}
use Rattle.j39_line_check.proofs.CountingRanks.{same_way}
use Rattle.j39_line_check.proofs.FindingKinds.{no_amount}
use Rattle.j39_line_check.proofs.Had.{had}
use Rattle.j39_line_check.proofs.Pairs.{condition_of_pair, pair_of_found}
use Rattle.j39_line_check.specs.LineChecks.{AreReported, HasIt, IsSure, IsReportable, IsWitnessFor, counts_for}
use Rattle.j39_line_check.specs.declared.answer.ReportedFinding.{ReportedFinding}
use Rattle.j39_line_check.specs.inside.AddedFindings.{AreAdded, Pair, pair_of_condition, pair_reported}

-- of one rank there is one
pub only_one : (reported : List Witnessed) (w x : Witnessed) → AreInOrder reported → IsWitnessAmong reported w → IsWitnessAmong reported x
    → rank_in w ≡ rank_in x → w ≡ x
only_one [] w x ordered one other same = absurd one
only_one (y ∷ reported) w x ordered (inl first) (inl also) same = sym first ∙ also
only_one (y ∷ reported) w x ordered (inl first) (inr later) same =
    absurd (none_below_itself (rank_in x) (subst (λ r. is_below r (rank_in x) ≡ true) (ap rank_in first ∙ same) (ordered.0 x later)))
only_one (y ∷ reported) w x ordered (inr later) (inl first) same =
    absurd (none_below_itself (rank_in w) (subst (λ r. is_below r (rank_in w) ≡ true) (ap rank_in first ∙ sym same) (ordered.0 w later)))
only_one (y ∷ reported) w x ordered (inr one) (inr other) same = only_one reported w x ordered.1 one other same

module _ (line : ProductLine) (conditioned : List FoundByCondition) (exact : ReportWhatVariantsHave line conditioned) where
  -- ---- by conditions

  pub by_condition : (full : FullAlternatives) (one : FoundByCondition) → IsReportedAmong conditioned one → IsWitnessFor line full one.finding one.witness.items
  by_condition full one among =
      let is = exact.sound one among in record {
        has = had line one.witness.items one.finding (record { possible = is.possible; one = is.has });
        meets = λ goes. is.meets;
        counts = rw is.goes refl;
        first = λ other at_any_rate counts.
            let has = had line other one.finding at_any_rate in
            is.first other has.findings (record { is_possible = has.possible; are_findings = has.are_findings }) has.one;
        most = λ other more has sure same.
            let goes : goes_by_conditions line more ≡ true = same_way line more one.finding same ∙ is.goes in
            let none : amount_of more ≡ 0 = no_amount line more goes in omega (arith, none);
      }

  pub condition_reported : (v : List ℕ) (f : LineFinding) → HasIt line v f → goes_by_conditions line f ≡ true
      → (one : FoundByCondition) × IsReportedAmong conditioned one × (one.finding ≡ f)
  condition_reported v f has goes = exact.complete v has.findings (record { is_possible = has.possible; are_findings = has.are_findings }) f goes has.one

  -- ---- where there are too many full variants

  pub reported_beside : (many : ℕ) (full : FullAlternatives) → AreFullAlternatives line full → (reported : List ReportedFinding)
      → AreAdded (map pair_of_condition conditioned) reported → AreReported line (Some many) reported
  reported_beside many full are_full reported are = record {
    full = full;
    are_full = are_full;
    sound = λ t at.
        let one = condition_of_pair conditioned (pair_reported t) (are.sound t at) in
        let finding : t.finding ≡ one.0.finding = ap (λ (p : Pair). p.0) one.2 in
        let variant : t.variant.items ≡ one.0.witness.items = ap (λ (p : Pair). p.1) one.2 in (
          ap (goes_by_conditions line) finding ∙ (exact.sound one.0 one.1).goes,
          subst (λ v. IsWitnessFor line full t.finding v) (sym variant)
              (subst (λ f. IsWitnessFor line full f one.0.witness.items) (sym finding) (by_condition full one.0 one.1)),
        );
    complete = λ v f has sure goes.
        let one = condition_reported v f has goes in
        let t = are.complete (pair_of_condition one.0) (pair_of_found conditioned one.0 one.1) in
        (t.0, t.1, t.2 ∙ ap rank_of one.2);
    in_order = are.in_order;
  }

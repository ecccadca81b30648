-- What is reported of a line of which full variants are looked at.
use Rattle.std.proofs.Common.{◌≡◌, ℕ, List, [], ◌++◌, true, false, Some, None, inl, inr, map, refl, sym, ap, subst, ◌∙◌}
use Rattle.std.specs.List.{Contains, slice_get}
use Rattle.std.proofs.lemmas.Bool.{cases_Bool}
use Rattle.std.proofs.lemmas.List.{append-nil}
use Rattle.std.proofs.lemmas.List.Elements.{Contains-append_cases, Contains-append_left, Contains-append_right}
use Rattle.j39_variants.specs.declared.line.ProductLine.{ProductLine}
use Rattle.j39_line_findings.specs.Conditions.{goes_by_conditions}
use Rattle.j39_line_findings.specs.FullVariants.{AreFullAlternatives, line_with}
use Rattle.j39_line_findings.specs.InFile.{rank_of}
use Rattle.j39_line_findings.specs.declared.full.FullAlternatives.{FullAlternatives}
use Rattle.j39_line_findings.specs.declared.full.LineNevers.TheVariants.{Kept, LeftOut}
use Rattle.j39_line_findings.specs.declared.line_finding.LineFinding.{LineFinding}
use Rattle.j39_line_witnesses.specs.declared.found.FoundByCondition.{FoundByCondition}
use Rattle.j39_line_laws.specs.ReportedByConditions.{ReportWhatVariantsHave}
use Rattle.j39_line_laws.specs.ByPresence.{FoundByPresence}
use Rattle.j39_line_laws.specs.FoundOfFull.{FullVariantsHaveWhatIsFound}
use Rattle.j39_line_laws.specs.OldNeeds.{OldNeedsAreFoundOfFull}
use Rattle.j39_line_laws.specs.WithoutNevers.{NeversChangeNothingBuilt}
use Rattle.j39_line_check.specs.LookedVariants.{AreFullVariants, IsLooking}
use Rattle.j39_line_check.specs.declared.looking.FullVariants.{FullVariants}
use Rattle.j39_line_check.specs.declared.looking.Looking.TheVariants.{Few, Many}
use Rattle.j39_line_check.proofs.Assembled.{by_condition, condition_reported, reported_beside}
use Rattle.j39_line_check.proofs.CountedReported.{counted_reported, counted_witness}
use Rattle.j39_line_check.proofs.Pairs.{condition_of_pair, pair_of_found, pair_of_witness, witness_of_pair}
use Rattle.j39_line_check.proofs.WithoutNevers.{nothing_counted}
use Rattle.j39_line_check.specs.LineChecks.{AreReported, HasIt, IsWitnessFor}
use Rattle.j39_line_check.specs.declared.answer.ReportedFinding.{ReportedFinding}
use Rattle.j39_line_check.specs.inside.AddedFindings.{AreAdded, Pair, pair_counted, pair_of_condition, pair_reported}

module _ (line : ProductLine) (conditioned : List FoundByCondition) (exact : ReportWhatVariantsHave line conditioned) (reported : List ReportedFinding) where
  -- by its finding and its variant
  witness_by : (full : FullAlternatives) (t : ReportedFinding) (p : Pair) → pair_reported t ≡ p → IsWitnessFor line full p.0 p.1
      → IsWitnessFor line full t.finding t.variant.items
  witness_by full t p is witness = subst (λ (q : Pair). IsWitnessFor line full q.0 q.1) (sym is) witness

  module _ (x : FullVariants) where
    abbrev vs : List (List ℕ)
    vs = map (λ v. v.items) x.variants.items

    abbrev all : List Pair
    all = map pair_of_condition conditioned ++ map (pair_counted vs) x.reported.items

    reported_kept : FullVariantsHaveWhatIsFound line → OldNeedsAreFoundOfFull line → AreFullVariants line Kept x → AreAdded all reported
        → AreReported line None reported
    reported_kept covers ages full are = record {
      full = x.full;
      are_full = full.are_full;
      sound = λ t at. (
        tt,
        elim (Contains-append_cases (map pair_of_condition conditioned) (map (pair_counted vs) x.reported.items) (pair_reported t) (are.sound t at)) [
          | inl of_condition ↦
              let one = condition_of_pair conditioned (pair_reported t) of_condition in
              witness_by x.full t (pair_of_condition one.0) one.2 (by_condition line conditioned exact x.full one.0 one.1)
          | inr of_full ↦
              let w = witness_of_pair vs x.reported.items (pair_reported t) of_full in
              witness_by x.full t (pair_counted vs w.0) w.2 (counted_witness line covers ages x full w.0 w.1)
        ],
      );
      complete = λ v f has sure is. elim (cases_Bool (goes_by_conditions line f)) [
        | inl goes ↦
            let one = condition_reported line conditioned exact v f has goes in
            let t = are.complete (pair_of_condition one.0)
            (Contains-append_left (map pair_of_condition conditioned) (map (pair_counted vs) x.reported.items) (pair_of_condition one.0)
            (pair_of_found conditioned one.0 one.1)) in
            (t.0, t.1, t.2 ∙ ap rank_of one.2)
        | inr counts ↦
            let w = counted_reported line covers ages x full v f has counts sure in
            let t = are.complete (pair_counted vs w.0)
            (Contains-append_right (map pair_of_condition conditioned) (map (pair_counted vs) x.reported.items) (pair_counted vs w.0)
            (pair_of_witness vs x.reported.items w.0 w.1)) in
            (t.0, t.1, t.2 ∙ w.2)
      ];
      in_order = are.in_order;
    }

    -- by conditions alone
    reported_left_out : (full : FullAlternatives) → AreFullAlternatives line full
        → ((v : List ℕ) (f : LineFinding) → HasIt line v f → goes_by_conditions line f ≡ false → ⊥)
        → AreAdded (map pair_of_condition conditioned) reported → AreReported line None reported
    reported_left_out full are_full nothing are = record {
      full = full;
      are_full = are_full;
      sound = λ t at.
          let one = condition_of_pair conditioned (pair_reported t) (are.sound t at) in
          (tt, witness_by full t (pair_of_condition one.0) one.2 (by_condition line conditioned exact full one.0 one.1));
      complete = λ v f has sure is. elim (cases_Bool (goes_by_conditions line f)) [
        | inl goes ↦
            let one = condition_reported line conditioned exact v f has goes in
            let t = are.complete (pair_of_condition one.0) (pair_of_found conditioned one.0 one.1) in
            (t.0, t.1, t.2 ∙ ap rank_of one.2)
        | inr counts ↦ absurd (nothing v f has counts)
      ];
      in_order = are.in_order;
    }

    pub reported_of_few : ((l : ProductLine) → FullVariantsHaveWhatIsFound l) → ((l : ProductLine) → OldNeedsAreFoundOfFull l) → FoundByPresence
        → NeversChangeNothingBuilt → IsLooking line (Few x) → AreAdded all reported → AreReported line None reported
    reported_of_few covers ages presence built (inl full) are = reported_kept (covers line) (ages line) full are
    reported_of_few covers ages presence built (inr (many, full, none, numbers)) are =
        let alone : all ≡ map pair_of_condition conditioned =
        ap (λ ws. map pair_of_condition conditioned ++ map (pair_counted vs) ws) none ∙ append-nil (map pair_of_condition conditioned) in
        reported_left_out many.1.0.full many.1.0.are_full
        (nothing_counted line presence built x full none numbers (covers (line_with LeftOut line)) (ages (line_with LeftOut line)))
        (subst (λ ps. AreAdded ps reported) alone are)

  pub reported_of_many : (many : ℕ) → IsLooking line (Many many) → AreAdded (map pair_of_condition conditioned) reported → AreReported line (Some many) reported
  reported_of_many many is are = reported_beside line conditioned exact many is.0.1.0.full is.0.1.0.are_full reported are

-- Where nothing is found of the full variants of a line without its nevers, nothing that counts what is there is found of any possible variant.
use Rattle.std.proofs.Common.{◌≡◌, ℕ, List, [], ◌∷◌, true, false, inl, inr, map, refl, sym, subst, ◌∙◌}
use Rattle.std.specs.List.{Contains, list_any}
use Rattle.std.proofs.lemmas.Bool.{cases_Bool, false≢true}
use Rattle.j39_findings.specs.Found.{found}
use Rattle.j39_findings.specs.declared.checking.finding.Finding.{Finding}
use Rattle.j39_findings.specs.declared.checking.finding.Finding.TheVariants.{BadPgn}
use Rattle.j39_load.specs.declared.findings.load_finding.LoadFinding.TheVariants.{NoPeriod, Overload, LateFlow, NeedTooOld, AskedTooOften}
use Rattle.j39_variants.specs.declared.line.ProductLine.{ProductLine}
use Rattle.j39_line_findings.specs.Best.{IsWitnessAmong}
use Rattle.j39_line_findings.specs.Conditions.{goes_by_conditions}
use Rattle.j39_line_findings.specs.FullVariants.{line_with}
use Rattle.j39_line_findings.specs.FlowEnds.{are_ends_in_pool, has_end_in_pool}
use Rattle.j39_line_findings.specs.declared.full.LineNevers.TheVariants.{Kept, LeftOut}
use Rattle.j39_line_findings.specs.declared.line_finding.LineFinding.{LineFinding}
use Rattle.j39_line_findings.specs.declared.line_finding.LineFinding.TheVariants.{OfPlan, OfLoad}
use Rattle.j39_line_findings.specs.declared.witnessed.Witnessed.{Witnessed}
use Rattle.j39_line_laws.specs.ByPresence.{FoundByPresence}
use Rattle.j39_line_laws.specs.FoundOfFull.{FullVariantsHaveWhatIsFound}
use Rattle.j39_line_laws.specs.OldNeeds.{OldNeedsAreFoundOfFull}
use Rattle.j39_line_laws.specs.WithoutNevers.{NeversChangeNothingBuilt}
use Rattle.j39_line_check.specs.CountedFindings.{AreCountedFindings}
use Rattle.j39_line_check.specs.LookedVariants.{AreFullVariants, has_bad_number, is_bad_number}
use Rattle.j39_line_check.specs.declared.looking.FullVariants.{FullVariants}
use Rattle.j39_line_check.proofs.CountedReported.{counted_reported}
use Rattle.j39_line_check.proofs.ReportedInOrder.{cases_in, none_in}
use Rattle.j39_line_check.specs.LineChecks.{AreNumbersGood, HasIt, IsSure}

bad_among : (findings : List Finding) (g : ℕ) → Contains findings (BadPgn g) → list_any is_bad_number findings ≡ true
bad_among [] g at = absurd (none_in (BadPgn g) at)
bad_among (f ∷ findings) g at = elim (cases_in f (BadPgn g) findings at) [
  | inl here ↦ rw (sym here) refl
  | inr later ↦ elim (cases_Bool (is_bad_number f)) [
    | inl bad ↦ rw bad refl
    | inr other ↦ rw other (bad_among findings g later)
  ]
]

module _ (line : ProductLine) (presence : FoundByPresence) (built : NeversChangeNothingBuilt) (x : FullVariants) (are : AreFullVariants line LeftOut x)
    (none : x.reported.items ≡ []) (numbers : has_bad_number line.plan ≡ false) where
  abbrev bare : ProductLine
  bare = line_with LeftOut line

  -- they are the full variants of the line in which all is built
  counted_bare : AreCountedFindings bare x.full (map (λ v. v.items) x.variants.items) x.reported.items
  unfolding has_end_in_pool are_ends_in_pool
  counted_bare = record {
    sound = λ w among.
        let is = are.are_found.sound w among in record {
          variant = is.variant;
          at = is.at;
          findings = is.findings;
          are_findings = (built line LeftOut is.variant).findings_too is.findings is.are_findings;
          one = is.one;
          looked_for = is.looked_for;
        };
    complete = λ v at. let here = are.are_found.complete v at in (here.0, (built line LeftOut v).findings_too here.0 here.1, here.2);
    in_order = are.are_found.in_order;
  }

  are_bare : AreFullVariants bare Kept x
  are_bare = record {
    are_full = are.are_full;
    are_looked_at = are.are_looked_at;
    are_found = counted_bare;
    few = (
      are.few.0,
      record { kept = are.few.1.kept; are_widest = are.few.1.are_widest; is_sum = are.few.1.is_sum },
      are.few.2,
    );
  }

  bare_good : AreNumbersGood bare
  bare_good v g has =
      let in_file = ((presence bare v has.findings has.are_findings (OfPlan (BadPgn g)) refl refl).0 has.one).0 in
      false≢true (sym numbers ∙ bad_among (found line.plan) g in_file)

  bare_sure : (f : LineFinding) → IsSure bare f
  bare_sure (OfPlan f) = tt
  bare_sure (OfLoad (NoPeriod f)) = tt
  bare_sure (OfLoad (Overload n)) = bare_good
  bare_sure (OfLoad (LateFlow f)) = bare_good
  bare_sure (OfLoad (NeedTooOld d)) = bare_good
  bare_sure (OfLoad (AskedTooOften f)) = bare_good

  -- so nothing that counts what is there is found of a possible variant
  pub nothing_counted : FullVariantsHaveWhatIsFound bare → OldNeedsAreFoundOfFull bare → (v : List ℕ) (f : LineFinding) → HasIt line v f
      → goes_by_conditions line f ≡ false → ⊥
  unfolding has_end_in_pool are_ends_in_pool
  nothing_counted covers ages v f has counts =
      let of_bare : HasIt bare v f = record {
        possible = (built line LeftOut v).possible has.possible;
        findings = has.findings;
        are_findings = (built line LeftOut v).findings_too has.findings has.are_findings;
        one = has.one;
      } in
      let reported = counted_reported bare covers ages x are_bare v f of_bare counts (bare_sure f) in
      let in_none : IsWitnessAmong [] reported.0 = subst (λ ws. IsWitnessAmong ws reported.0) none reported.1 in in_none

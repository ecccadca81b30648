-- Where nothing is reported of a line, no possible variant has a finding.
use Rattle.std.proofs.Common.{◌≡◌, ℕ, ◌<◌, List, [], ◌∷◌, inl, refl, subst, arith, None}
use Rattle.std.specs.List.{Contains}
use Rattle.j39_findings.specs.declared.checking.finding.Finding.{Finding}
use Rattle.j39_findings.specs.declared.checking.finding.Finding.TheVariants.{BadPgn}
use Rattle.j39_load.specs.declared.findings.load_finding.LoadFinding.{LoadFinding}
use Rattle.j39_load.specs.declared.findings.load_finding.LoadFinding.TheVariants.{NoPeriod, Overload, LateFlow, NeedTooOld, AskedTooOften}
use Rattle.j39_variants.specs.declared.line.ProductLine.{ProductLine}
use Rattle.j39_line_findings.specs.PossibleVariants.{IsPossible}
use Rattle.j39_line_findings.specs.LineFound.{AreVariantFindings, IsFound}
use Rattle.j39_line_findings.specs.declared.line_finding.LineFinding.{LineFinding}
use Rattle.j39_line_findings.specs.declared.line_finding.LineFinding.TheVariants.{OfPlan, OfLoad}
use Rattle.j39_line_laws.proofs.VariantsExist.{some_findings}
use Rattle.j39_line_check.specs.LineChecks.{AreNumbersGood, AreReported, HasIt, IsSure, NothingReportedIsNothingFound}
use Rattle.j39_line_check.specs.declared.answer.ReportedFinding.{ReportedFinding}

empty : {X : Type 0} (x : X) → ¬ Contains [] x
empty x at = let below : at.0 < 0 = at.1 in omega (arith, below)

module _ (line : ProductLine) (reported : AreReported line None []) where
  none : (v : List ℕ) (finding : LineFinding) → IsSure line finding → ¬ HasIt line v finding
  none v finding sure has = let t = reported.complete v finding has sure tt in empty t.0 t.1

  good : AreNumbersGood line
  good v g has = none v (OfPlan (BadPgn g)) tt has

  sure : (finding : LineFinding) → IsSure line finding
  sure (OfPlan finding) = tt
  sure (OfLoad (NoPeriod f)) = tt
  sure (OfLoad (Overload n)) = good
  sure (OfLoad (LateFlow f)) = good
  sure (OfLoad (NeedTooOld d)) = good
  sure (OfLoad (AskedTooOften f)) = good

  all_empty : (v : List ℕ) → IsPossible line v → (findings all : List LineFinding) → AreVariantFindings line v all
      → ((f : LineFinding) → IsFound findings f → IsFound all f) → findings ≡ []
  all_empty v possible [] all are some = refl
  all_empty v possible (f ∷ findings) all are some =
      absurd (none v f (sure f) (record { possible = possible; findings = all; are_findings = are; one = some f (inl refl) }))

  alone : (v : List ℕ) → IsPossible line v → (findings : List LineFinding) → AreVariantFindings line v findings → findings ≡ []
  alone v possible findings are = all_empty v possible findings findings are (λ f found. found)

pub nothing_found : NothingReportedIsNothingFound
nothing_found line reported v possible =
    let found = some_findings line v in
    record {
      none = subst (AreVariantFindings line v) (alone line reported v possible found.0 found.1) found.1;
      alone = alone line reported v possible;
    }

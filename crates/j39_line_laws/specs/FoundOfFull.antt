-- What is found of a possible variant, but for what comes by absence, is found of a full one.
use Rattle.std.specs.Prelude.{◌≡◌, ℕ, false, List, None}
use Rattle.j39_findings.specs.declared.checking.finding.Finding.TheVariants.{BadPgn}
use Rattle.j39_findings.specs.declared.checking.finding.Finding.{Finding}
use Rattle.j39_load.specs.declared.findings.load_finding.LoadFinding.{LoadFinding}
use Rattle.j39_variants.specs.declared.line.ProductLine.{ProductLine}
use Rattle.j39_line_findings.specs.PossibleVariants.{IsPossible}
use Rattle.j39_line_findings.specs.LineFound.{AreVariantFindings, IsFindingReported, IsFound}
use Rattle.j39_line_findings.specs.declared.line_finding.LineFinding.{LineFinding}
use Rattle.j39_line_findings.specs.declared.line_finding.LineFinding.TheVariants.{OfPlan, OfLoad}
use Rattle.j39_line_findings.specs.declared.witnessed.Witnessed.{Witnessed}
use Rattle.j39_line_laws.specs.Covering.{IsFullFor}
use Rattle.j39_line_laws.specs.FoundOfCovering.{AreFoundOfCovering, is_by_absence}

-- a possible variant that takes full alternatives alone
pub record IsPossibleFull (line : ProductLine) (variant : List ℕ) : Type 0 where
  pub possible : IsPossible line variant
  pub full : IsFullFor line None variant

-- all that is found of a possible variant is found of one full one, but for what comes by absence
abbrev pub FullVariantsHaveWhatIsFound : ProductLine → Type 0
FullVariantsHaveWhatIsFound line = (v : List ℕ) → IsPossible line v → (here : List LineFinding) → AreVariantFindings line v here
    → (w : List ℕ) × IsPossibleFull line w × ((there : List LineFinding) → AreVariantFindings line w there → AreFoundOfCovering here there)

-- ---- what is reported

-- each finding of each full variant that doesn't come by absence is reported, with at least its number of addresses or bits
abbrev pub IsReportedOfFull : ProductLine → List Witnessed → Type 0
IsReportedOfFull line reported = (w : List ℕ) → IsPossibleFull line w → (there : List LineFinding) × AreVariantFindings line w there
    × ((finding : LineFinding) → IsFound there finding → is_by_absence finding ≡ false → IsFindingReported reported finding)

-- no bad number of a group is found of a full variant
abbrev pub HaveGoodNumbers : ProductLine → Type 0
HaveGoodNumbers line = (w : List ℕ) → IsPossibleFull line w → (there : List LineFinding) → AreVariantFindings line w there
    → (g : ℕ) → ¬ IsFound there (OfPlan (BadPgn g))

-- then so is each finding of each possible variant that doesn't; of those on the load, where no bad number is found
pub record IsReportedOfAll (line : ProductLine) (reported : List Witnessed) : Type 0 where
  pub plans : (v : List ℕ) → IsPossible line v → (here : List LineFinding) → AreVariantFindings line v here → (finding : Finding)
      → IsFound here (OfPlan finding) → is_by_absence (OfPlan finding) ≡ false → IsFindingReported reported (OfPlan finding)
  pub loads : HaveGoodNumbers line → (v : List ℕ) → IsPossible line v → (here : List LineFinding) → AreVariantFindings line v here
      → (finding : LoadFinding) → IsFound here (OfLoad finding) → is_by_absence (OfLoad finding) ≡ false → IsFindingReported reported (OfLoad finding)

abbrev pub ReportedOfFullIsReportedOfAll : ProductLine → Type 0
ReportedOfFullIsReportedOfAll line = (reported : List Witnessed) → IsReportedOfFull line reported → IsReportedOfAll line reported

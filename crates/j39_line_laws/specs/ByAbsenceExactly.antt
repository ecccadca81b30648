-- A variant has a finding that comes by absence exactly where it meets one of the finding's conditions.
use Rattle.std.specs.Prelude.{◌≡◌, ℕ, List, true, ◌↔◌}
use Rattle.j39_findings.specs.declared.checking.finding.Finding.{Finding}
use Rattle.j39_part_laws.specs.ByAbsence.{comes_by_absence}
use Rattle.j39_variants.specs.declared.line.ProductLine.{ProductLine}
use Rattle.j39_line_findings.specs.Conditions.{conditions_of, meets_any}
use Rattle.j39_line_findings.specs.LineFound.{AreVariantFindings, IsFound}
use Rattle.j39_line_findings.specs.declared.line_finding.LineFinding.{LineFinding}
use Rattle.j39_line_findings.specs.declared.line_finding.LineFinding.TheVariants.{OfPlan}

-- the finding is one of these exactly where the variant meets one of its conditions
abbrev pub IsFoundWhereMet : ProductLine → List ℕ → List LineFinding → LineFinding → Type 0
IsFoundWhereMet line variant findings finding = IsFound findings finding ↔ (meets_any line variant (conditions_of line finding) ≡ true)

-- so it is with each finding that comes by what a variant lacks, of all that is found of it
abbrev pub AbsenceIsFoundWhereMet : Type 0
AbsenceIsFoundWhereMet = (line : ProductLine) (variant : List ℕ) (findings : List LineFinding) → AreVariantFindings line variant findings
    → (finding : Finding) → comes_by_absence finding ≡ true → IsFoundWhereMet line variant findings (OfPlan finding)

-- What comes by what is there: a variant has it exactly where the plan of the whole file has it, and its parts are there together.
use Rattle.std.specs.Prelude.{◌≡◌, ◌↔◌, ℕ, List, true, false, Contains}
use Rattle.j39_findings.specs.Found.{found}
use Rattle.j39_line_findings.specs.Conditions.{conditions_of, goes_by_conditions, meets_any}
use Rattle.j39_line_findings.specs.LineFound.{AreVariantFindings, IsFound}
use Rattle.j39_line_findings.specs.declared.line_finding.LineFinding.{LineFinding}
use Rattle.j39_line_findings.specs.declared.line_finding.LineFinding.TheVariants.{OfPlan, OfLoad}
use Rattle.j39_line_laws.specs.FoundOfCovering.{is_by_absence}
use Rattle.j39_variants.specs.declared.line.ProductLine.{ProductLine}

-- it is found of all that stands in the file, as if it were one plan; of a flow without a period its conditions say all
abbrev pub IsFoundInFile : ProductLine → LineFinding → Type 0
IsFoundInFile line (OfPlan finding) = Contains (found line.plan) finding
IsFoundInFile line (OfLoad finding) = Unit {0}

-- ---- the law

abbrev pub IsFoundOfParts : ProductLine → List ℕ → LineFinding → Type 0
IsFoundOfParts line variant finding = IsFoundInFile line finding × (meets_any line variant (conditions_of line finding) ≡ true)

-- of each finding that goes by conditions, and not by absence
abbrev pub FoundByPresence : Type 0
FoundByPresence = (line : ProductLine) (variant : List ℕ) (findings : List LineFinding) → AreVariantFindings line variant findings
    → (finding : LineFinding) → goes_by_conditions line finding ≡ true → is_by_absence finding ≡ false
    → IsFound findings finding ↔ IsFoundOfParts line variant finding

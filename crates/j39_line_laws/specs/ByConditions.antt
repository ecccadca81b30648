-- Each finding that goes by conditions: a variant has it exactly where it meets one of them, and, of what is there, the file has it.
use Rattle.std.specs.Prelude.{◌≡◌, ◌⊎◌, ◌↔◌, ℕ, List, true}
use Rattle.j39_line_findings.specs.Conditions.{conditions_of, goes_by_conditions, meets_any}
use Rattle.j39_line_findings.specs.LineFound.{AreVariantFindings, IsFound}
use Rattle.j39_line_findings.specs.declared.line_finding.LineFinding.{LineFinding}
use Rattle.j39_line_laws.specs.FoundOfCovering.{is_by_absence}
use Rattle.j39_variants.specs.declared.line.ProductLine.{ProductLine}
use Rattle.j39_line_laws.specs.ByPresence.{IsFoundInFile}

-- it comes by absence, or is found of the plan of the file
abbrev pub MayBeFound : ProductLine → LineFinding → Type 0
MayBeFound line finding = (is_by_absence finding ≡ true) ⊎ IsFoundInFile line finding

abbrev pub FindingsGoByConditions : Type 0
FindingsGoByConditions = (line : ProductLine) (variant : List ℕ) (findings : List LineFinding) → AreVariantFindings line variant findings
    → (finding : LineFinding) → goes_by_conditions line finding ≡ true
    → IsFound findings finding ↔ (MayBeFound line finding × (meets_any line variant (conditions_of line finding) ≡ true))

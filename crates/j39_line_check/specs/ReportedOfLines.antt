-- What stands behind ` in` on the line of a finding is a condition: each possible variant that takes it has the finding.
use Rattle.std.specs.Prelude.{ℕ, List, Contains, Option}
use Rattle.j39_variants.specs.Variants.{IsTaking}
use Rattle.j39_variants.specs.declared.line.ProductLine.{ProductLine}
use Rattle.j39_line_check.specs.LineChecks.{AreReported, HasIt}
use Rattle.j39_line_check.specs.declared.answer.ReportedFinding.{ReportedFinding}
use Rattle.j39_line_check.specs.ReportedConditions.{reported_with}

-- of all that is reported of a line
abbrev pub ReportedOfLineIsHad : Type 0
ReportedOfLineIsHad = (line : ProductLine) (many : Option ℕ) (reported : List ReportedFinding) → AreReported line many reported
    → (t : ReportedFinding) → Contains reported t → (variant : List ℕ) → IsTaking line (reported_with line t.finding t.variant.items) variant
    → HasIt line variant t.finding

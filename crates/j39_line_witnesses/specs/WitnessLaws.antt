-- What is reported of findings by their conditions is exactly what possible variants meet.
use Rattle.std.specs.Prelude.{◌≡◌, ℕ, List, true, ◌&&◌}
use Rattle.j39_variants.specs.declared.line.Alternative.{Alternative}
use Rattle.j39_variants.specs.declared.line.ProductLine.{ProductLine}
use Rattle.j39_variants.specs.Variants.{IsVariant, is_in}
use Rattle.j39_variant_search.specs.VariantSearch.{is_in_box}
use Rattle.j39_line_findings.specs.AllVariants.{IsOneOf}
use Rattle.j39_line_findings.specs.Conditions.{are_there, conditions_of, meets_any}
use Rattle.j39_line_findings.specs.PossibleVariants.{IsPossible}
use Rattle.j39_line_findings.specs.LineFound.{IsFound}
use Rattle.j39_line_findings.specs.declared.line_finding.LineFinding.{LineFinding}
use Rattle.j39_line_findings.specs.declared.part.LinePart.{LinePart}
use Rattle.j39_line_witnesses.specs.FirstMeeting.{IsFirstMeeting}
use Rattle.j39_line_findings.specs.KnownParts.{names_known_choices, is_list_known}
use Rattle.j39_line_witnesses.specs.PartBoxes.{list_box, parts_box}
use Rattle.j39_line_witnesses.specs.WitnessedFindings.{AreWitnessed}
use Rattle.j39_line_witnesses.specs.declared.found.FoundByCondition.{FoundByCondition}

-- a variant is in the box of parts where they are there, and in that of a list where it is in this one's
pub record AreBoxesExact (line : ProductLine) (variant : List ℕ) : Type 0 where
  pub parts_there : (parts : List LinePart) → (names_known_choices line parts && is_in_box (parts_box line parts) variant) ≡ are_there line variant parts
  pub list_has : (list : List Alternative) → (is_list_known line list && is_in_box (list_box line list) variant) ≡ is_in variant list

abbrev pub BoxesAreExact : Type 0
BoxesAreExact = (line : ProductLine) (variant : List ℕ) → IsVariant line.choices.items variant → AreBoxesExact line variant

-- it is one of these
abbrev pub IsReportedAmong : List FoundByCondition → FoundByCondition → Type 0
IsReportedAmong = IsOneOf

-- each that is reported is one of these findings, with the first possible variant that meets one of its conditions; and each of them whose
-- conditions some possible variant meets is reported
pub record AreReportedExactly (line : ProductLine) (findings : List LineFinding) (reported : List FoundByCondition) : Type 0 where
  pub sound : (one : FoundByCondition) → IsReportedAmong reported one
      → IsFound findings one.finding × IsFirstMeeting line (conditions_of line one.finding) one.witness.items
  pub complete : (finding : LineFinding) → IsFound findings finding → (variant : List ℕ) → IsPossible line variant
      → meets_any line variant (conditions_of line finding) ≡ true → (one : FoundByCondition) × IsReportedAmong reported one × (one.finding ≡ finding)

abbrev pub WitnessedAreExact : Type 0
WitnessedAreExact = (line : ProductLine) (findings : List LineFinding) (reported : List FoundByCondition) → AreWitnessed line findings reported
    → AreReportedExactly line findings reported

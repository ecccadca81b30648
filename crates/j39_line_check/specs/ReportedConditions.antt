-- What is reported of the witness of a finding is a condition: each variant that takes it has the finding.
use Rattle.std.specs.Prelude.{◌≡◌, ℕ, List, [], ◌∷◌, Bool, true, false, if◌then◌else◌}
use Rattle.j39_load.specs.LineLists.{lines_of_each}
use Rattle.j39_load.specs.declared.findings.load_finding.LoadFinding.TheVariants.{AskedTooOften}
use Rattle.j39_variants.specs.declared.line.Alternative.{Alternative}
use Rattle.j39_variants.specs.declared.line.ProductLine.{ProductLine}
use Rattle.j39_variants.specs.VariantPlans.{flag_at}
use Rattle.j39_variants.specs.Variants.{IsFirstTaking, IsVariant, takes_all}
use Rattle.j39_line_findings.specs.Conditions.{conditions_of, goes_by_conditions, meets_any}
use Rattle.j39_line_findings.specs.FullVariants.{alternative_at}
use Rattle.j39_line_findings.specs.PossibleVariants.{IsPossible}
use Rattle.j39_line_findings.specs.declared.line_finding.LineFinding.{LineFinding}
use Rattle.j39_line_findings.specs.declared.line_finding.LineFinding.TheVariants.{OfLoad}
use Rattle.j39_line_witnesses.specs.FirstMeeting.{IsFirstMeeting}
use Rattle.j39_line_witnesses.specs.ReportedChoices.{reported_choices}
use Rattle.j39_line_check.specs.LineChecks.{HasIt}

-- the alternatives of a witness that are reported with a finding
abbrev pub reported_of_choice : List Bool → ℕ → ℕ → List Alternative
reported_of_choice choices c place = if flag_at choices c then alternative_at c place ∷ [] else []

abbrev pub reported_by : List Bool → List ℕ → List Alternative
reported_by choices witness = lines_of_each (reported_of_choice choices) 0 witness

abbrev pub reported_with : ProductLine → LineFinding → List ℕ → List Alternative
reported_with line finding witness = reported_by (reported_choices line witness finding) witness

-- another variant takes them too
pub record TakesWhatIsReported (line : ProductLine) (finding : LineFinding) (witness variant : List ℕ) : Type 0 where
  pub is_witness : IsVariant line.choices.items witness
  pub is_variant : IsVariant line.choices.items variant
  pub takes : takes_all variant (reported_with line finding witness) ≡ true

-- of a flow that is asked for too often not all alternatives of a witness are reported, though it counts what is there: those alone by which the
-- flow and the requests for it are there
abbrev pub is_of_requests : LineFinding → Bool
is_of_requests (OfLoad (AskedTooOften f)) = true
is_of_requests finding = false

-- ---- the laws

abbrev pub ReportedIsCondition : Type 0
ReportedIsCondition = (line : ProductLine) (finding : LineFinding) → goes_by_conditions line finding ≡ true
    → (witness variant : List ℕ) → TakesWhatIsReported line finding witness variant
    → meets_any line witness (conditions_of line finding) ≡ true → meets_any line variant (conditions_of line finding) ≡ true

abbrev pub ReportedMayBeAll : Type 0
ReportedMayBeAll = (line : ProductLine) (finding : LineFinding) → goes_by_conditions line finding ≡ false → is_of_requests finding ≡ false
    → (witness variant : List ℕ) → TakesWhatIsReported line finding witness variant → variant ≡ witness

abbrev pub ReportedIsHad : Type 0
ReportedIsHad = (line : ProductLine) (finding : LineFinding) (witness variant : List ℕ) → TakesWhatIsReported line finding witness variant
    → IsPossible line variant → HasIt line witness finding → HasIt line variant finding

-- a witness is possible, and the first that meets a condition of the finding, where this goes by conditions; but for flows that are asked for too often
abbrev pub ReportedLeads : Type 0
ReportedLeads = (line : ProductLine) (finding : LineFinding) → is_of_requests finding ≡ false → (witness : List ℕ) → IsPossible line witness
    → (goes_by_conditions line finding ≡ true → IsFirstMeeting line (conditions_of line finding) witness)
    → IsFirstTaking line (reported_with line finding witness) witness

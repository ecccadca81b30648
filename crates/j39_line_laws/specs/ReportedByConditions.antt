-- What is reported by conditions is what possible variants have, of the findings that go by conditions.
use Rattle.std.specs.Prelude.{◌≡◌, ℕ, List, true}
use Rattle.j39_line_findings.specs.Conditions.{conditions_of, goes_by_conditions, meets_any}
use Rattle.j39_line_findings.specs.PossibleVariants.{IsPossible}
use Rattle.j39_line_findings.specs.LineFound.{AreVariantFindings, HasThese, IsFound}
use Rattle.j39_line_findings.specs.declared.line_finding.LineFinding.{LineFinding}
use Rattle.j39_line_laws.specs.ByConditions.{MayBeFound}
use Rattle.j39_line_witnesses.specs.Candidates.{candidates}
use Rattle.j39_line_witnesses.specs.WitnessedFindings.{AreWitnessed}
use Rattle.j39_line_witnesses.specs.WitnessLaws.{IsReportedAmong}
use Rattle.j39_line_witnesses.specs.declared.found.FoundByCondition.{FoundByCondition}
use Rattle.j39_variants.specs.Variants.{IsEarlier}
use Rattle.j39_variants.specs.declared.line.ProductLine.{ProductLine}

-- the variant that is reported with a finding is possible, meets one of its conditions and has it, and no earlier possible one has
pub record IsFirstWithIt (line : ProductLine) (one : FoundByCondition) : Type 0 where
  pub goes : goes_by_conditions line one.finding ≡ true
  pub possible : IsPossible line one.witness.items
  pub meets : MayBeFound line one.finding × (meets_any line one.witness.items (conditions_of line one.finding) ≡ true)
  pub has : (findings : List LineFinding) → AreVariantFindings line one.witness.items findings → IsFound findings one.finding
  pub first : (other : List ℕ) (findings : List LineFinding) → HasThese line other findings → IsFound findings one.finding → ¬ IsEarlier other one.witness.items

pub record ReportWhatVariantsHave (line : ProductLine) (reported : List FoundByCondition) : Type 0 where
  pub sound : (one : FoundByCondition) → IsReportedAmong reported one → IsFirstWithIt line one
  pub complete : (variant : List ℕ) (findings : List LineFinding) → HasThese line variant findings → (finding : LineFinding) → goes_by_conditions line finding ≡ true
      → IsFound findings finding → (one : FoundByCondition) × IsReportedAmong reported one × (one.finding ≡ finding)

abbrev pub ReportExactly : Type 0
ReportExactly = (line : ProductLine) (reported : List FoundByCondition) → AreWitnessed line (candidates line) reported → ReportWhatVariantsHave line reported

-- What is found of a variant is found of each one that covers it, at the same places in the file, but for what comes by absence.
use Rattle.std.specs.Prelude.{◌≡◌, ◌⊎◌, ℕ, ◌≤◌, Bool, true, false, List}
use Rattle.j39_findings.specs.declared.checking.finding.Finding.{Finding}
use Rattle.j39_findings.specs.declared.checking.finding.Finding.TheVariants.{BadPgn}
use Rattle.j39_load.specs.declared.findings.load_finding.LoadFinding.{LoadFinding}
use Rattle.j39_part_laws.specs.ByAbsence.{comes_by_absence, load_comes_by_absence}
use Rattle.j39_line_findings.specs.InFile.{amount_of, rank_of}
use Rattle.j39_variants.specs.declared.line.ProductLine.{ProductLine}
use Rattle.j39_line_findings.specs.PossibleVariants.{IsPossible}
use Rattle.j39_line_findings.specs.LineFound.{AreVariantFindings, IsFound}
use Rattle.j39_line_laws.specs.Covering.{IsFullVariant}
use Rattle.j39_line_findings.specs.declared.line_finding.LineFinding.{LineFinding}
use Rattle.j39_line_findings.specs.declared.line_finding.LineFinding.TheVariants.{OfPlan, OfLoad}

-- it comes by what a variant lacks
abbrev pub is_by_absence : LineFinding → Bool
is_by_absence (OfPlan finding) = comes_by_absence finding
is_by_absence (OfLoad finding) = load_comes_by_absence finding

-- one of these that doesn't has the finding's number and places, and at least its number of addresses or bits
abbrev pub IsFoundAlso : List LineFinding → LineFinding → Type 0
IsFoundAlso there finding = (other : LineFinding) × IsFound there other × (is_by_absence other ≡ false) × (rank_of other ≡ rank_of finding)
    × (amount_of finding ≤ amount_of other)

abbrev pub IsAbsentOrFound : List LineFinding → LineFinding → Type 0
IsAbsentOrFound there finding = (is_by_absence finding ≡ true) ⊎ IsFoundAlso there finding

-- so it is with all that is found of a variant, where those are found of one that covers it; with times, where no bad number of a group is
pub record AreFoundOfCovering (here there : List LineFinding) : Type 0 where
  pub plans : (finding : Finding) → IsFound here (OfPlan finding) → IsAbsentOrFound there (OfPlan finding)
  pub loads : ((g : ℕ) → ¬ IsFound there (OfPlan (BadPgn g))) → (finding : LoadFinding) → IsFound here (OfLoad finding) → IsAbsentOrFound there (OfLoad finding)

-- all that is found comes by absence
abbrev pub OnlyAbsenceIsReported : List LineFinding → Type 0
OnlyAbsenceIsReported findings = (finding : LineFinding) → IsFound findings finding → is_by_absence finding ≡ true

-- so it is with the plan of this variant
abbrev pub IsAbsenceAlone : ProductLine → List ℕ → Type 0
IsAbsenceAlone line variant = (findings : List LineFinding) × AreVariantFindings line variant findings × OnlyAbsenceIsReported findings

-- where it is so with each possible variant that is full, it is with all that is found of any possible one
abbrev pub FullVariantsSuffice : ProductLine → Type 0
FullVariantsSuffice line = ((w : List ℕ) → IsPossible line w → IsFullVariant line w → IsAbsenceAlone line w) → (v : List ℕ) → IsPossible line v
    → (findings : List LineFinding) → AreVariantFindings line v findings → OnlyAbsenceIsReported findings

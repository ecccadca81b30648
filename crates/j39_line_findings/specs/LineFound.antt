-- What is found of a variant of a line of vehicles.
use Rattle.std.specs.Prelude.{◌≡◌, ◌≤◌, ℕ, List}
use Rattle.j39_findings.specs.Found.{found}
use Rattle.j39_load.specs.BusTimes.{timing_of}
use Rattle.j39_load.specs.LoadFindings.{AreLoadFindings}
use Rattle.j39_load.specs.declared.findings.load_finding.LoadFinding.{LoadFinding}
use Rattle.j39_network.specs.declared.plan.Plan.{Plan}
use Rattle.j39_variants.specs.declared.line.ProductLine.{ProductLine}
use Rattle.j39_variants.specs.VariantPlans.{IsVariantPlan}
use Rattle.j39_line_findings.specs.AllVariants.{IsOneOf}
use Rattle.j39_line_findings.specs.Best.{IsWitnessAmong, amount_in, rank_in}
use Rattle.j39_line_findings.specs.InFile.{amount_of, findings_in_file, rank_of}
use Rattle.j39_line_findings.specs.PossibleVariants.{IsPossible}
use Rattle.j39_line_findings.specs.There.{IsPresent, missed_needs}
use Rattle.j39_line_findings.specs.declared.line_finding.LineFinding.{LineFinding}
use Rattle.j39_line_findings.specs.declared.there.Present.{Present}
use Rattle.j39_line_findings.specs.declared.witnessed.Witnessed.{Witnessed}

-- a variant has the findings of its plan, at their places in the file, and the need that is asked for and isn't in its plan is unmet
pub record AreVariantFindings (line : ProductLine) (variant : List ℕ) (findings : List LineFinding) : Type 0 where
  pub there : Present
  pub is_there : IsPresent line variant there
  pub plan : Plan
  pub is_plan : IsVariantPlan line variant plan
  pub others : List LoadFinding
  pub are_others : AreLoadFindings plan (timing_of plan) others
  pub are_all : findings ≡ findings_in_file there (found plan) others (missed_needs line variant)

-- it is one of these
abbrev pub IsFound : List LineFinding → LineFinding → Type 0
IsFound = IsOneOf

-- these are what a possible variant has
pub record HasThese (line : ProductLine) (variant : List ℕ) (findings : List LineFinding) : Type 0 where
  pub is_possible : IsPossible line variant
  pub are_findings : AreVariantFindings line variant findings

-- a finding is reported: one of its number and places, which has at least its number of addresses or bits
abbrev pub IsFindingReported : List Witnessed → LineFinding → Type 0
IsFindingReported reported finding = (w : Witnessed) × IsWitnessAmong reported w × (rank_in w ≡ rank_of finding) × (amount_of finding ≤ amount_in w)

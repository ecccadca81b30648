-- The full variants of a line without its nevers: each possible variant of the line is a part of one of these too.
use Rattle.std.specs.Prelude.{◌≡◌, ℕ, List, true, false}
use Rattle.j39_load.specs.declared.findings.load_finding.LoadFinding.TheVariants.{NeedTooOld}
use Rattle.j39_network.specs.declared.plan.Plan.{Plan}
use Rattle.j39_variants.specs.VariantPlans.{IsVariantPlan}
use Rattle.j39_variants.specs.declared.line.ProductLine.{ProductLine}
use Rattle.j39_line_findings.specs.Conditions.{goes_by_conditions}
use Rattle.j39_line_findings.specs.FullVariants.{line_with}
use Rattle.j39_line_findings.specs.PossibleVariants.{IsPossible}
use Rattle.j39_line_findings.specs.LineFound.{AreVariantFindings, IsFound}
use Rattle.j39_line_findings.specs.declared.full.LineNevers.{LineNevers}
use Rattle.j39_line_findings.specs.declared.line_finding.LineFinding.{LineFinding}
use Rattle.j39_line_findings.specs.declared.line_finding.LineFinding.TheVariants.{OfLoad}
use Rattle.j39_line_laws.specs.FoundOfCovering.{is_by_absence}
use Rattle.j39_line_laws.specs.FoundOfFull.{IsPossibleFull}
use Rattle.j39_line_laws.specs.OldNeeds.{AsksForAge, HasNoBadNumber, IsPossibleFullFor}

-- each variant has the plan and the findings that it has, whatever isn't built; and where all is built, each is possible
pub record ChangesNothingBuilt (line : ProductLine) (nevers : LineNevers) (v : List ℕ) : Type 0 where
  pub plans : (plan : Plan) → IsVariantPlan (line_with nevers line) v plan → IsVariantPlan line v plan
  pub plans_too : (plan : Plan) → IsVariantPlan line v plan → IsVariantPlan (line_with nevers line) v plan
  pub findings : (findings : List LineFinding) → AreVariantFindings (line_with nevers line) v findings → AreVariantFindings line v findings
  pub findings_too : (findings : List LineFinding) → AreVariantFindings line v findings → AreVariantFindings (line_with nevers line) v findings
  pub possible : IsPossible line v → IsPossible (line_with nevers line) v

abbrev pub NeversChangeNothingBuilt : Type 0
NeversChangeNothingBuilt = (line : ProductLine) (nevers : LineNevers) (v : List ℕ) → ChangesNothingBuilt line nevers v

-- ---- what isn't found of them

-- no bad number of a group is found of the variant, nor anything that counts what is there, but for ages
pub record CountsNothing (line : ProductLine) (variant : List ℕ) : Type 0 where
  pub findings : List LineFinding
  pub are_findings : AreVariantFindings line variant findings
  pub good : HasNoBadNumber findings
  pub none : (finding : LineFinding) → IsFound findings finding → is_by_absence finding ≡ false → goes_by_conditions line finding ≡ true

-- nor that the need is too old
pub record IsYoungHere (line : ProductLine) (variant : List ℕ) (d : ℕ) : Type 0 where
  pub findings : List LineFinding
  pub are_findings : AreVariantFindings line variant findings
  pub good : HasNoBadNumber findings
  pub none : ¬ IsFound findings (OfLoad (NeedTooOld d))

-- where that is so of the full variants of a line, with or without its nevers, and of those that are full for each need that asks for an age,
-- nothing is found of any possible variant that counts what is there
pub record CountNothingWith (line : ProductLine) (nevers : LineNevers) : Type 0 where
  pub full : (w : List ℕ) → IsPossibleFull (line_with nevers line) w → CountsNothing line w
  pub of_needs : (d : ℕ) → AsksForAge line d → (w : List ℕ) → IsPossibleFullFor (line_with nevers line) d w → IsYoungHere line w d

abbrev pub FullVariantsCountAll : ProductLine → LineNevers → Type 0
FullVariantsCountAll line nevers = CountNothingWith line nevers → (v : List ℕ) → IsPossible line v → (here : List LineFinding)
    → AreVariantFindings line v here → (finding : LineFinding) → IsFound here finding → goes_by_conditions line finding ≡ true

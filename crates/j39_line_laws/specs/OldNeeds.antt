-- What is too old in a possible variant is too old in a possible one that is full for the need.
use Rattle.std.specs.Prelude.{◌≡◌, ℕ, List, true, Some, is_some}
use Rattle.std.specs.List.{slice_get}
use Rattle.j39_findings.specs.declared.checking.finding.Finding.TheVariants.{BadPgn}
use Rattle.j39_load.specs.declared.findings.load_finding.LoadFinding.TheVariants.{NeedTooOld}
use Rattle.j39_network.specs.declared.plan.need_plan.NeedPlan.{NeedPlan}
use Rattle.j39_variants.specs.declared.line.ProductLine.{ProductLine}
use Rattle.j39_line_findings.specs.PossibleVariants.{IsPossible}
use Rattle.j39_line_findings.specs.LineFound.{AreVariantFindings, IsFindingReported, IsFound}
use Rattle.j39_line_findings.specs.MissedNeeds.{is_need_asked_for}
use Rattle.j39_line_findings.specs.declared.line_finding.LineFinding.{LineFinding}
use Rattle.j39_line_findings.specs.declared.line_finding.LineFinding.TheVariants.{OfPlan, OfLoad}
use Rattle.j39_line_findings.specs.declared.witnessed.Witnessed.{Witnessed}
use Rattle.j39_line_laws.specs.Covering.{IsCoveredFor, IsFullFor}
use Rattle.j39_line_laws.specs.FullForNeeds.{MeetsIn}

-- a possible variant that takes alternatives alone that are full for the need, and in which it is asked for
pub record IsPossibleFullFor (line : ProductLine) (d : ℕ) (variant : List ℕ) : Type 0 where
  pub possible : IsPossible line variant
  pub full : IsFullFor line (Some d) variant
  pub asked : is_need_asked_for line variant d ≡ true

-- the same flows of the file meet it in both
pub record AreSourcesAlike (line : ProductLine) (d : ℕ) (v w : List ℕ) : Type 0 where
  pub to : (need : NeedPlan) → slice_get line.plan.needs.items d ≡ Some need → (f : ℕ) → MeetsIn line v need f → MeetsIn line w need f
  pub back : (need : NeedPlan) → slice_get line.plan.needs.items d ≡ Some need → (f : ℕ) → MeetsIn line w need f → MeetsIn line v need f

-- the variant is covered for the need by such a one, in which the same flows meet it
pub record HasFullForNeed (line : ProductLine) (d : ℕ) (v : List ℕ) : Type 0 where
  pub variant : List ℕ
  pub full : IsPossibleFullFor line d variant
  pub covered : IsCoveredFor line (Some d) v variant
  pub sources : AreSourcesAlike line d v variant

-- so it is with each possible variant in which it is asked for
abbrev pub EachHasFullForNeed : ProductLine → Type 0
EachHasFullForNeed line = (v : List ℕ) → IsPossible line v → (d : ℕ) → is_need_asked_for line v d ≡ true → HasFullForNeed line d v

-- ---- what is found

-- the need asks for an age
abbrev pub AsksForAge : ProductLine → ℕ → Type 0
AsksForAge line d = (need : NeedPlan) × (slice_get line.plan.needs.items d ≡ Some need) × (is_some need.within ≡ true)

abbrev pub HasNoBadNumber : List LineFinding → Type 0
HasNoBadNumber findings = (g : ℕ) → ¬ IsFound findings (OfPlan (BadPgn g))

-- what is too old in a possible variant is in one that is full for the need, where no bad number of a group is found of this one
abbrev pub OldNeedsAreFoundOfFull : ProductLine → Type 0
OldNeedsAreFoundOfFull line = (v : List ℕ) → IsPossible line v → (here : List LineFinding) → AreVariantFindings line v here → (d : ℕ)
    → IsFound here (OfLoad (NeedTooOld d)) → AsksForAge line d × ((w : List ℕ) × IsPossibleFullFor line d w
    × ((there : List LineFinding) → AreVariantFindings line w there → HasNoBadNumber there → IsFound there (OfLoad (NeedTooOld d))))

-- ---- what is reported

-- of each need that asks for an age it is reported of each variant that is full for it
abbrev pub IsReportedOfFullForNeeds : ProductLine → List Witnessed → Type 0
IsReportedOfFullForNeeds line reported = (d : ℕ) → AsksForAge line d → (w : List ℕ) → IsPossibleFullFor line d w → (there : List LineFinding)
    × AreVariantFindings line w there × HasNoBadNumber there × (IsFound there (OfLoad (NeedTooOld d)) → IsFindingReported reported (OfLoad (NeedTooOld d)))

-- then it is of each possible variant
abbrev pub OldNeedsReportedOfFullAreReportedOfAll : ProductLine → Type 0
OldNeedsReportedOfFullAreReportedOfAll line = (reported : List Witnessed) → IsReportedOfFullForNeeds line reported → (v : List ℕ) → IsPossible line v → (here : List LineFinding)
    → AreVariantFindings line v here → (d : ℕ) → IsFound here (OfLoad (NeedTooOld d)) → IsFindingReported reported (OfLoad (NeedTooOld d))

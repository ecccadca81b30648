-- What is reported of a line of vehicles: what some possible variant has, each once, with the variant that is its witness.
use Rattle.std.specs.Prelude.{◌≡◌, ℕ, ◌≤◌, ◌||◌, Bool, List, [], ◌∷◌, true, Contains, Option, Some, None}
use Rattle.j39_findings.specs.declared.checking.finding.Finding.TheVariants.{BadPgn}
use Rattle.j39_load.specs.declared.findings.load_finding.LoadFinding.TheVariants.{NoPeriod}
use Rattle.j39_variants.specs.Variants.{IsEarlier}
use Rattle.j39_variants.specs.declared.line.ProductLine.{ProductLine}
use Rattle.j39_line_findings.specs.Conditions.{conditions_of, goes_by_conditions, meets_any}
use Rattle.j39_line_findings.specs.FullVariants.{AreFullAlternatives}
use Rattle.j39_line_findings.specs.InFile.{amount_of, is_below, rank_of}
use Rattle.j39_line_findings.specs.PossibleVariants.{IsPossible}
use Rattle.j39_line_findings.specs.LineFound.{AreVariantFindings, IsFound}
use Rattle.j39_line_findings.specs.declared.full.FullAlternatives.{FullAlternatives}
use Rattle.j39_line_findings.specs.declared.line_finding.LineFinding.{LineFinding}
use Rattle.j39_line_findings.specs.declared.line_finding.LineFinding.TheVariants.{OfPlan, OfLoad}
use Rattle.j39_line_laws.specs.ByConditions.{MayBeFound}
use Rattle.j39_line_check.specs.CountedFindings.{takes_full_for}
use Rattle.j39_line_check.specs.LookedVariants.{IsLooking}
use Rattle.j39_line_check.specs.declared.looking.FullVariants.{FullVariants}
use Rattle.j39_line_check.specs.declared.looking.Looking.TheVariants.{Few, Many}
use Rattle.j39_line_check.specs.declared.answer.LineAnswer.{LineAnswer}
use Rattle.j39_line_check.specs.declared.answer.LineAnswer.TheVariants.{NoVariant, Found}
use Rattle.j39_line_check.specs.declared.answer.LookedAt.{LookedAt}
use Rattle.j39_line_check.specs.declared.answer.LookedAt.TheVariants.{Full, TooMany}
use Rattle.j39_line_check.specs.declared.answer.ReportedFinding.{ReportedFinding}

-- ---- what one variant has

-- a possible variant has the finding: it is one of all its findings, which are these
pub record HasIt (line : ProductLine) (variant : List ℕ) (finding : LineFinding) : Type 0 where
  pub possible : IsPossible line variant
  pub findings : List LineFinding
  pub are_findings : AreVariantFindings line variant findings
  pub one : IsFound findings finding

-- it is one of them, whatever these are; so the variant has it, since it has findings
pub record HasAtAnyRate (line : ProductLine) (variant : List ℕ) (finding : LineFinding) : Type 0 where
  pub possible : IsPossible line variant
  pub one : (findings : List LineFinding) → AreVariantFindings line variant findings → IsFound findings finding

-- no possible variant has a bad number of a group
abbrev pub AreNumbersGood : ProductLine → Type 0
AreNumbersGood line = (variant : List ℕ) (g : ℕ) → ¬ HasIt line variant (OfPlan (BadPgn g))

-- what is found of times is reported where the numbers of groups are good
abbrev pub IsSure : ProductLine → LineFinding → Type 0
IsSure line (OfPlan finding) = Unit {0}
IsSure line (OfLoad (NoPeriod f)) = Unit {0}
IsSure line (OfLoad finding) = AreNumbersGood line

-- ---- witnesses

-- a variant counts as the witness of a finding that goes by conditions; of another one, where it takes full alternatives alone
abbrev pub counts_for : ProductLine → FullAlternatives → List ℕ → LineFinding → Bool
counts_for line full variant finding = goes_by_conditions line finding || takes_full_for line full variant finding

-- the variant has the finding, by one of its conditions where it goes by these, and counts as its witness, and no earlier one does; of those that are reported alike none has a greater number of
-- addresses or bits
pub record IsWitnessFor (line : ProductLine) (full : FullAlternatives) (finding : LineFinding) (variant : List ℕ) : Type 0 where
  pub has : HasIt line variant finding
  pub meets : goes_by_conditions line finding ≡ true → MayBeFound line finding × (meets_any line variant (conditions_of line finding) ≡ true)
  pub counts : counts_for line full variant finding ≡ true
  pub first : (other : List ℕ) → HasAtAnyRate line other finding → counts_for line full other finding ≡ true → ¬ IsEarlier other variant
  pub most : (other : List ℕ) (more : LineFinding) → HasIt line other more → IsSure line more → rank_of more ≡ rank_of finding
      → amount_of more ≤ amount_of finding

-- ---- all of them

-- each is reported before those behind it, by number and then by places
abbrev pub AreReportedInOrder : List ReportedFinding → Type 0
AreReportedInOrder [] = Unit {0}
AreReportedInOrder (t ∷ reported) = ((u : ReportedFinding) → Contains reported u → is_below (rank_of t.finding) (rank_of u.finding) ≡ true) × AreReportedInOrder reported

-- where so many full variants are too many, only findings that go by conditions are reported
abbrev pub IsReportable : ProductLine → Option ℕ → LineFinding → Type 0
IsReportable line None finding = Unit {0}
IsReportable line (Some many) finding = goes_by_conditions line finding ≡ true

-- what is reported is had by the variant that is reported with it, and all that some possible variant has is reported
pub record AreReported (line : ProductLine) (many : Option ℕ) (reported : List ReportedFinding) : Type 0 where
  pub full : FullAlternatives
  pub are_full : AreFullAlternatives line full
  pub sound : (t : ReportedFinding) → Contains reported t → IsReportable line many t.finding × IsWitnessFor line full t.finding t.variant.items
  pub complete : (variant : List ℕ) (finding : LineFinding) → HasIt line variant finding → IsSure line finding → IsReportable line many finding
      → (t : ReportedFinding) × Contains reported t × (rank_of t.finding ≡ rank_of finding)
  pub in_order : AreReportedInOrder reported

-- at how many variants would have to be looked, where they are too many
abbrev pub many_of : LookedAt → Option ℕ
many_of (Full variants) = None
many_of (TooMany many) = Some many

-- these are the variants at which is looked, or so many are too many
abbrev pub AreLookedFor : ProductLine → LookedAt → Type 0
AreLookedFor line (Full variants) = (x : FullVariants) × IsLooking line (Few x) × (x.variants ≡ variants)
AreLookedFor line (TooMany many) = IsLooking line (Many many)

-- some variant is possible
abbrev pub SomePossible : ProductLine → Type 0
SomePossible line = (variant : List ℕ) × IsPossible line variant

-- what is found of a line: that no variant is possible, or this
abbrev pub IsCheckOf : ProductLine → LineAnswer → Type 0
IsCheckOf line NoVariant = ¬ SomePossible line
IsCheckOf line (Found reported looked) = SomePossible line × AreLookedFor line looked × AreReported line (many_of looked) reported.items

-- ---- laws

-- these are the findings of a variant: none
pub record HasNothing (line : ProductLine) (variant : List ℕ) : Type 0 where
  pub none : AreVariantFindings line variant []
  pub alone : (findings : List LineFinding) → AreVariantFindings line variant findings → findings ≡ []

-- where nothing is reported, no possible variant has a finding
abbrev pub NothingReportedIsNothingFound : Type 0
NothingReportedIsNothingFound = (line : ProductLine) → AreReported line None [] → (variant : List ℕ) → IsPossible line variant → HasNothing line variant

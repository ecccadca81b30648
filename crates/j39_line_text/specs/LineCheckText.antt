-- The text that the check command writes for a plan file, also of a line of vehicles.
use Rattle.std.specs.Prelude.{◌≡◌, ◌≢◌, ◌⊎◌, ℕ, List, [], ◌++◌, ◌==◌, ◌||◌, Bool, true, false, not, codes, is_some, length, Option}
use Rattle.j39_findings.specs.Findings.{Clean}
use Rattle.j39_load.specs.BusTimes.{timing_of}
use Rattle.j39_load.specs.LoadFindings.{AreLoadFindings}
use Rattle.j39_network.specs.declared.plan.Plan.{Plan}
use Rattle.j39_variants.specs.declared.line.ProductLine.{ProductLine}
use Rattle.j39_variants.specs.VariantPlans.{IsVariantPlan}
use Rattle.j39_line_findings.specs.PossibleVariants.{IsPossible}
use Rattle.j39_line_findings.specs.MissedNeeds.{is_some_need_missed}
use Rattle.j39_line_check.specs.LineChecks.{AreReported, SomePossible}
use Rattle.j39_line_check.specs.declared.answer.ReportedFinding.{ReportedFinding}
use Rattle.j39_line_text.specs.WitnessLines.{findings_of_line_text}
use Rattle.j39_plan_text.specs.Certified.{IsCertified}
use Rattle.j39_plan_text.specs.CheckText.{IsReport}
use Rattle.j39_plan_text.specs.PlanText.{IsReportedText}
use Rattle.j39_text.specs.Texts.{field}
use Rattle.j39_stream.specs.declared.verdict.Verdict.{Verdict}
use Rattle.j39_stream.specs.declared.verdict.Verdict.TheVariants.{Done, Findings, Refused, Unreadable}

-- how large a line of vehicles is in which nothing is wrong with the plan of any
unfoldable pub line_ok_text : ProductLine → List ℕ
line_ok_text line =
    field (codes "ok ") (length line.plan.units.items) ++ (field (codes " units ") (length line.plan.groups.items)
    ++ (field (codes " groups ") (length line.plan.flows.items) ++ (field (codes " flows ") (length line.choices.items) ++ codes " choices\n")))

-- no variant is possible
unfoldable pub no_variant_text : List ℕ
no_variant_text = codes "F29 NoVariant\nfindings 1\n"

-- ---- a line in which nothing is wrong

-- a plan is clean and certified, and nothing is found of its load
pub record IsCertifiedPlan (plan : Plan) : Type 0 where
  pub clean : Clean plan
  pub unhurried : AreLoadFindings plan (timing_of plan) []
  pub certified : IsCertified plan

-- a variant has a plan, each plan of it is so, and each need that is asked for in the variant is in it
pub record IsCertifiedVariant (line : ProductLine) (variant : List ℕ) : Type 0 where
  pub planned : (plan : Plan) × IsVariantPlan line variant plan
  pub each : (plan : Plan) → IsVariantPlan line variant plan → IsCertifiedPlan plan
  pub asked : is_some_need_missed line variant ≡ false

-- nothing is wrong with the plan of any possible variant, and some variant is
pub record IsCertifiedLine (line : ProductLine) : Type 0 where
  pub some : SomePossible line
  pub each : (variant : List ℕ) → IsPossible line variant → IsCertifiedVariant line variant

-- ---- a line in which something is

-- all that some possible variant has is reported, each finding once, with a variant that has it
pub record IsFoundText (line : ProductLine) (many : Option ℕ) (reported : List ReportedFinding) (text : List ℕ) : Type 0 where
  pub some : SomePossible line
  pub are_reported : AreReported line many reported
  pub text_is : text ≡ findings_of_line_text line many reported

-- something is reported
abbrev pub is_some_reported : Option ℕ → List ReportedFinding → Bool
is_some_reported many reported = is_some many || not (length reported == 0)

abbrev pub IsFaultyLine : ProductLine → List ℕ → Type 0
IsFaultyLine line text = (many : Option ℕ) × (reported : List ReportedFinding) × IsFoundText line many reported text × (is_some_reported many reported ≡ true)

-- none is possible
abbrev pub IsImpossibleLine : ProductLine → List ℕ → Type 0
IsImpossibleLine line text = (¬ SomePossible line) × (text ≡ no_variant_text)

-- ---- the texts

-- what is written for a line of vehicles, with the verdict
abbrev pub IsLineReport : ProductLine → List ℕ → Verdict → Type 0
IsLineReport line text Done = IsCertifiedLine line × (text ≡ line_ok_text line)
IsLineReport line text Findings = IsImpossibleLine line text ⊎ IsFaultyLine line text
IsLineReport line text Refused = ⊥
IsLineReport line text Unreadable = ⊥

-- what is written for a line, of its one plan where it has no choices
abbrev pub IsPlanOrLine : (Plan → List ℕ → Verdict → Type 0) → (ProductLine → List ℕ → Verdict → Type 0) → ProductLine → List ℕ → Verdict → Type 0
IsPlanOrLine IsOfPlan IsOfLine line text verdict = ((line.choices.items ≡ []) × IsOfPlan line.plan text verdict)
    ⊎ ((line.choices.items ≢ []) × IsOfLine line text verdict)

abbrev pub IsPlanOrLineReport : ProductLine → List ℕ → Verdict → Type 0
IsPlanOrLineReport = IsPlanOrLine IsReport IsLineReport

-- what is written for a file
abbrev pub IsLineCheckText : List ℕ → List ℕ → Verdict → Type 0
IsLineCheckText = IsReportedText IsPlanOrLineReport

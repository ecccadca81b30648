-- The text that the load command writes for a plan file, also of a line of vehicles.
use Rattle.std.specs.Prelude.{◌≡◌, ◌≢◌, ◌⊎◌, ℕ, ◌==◌, List, [], ◌++◌, if◌then◌else◌, length, Option, Some, None}
use Rattle.j39_load.specs.BusTimes.{timing_of}
use Rattle.j39_network.specs.declared.plan.timing.Timing.{Timing}
use Rattle.j39_variants.specs.declared.line.ProductLine.{ProductLine}
use Rattle.j39_line_bounds.specs.LineTimes.{AreTimesAmong, BoundEachOf}
use Rattle.j39_line_bounds.specs.declared.times.LineTimes.{LineTimes}
use Rattle.j39_line_check.specs.declared.answer.LookedAt.{LookedAt}
use Rattle.j39_line_check.specs.declared.answer.ReportedFinding.{ReportedFinding}
use Rattle.j39_line_findings.specs.AllVariants.{IsOneOf}
use Rattle.j39_line_text.specs.Hindrances.{IsHiddenReport, IsShownLine, variants_at}
use Rattle.j39_line_text.specs.ShownTimes.{AreShownTimes}
use Rattle.j39_line_text.specs.TimeLines.{line_times_text}
use Rattle.j39_line_text.specs.WitnessLines.{unshown_of_line_text}
use Rattle.j39_line_text.specs.declared.hindrances.Asked.TheVariants.{Times}
use Rattle.j39_plan_text.specs.LoadText.{IsLoadReport}
use Rattle.j39_plan_text.specs.PlanText.{IsReportedText}
use Rattle.j39_stream.specs.declared.verdict.Verdict.{Verdict}
use Rattle.j39_stream.specs.declared.verdict.Verdict.TheVariants.{Done, Findings}

-- whether anything is found
abbrev pub line_load_verdict : List ReportedFinding → Verdict
line_load_verdict reported = if length reported == 0 then Done else Findings

-- the times of the variants at which check looked, which bound those of each of them, of what some possible variant has, of a line in no possible
-- variant of which a finding hides them, and behind them the findings of which they don't report
pub record IsTimesReport (line : ProductLine) (timing : Timing) (text : List ℕ) (verdict : Verdict) : Type 0 where
  pub looked : LookedAt
  pub reported : List ReportedFinding
  pub shown : IsShownLine Times line looked reported
  pub times : LineTimes
  pub are_times : AreTimesAmong line (variants_at looked) times
  pub bounds : BoundEachOf (IsOneOf (variants_at looked)) line times
  pub shown_times : LineTimes
  pub are_shown : AreShownTimes line times reported shown_times
  pub text_is : text ≡ line_times_text line.plan timing shown_times ++ unshown_of_line_text line reported
  pub verdict_is : verdict ≡ line_load_verdict reported

-- what is written for a line of vehicles of whose bus this is known, with the verdict: as check does, where a finding hides the times, or the full
-- variants are too many
abbrev pub IsLineLoadReport : ProductLine → Timing → List ℕ → Verdict → Type 0
IsLineLoadReport line timing text verdict =
    IsTimesReport line timing text verdict ⊎ (IsHiddenReport Times line text × (verdict ≡ Findings))

-- what is known of the bus of a line that has choices
abbrev pub ReportsLineTiming : ProductLine → Option Timing → Type 0
ReportsLineTiming line None = (line.choices.items ≡ []) ⊎ (timing_of line.plan ≡ None)
ReportsLineTiming line (Some timing) = (line.choices.items ≢ []) × (timing_of line.plan ≡ Some timing)

-- of its one plan where it has no choices, or nothing is known of its bus
abbrev pub IsPlanOrLineLoad : ProductLine → List ℕ → Verdict → Type 0
IsPlanOrLineLoad line text verdict = (((line.choices.items ≡ []) ⊎ (timing_of line.plan ≡ None)) × IsLoadReport line.plan (timing_of line.plan) text verdict)
    ⊎ ((line.choices.items ≢ []) × ((timing : Timing) × (timing_of line.plan ≡ Some timing) × IsLineLoadReport line timing text verdict))

-- what is written for a file
abbrev pub IsLineLoadText : List ℕ → List ℕ → Verdict → Type 0
IsLineLoadText = IsReportedText IsPlanOrLineLoad

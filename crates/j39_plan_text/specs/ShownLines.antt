-- The text that the show command writes for a plan file.
use Rattle.std.specs.Prelude.{◌≡◌, ℕ, List, [], ◌++◌}
use Rattle.j39_variants.specs.declared.line.ProductLine.{ProductLine}
use Rattle.j39_plan_text.specs.ChoiceLines.{choices_lines}
use Rattle.j39_plan_text.specs.PlanText.{IsReportedText}
use Rattle.j39_plan_text.specs.ShowText.{show_text}
use Rattle.j39_stream.specs.declared.verdict.Verdict.{Verdict}
use Rattle.j39_stream.specs.declared.verdict.Verdict.TheVariants.{Done, Findings, Refused, Unreadable}

-- each value of the plan, and behind them its choices
unfoldable pub line_text : ProductLine → List ℕ
line_text line = show_text line.plan ++ choices_lines line

-- what is written for a plan, whatever is wrong with it
abbrev pub IsShowReport : ProductLine → List ℕ → Verdict → Type 0
IsShowReport line text Done = text ≡ line_text line
IsShowReport line text Findings = ⊥
IsShowReport line text Refused = ⊥
IsShowReport line text Unreadable = ⊥

-- what is written for a file
abbrev pub IsShowText : List ℕ → List ℕ → Verdict → Type 0
IsShowText = IsReportedText IsShowReport

-- ---- laws

-- a plan has one report of its values
abbrev pub HasOneShowReport : ProductLine → Type 0
HasOneShowReport line = (text other : List ℕ) (verdict another : Verdict)
    → IsShowReport line text verdict → IsShowReport line other another → (text ≡ other) × (verdict ≡ another)

-- of a plan without choices its values alone are written
abbrev pub ShowsOnePlan : ProductLine → Type 0
ShowsOnePlan line = line.choices.items ≡ [] → line_text line ≡ show_text line.plan

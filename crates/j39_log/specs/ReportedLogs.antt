-- What is written for a plan and a log, whatever reports its lines.
use Rattle.std.specs.Prelude.{◌≡◌, ℕ, List, [], ◌++◌, All}
use Rattle.j39_id.specs.Lines.{Line, lines}
use Rattle.j39_network.specs.PlannedGroups.{IsFirstRefused, IsSendable}
use Rattle.j39_network.specs.declared.plan.Plan.{Plan}
use Rattle.j39_stream.specs.declared.verdict.Verdict.{Verdict}
use Rattle.j39_stream.specs.declared.verdict.Verdict.TheVariants.{Done, Findings, Refused, Unreadable}
use Rattle.j39_log.specs.ReadText.{refused_plan_line}

-- the text of a log, with the verdict; of the log of a refused plan nothing is read
abbrev pub IsTextFor : Plan → (List ℕ → List ℕ → Type 0) → List ℕ → List ℕ → Verdict → Type 0
IsTextFor plan IsText log text Done = All IsSendable plan.groups.items × IsText log text
IsTextFor plan IsText log text Refused = (g : ℕ) × IsFirstRefused plan.groups.items g × (text ≡ refused_plan_line plan g) × (log ≡ [])
IsTextFor plan IsText log text Findings = ⊥
IsTextFor plan IsText log text Unreadable = ⊥

-- a text of a log with these lines begins with these reports
abbrev pub HasEnd : (List ℕ → List ℕ → Type 0) → List Line → List ℕ → Type 0
HasEnd IsText ls reports = (log : List ℕ) → lines log ≡ ls → (end : List ℕ) × IsText log (reports ++ end)

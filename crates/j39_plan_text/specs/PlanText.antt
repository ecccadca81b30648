-- What is written of a plan file: nothing of one that describes the plan of a line of vehicles, else why it is refused.
use Rattle.std.specs.Prelude.{◌≡◌, ◌≢◌, ◌⊎◌, ℕ, List, [], ◌∷◌, ◌++◌, codes, Option, Some, None, Ok, Err}
use Rattle.j39_network.specs.declared.plan.Plan.{Plan}
use Rattle.j39_variants.specs.declared.line.ProductLine.{ProductLine}
use Rattle.j39_variants.specs.DescribedLines.{ReadsProductLine}
use Rattle.j39_plan.specs.PlanErrors.{PlanFault, PlanError}
use Rattle.j39_plan.specs.declared.reading.key.Key.{Key}
use Rattle.j39_plan.specs.declared.reading.place.Table.{Table}
use Rattle.j39_plan.specs.declared.reading.place.Table.TheVariants.{Top, Timing, TimingErrors, Unit as AUnit, UnitName, Group, GroupWhen, Signal, Text, Flow}
use Rattle.j39_plan.specs.declared.reading.place.Table.TheVariants.{Need, Request, Choice, Never}
use Rattle.j39_toml.specs.declared.file_error.FileError.TheVariants as errors
use Rattle.j39_plan.specs.Words.{word_of}
use Rattle.j39_toml.specs.CauseWords.{cause_word}
use Rattle.j39_toml.specs.FileTrees.{tree_of}
use Rattle.j39_stream.specs.declared.verdict.Verdict.{Verdict}
use Rattle.j39_stream.specs.declared.verdict.Verdict.TheVariants.{Refused, Unreadable}
use Rattle.j39_text.specs.Texts.{place_field}

-- a table of the file
unfoldable pub table_text : Table → List ℕ
table_text Top = codes "top"
table_text Timing = codes "timing"
table_text TimingErrors = codes "timing errors"
table_text (AUnit i) = place_field (codes "unit ") i
table_text (UnitName i) = place_field (codes "unit ") i ++ codes " name"
table_text (Group g) = place_field (codes "group ") g
table_text (GroupWhen g) = place_field (codes "group ") g ++ codes " when"
table_text (Signal g s) = place_field (codes "group ") g ++ place_field (codes " signal ") s
table_text (Text g t) = place_field (codes "group ") g ++ place_field (codes " text ") t
table_text (Flow f) = place_field (codes "flow ") f
table_text (Need n) = place_field (codes "need ") n
table_text (Request r) = place_field (codes "request ") r
table_text (Choice c) = place_field (codes "choice ") c
table_text (Never n) = place_field (codes "never ") n

-- the key at fault, where there is one
unfoldable pub key_text : Option Key → List ℕ
key_text None = []
key_text (Some key) = codes " key " ++ word_of key

unfoldable pub fault_line : PlanFault → List ℕ
fault_line fault =
    codes "refused " ++ (cause_word fault.cause ++ (codes " " ++ (table_text fault.place.table ++ (key_text fault.place.key ++ 10 ∷ []))))

-- the line of a refusal; want of memory says nothing of the file
abbrev pub IsRefusalLine : PlanError → List ℕ → Type 0
IsRefusalLine errors.Text text = text ≡ codes "refused Text\n"
IsRefusalLine (errors.Fault fault) text = text ≡ fault_line fault
IsRefusalLine errors.Memory text = ⊥

-- the bytes are a file that describes the line of vehicles
abbrev pub Describes : List ℕ → ProductLine → Type 0
Describes bytes line = ReadsProductLine (Ok line) (tree_of bytes)

-- the bytes are no file that describes one, and the text says why: they are no TOML, or else their first fault
abbrev pub IsRefusedText : List ℕ → List ℕ → Type 0
IsRefusedText bytes text = (error : PlanError) × ReadsProductLine (Err error) (tree_of bytes) × IsRefusalLine error text

-- what is written of a file, with the line of vehicles where it describes one
abbrev pub IsLineText : List ℕ → List ℕ → Option ProductLine → Type 0
IsLineText bytes text (Some line) = Describes bytes line × (text ≡ [])
IsLineText bytes text None = IsRefusedText bytes text

-- the line of a refusal, and no line of vehicles
abbrev pub RefusesPlan : PlanError → List ℕ → Option ProductLine → Type 0
RefusesPlan error text line = IsRefusalLine error text × (line ≡ None)

-- what is written where one plan is wanted, and there is one for each variant
unfoldable pub choices_line : List ℕ
choices_line = codes "refused plan Choices\n"

abbrev pub RefusesChoices : List ℕ → Verdict → Type 0
RefusesChoices text verdict = (text ≡ choices_line) × (verdict ≡ Refused)

-- what is written for a line of vehicles: what is written of its one plan, where it has no choices
abbrev pub IsOfOnePlan : (Plan → List ℕ → Verdict → Type 0) → ProductLine → List ℕ → Verdict → Type 0
IsOfOnePlan IsReport line text verdict =
    ((line.choices.items ≡ []) × IsReport line.plan text verdict) ⊎ ((line.choices.items ≢ []) × RefusesChoices text verdict)

-- the bytes describe a plan without choices
abbrev pub DescribesOnePlan : List ℕ → Plan → Type 0
DescribesOnePlan bytes plan = (line : ProductLine) × Describes bytes line × (line.choices.items ≡ []) × (plan ≡ line.plan)

-- what is written for a file: what is reported of the line of vehicles that it describes, or why it describes none
abbrev pub IsReportedText : (ProductLine → List ℕ → Verdict → Type 0) → List ℕ → List ℕ → Verdict → Type 0
IsReportedText IsReport bytes text verdict =
    ((line : ProductLine) × Describes bytes line × IsReport line text verdict) ⊎ (IsRefusedText bytes text × (verdict ≡ Unreadable))

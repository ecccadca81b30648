-- The lines of findings, with the labels of what they name by places, and the runs that show conflicts.
use Rattle.std.specs.Prelude.{◌≡◌, ℕ, nat_le, nat_lt, Bool, ◌&&◌, if◌then◌else◌, List, [], ◌∷◌, ◌++◌, map, codes, Some, unwrap_or}
use Rattle.std.specs.Option.{option_map_or}
use Rattle.j39_findings.specs.Findings.{finding_number}
use Rattle.j39_findings.specs.ConflictRuns.{IsConflictRun, IsOfConflict, conflict_run}
use Rattle.j39_network.specs.declared.steps.Step.{Step}
use Rattle.j39_world.specs.Conflict.{LeavesWithoutAddress}
use Rattle.j39_network.specs.declared.plan.Plan.{Plan}
use Rattle.j39_findings.specs.declared.checking.finding.Finding.{Finding}
use Rattle.j39_load.specs.LineLists.{lines_of_each}
use Rattle.j39_findings.specs.declared.checking.finding.Finding.TheVariants.{SameName, SameFixedAddress, TooFewAddresses, BadPgn, SamePgn, SignalWidth}
use Rattle.j39_findings.specs.declared.checking.finding.Finding.TheVariants.{SignalOutside, SignalOverlap, FlowToOne, FlowToSelf, FlowRepeated, KeptAddress}
use Rattle.j39_findings.specs.declared.checking.finding.Finding.TheVariants.{PrivateUnsent, RecordOverlap, TextOutside, NeedUnmet}
use Rattle.j39_findings.specs.declared.checking.finding.Finding.TheVariants.{RequestUnanswered, RequestUnheard, AnswerAstray, WhenOutside, RequestRepeated}
use Rattle.j39_findings.specs.declared.checking.finding.Finding.TheVariants.{SilentAddress, SilentInPool, FlowContested}
use Rattle.j39_text.specs.Labels.{group_label, group_pgn, group_selector_end, group_text, signal_bits, signal_end, signal_label, text_end, text_label}
use Rattle.j39_text.specs.Labels.{unit_address, unit_label, units_text}
use Rattle.j39_text.specs.Texts.{field, labels_text, numbered, place_field, places_text}
use Rattle.j39_schedule.specs.Schedule.{read_as, readings_of}
use Rattle.j39_schedule.specs.StepLines.{step_lines}

-- ---- a finding

-- a word, two labels, and a number
unfoldable pub labels_number_text : List ℕ → List ℕ → List ℕ → ℕ → List ℕ
labels_number_text word first second n = labels_text word first second ++ field (codes " ") n

-- a word, and two signals of a group
unfoldable pub signals_text : List ℕ → Plan → ℕ → ℕ → ℕ → List ℕ
signals_text word plan g s t = labels_text word (group_label plan g) (signal_label plan g s) ++ (codes " " ++ signal_label plan g t)

unfoldable pub finding_text : Plan → Finding → List ℕ
finding_text plan (SameName i j) = units_text (codes "F1 SameName ") plan i j
finding_text plan (SameFixedAddress i j) = labels_number_text (codes "F2 SameFixedAddress ") (unit_label plan i) (unit_label plan j) (unit_address plan i)
finding_text plan (TooFewAddresses n) = field (codes "F3 TooFewAddresses ") n
finding_text plan (BadPgn g) = numbered (codes "F4 BadPgn ") (group_label plan g) (group_pgn plan g)
finding_text plan (SamePgn g h) = labels_number_text (codes "F5 SamePgn ") (group_label plan g) (group_label plan h) (group_pgn plan g)
finding_text plan (SignalWidth g s) = labels_number_text (codes "F6 SignalWidth ") (group_label plan g) (signal_label plan g s) (signal_bits plan g s)
finding_text plan (SignalOutside g s) = labels_number_text (codes "F7 SignalOutside ") (group_label plan g) (signal_label plan g s) (signal_end plan g s)
finding_text plan (SignalOverlap g s t) = signals_text (codes "F8 SignalOverlap ") plan g s t
finding_text plan (FlowToOne f) = place_field (codes "F9 FlowToOne ") f
finding_text plan (FlowToSelf f) = place_field (codes "F10 FlowToSelf ") f
finding_text plan (FlowRepeated f h) = places_text (codes "F11 FlowRepeated ") f h
finding_text plan (KeptAddress i) = numbered (codes "F12 KeptAddress ") (unit_label plan i) (unit_address plan i)
finding_text plan (PrivateUnsent g) = group_text (codes "F13 PrivateUnsent ") plan g
finding_text plan (RecordOverlap g s t) = signals_text (codes "F14 RecordOverlap ") plan g s t
finding_text plan (TextOutside g t) = labels_number_text (codes "F15 TextOutside ") (group_label plan g) (text_label plan g t) (text_end plan g t)
finding_text plan (NeedUnmet n) = place_field (codes "F19 NeedUnmet ") n
finding_text plan (RequestUnanswered r) = place_field (codes "F21 RequestUnanswered ") r
finding_text plan (RequestUnheard r) = place_field (codes "F22 RequestUnheard ") r
finding_text plan (AnswerAstray r) = place_field (codes "F23 AnswerAstray ") r
finding_text plan (WhenOutside g) = numbered (codes "F24 WhenOutside ") (group_label plan g) (group_selector_end plan g)
finding_text plan (RequestRepeated r s) = places_text (codes "F25 RequestRepeated ") r s
finding_text plan (SilentAddress u v) = labels_number_text (codes "F26 SilentAddress ") (unit_label plan u) (unit_label plan v) (unit_address plan u)
finding_text plan (SilentInPool u) = numbered (codes "F27 SilentInPool ") (unit_label plan u) (unit_address plan u)
finding_text plan (FlowContested f) = place_field (codes "F28 FlowContested ") f

-- ---- all of them

unfoldable pub finding_line : Plan → Finding → List ℕ
finding_line plan finding = finding_text plan finding ++ 10 ∷ []

-- the steps of the run that shows the conflict of which a finding reports, and nothing for other findings
unfoldable pub run_lines : Plan → Finding → List ℕ
run_lines plan finding = option_map_or (step_lines plan) (conflict_run plan finding) []

-- a finding, and the run that shows it
unfoldable pub finding_report : Plan → Finding → List ℕ
finding_report plan finding = finding_line plan finding ++ run_lines plan finding

-- the number is this one or a greater one, and below that one
abbrev pub is_between : ℕ → ℕ → ℕ → Bool
is_between from below number = nat_le from number && nat_lt number below

-- a finding whose number is between these
unfoldable pub finding_part : ℕ → ℕ → Plan → Finding → List ℕ
finding_part from below plan finding = if is_between from below (finding_number finding) then finding_report plan finding else []

-- those of the findings whose numbers are between these
abbrev pub finding_lines : ℕ → ℕ → Plan → List Finding → List ℕ
finding_lines from below plan = lines_of_each (λ _. finding_part from below plan) 0

-- ---- laws

-- the lines behind a finding are a schedule of the steps of its run, one a line
abbrev pub RunReadsBack : Type 0
RunReadsBack = (plan : Plan) (finding : Finding)
    → readings_of plan (run_lines plan finding) ≡ map (λ step. read_as (Some step)) (unwrap_or (conflict_run plan finding) [])

-- the lines behind a finding order these steps, which show its conflict: whoever runs them leaves a unit on and without an address
pub record ShowsConflict (plan : Plan) (finding : Finding) (steps : List Step) : Type 0 where
  pub lines_are : readings_of plan (run_lines plan finding) ≡ map (λ step. read_as (Some step)) steps
  pub run : IsConflictRun plan finding steps
  pub shows : LeavesWithoutAddress plan steps run.larger

-- they do so for each finding that reports of a conflict, with some steps
abbrev pub RunShowsConflict : Type 0
RunShowsConflict = (plan : Plan) (finding : Finding) → IsOfConflict plan finding → (steps : List Step) × ShowsConflict plan finding steps

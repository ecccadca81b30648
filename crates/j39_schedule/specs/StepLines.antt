-- How a schedule spells the steps of a plan: each by the word of its order and the labels of its units, or the number of its flow.
use Rattle.std.specs.Prelude.{◌≡◌, ℕ, ◌<◌, ◌≤◌, List, [], ◌∷◌, ◌++◌, length, map, codes, Some, All}
use Rattle.hex.specs.Hex.{encode_upper, IsBytes}
use Rattle.j39_id.specs.Limits.{message_bytes}
use Rattle.j39_id.specs.Lines.{Short}
use Rattle.j39_network.specs.declared.plan.Plan.{Plan}
use Rattle.j39_network.specs.declared.steps.Step.{Step}
use Rattle.j39_network.specs.declared.steps.Step.TheVariants.{Up, Down, Give, Ask, Begin, Send, Emit, Take, Lose, LateSender, LateReceiver, Rest}
use Rattle.j39_text.specs.Labels.{unit_label, units_text}
use Rattle.j39_text.specs.Texts.{place_field}
use Rattle.j39_schedule.specs.Schedule.{line_order, read_as, readings_of}

-- a word, and a unit
unfoldable pub step_unit_text : List ℕ → Plan → ℕ → List ℕ
step_unit_text word plan u = word ++ unit_label plan u

-- the words of a step; bytes are spelled by capital hex digits
unfoldable pub step_text : Plan → Step → List ℕ
step_text plan (Up u) = step_unit_text (codes "up ") plan u
step_text plan (Down u) = step_unit_text (codes "down ") plan u
step_text plan (Give u v) = units_text (codes "give ") plan u v
step_text plan (Ask u) = step_unit_text (codes "ask ") plan u
step_text plan (Begin f bytes) = place_field (codes "begin ") f ++ (codes " " ++ encode_upper bytes.items)
step_text plan (Send f bytes) = place_field (codes "send ") f ++ (codes " " ++ encode_upper bytes.items)
step_text plan (Emit u) = step_unit_text (codes "emit ") plan u
step_text plan (Take u v) = units_text (codes "take ") plan u v
step_text plan (Lose u v) = units_text (codes "lose ") plan u v
step_text plan (LateSender u) = step_unit_text (codes "late ") plan u
step_text plan (LateReceiver u v) = units_text (codes "late ") plan u v
step_text plan (Rest u) = step_unit_text (codes "rest ") plan u

-- the line of a step, after two spaces
unfoldable pub step_line : Plan → Step → List ℕ
step_line plan step = codes "  " ++ (step_text plan step ++ 10 ∷ [])

-- a line for each step, in order
unfoldable pub step_lines : Plan → List Step → List ℕ
step_lines plan [] = []
step_lines plan (step ∷ steps) = step_line plan step ++ step_lines plan steps

-- ---- what the reader makes of them

-- some bytes of a flow of the plan, no more than the longest message has
abbrev pub IsMessageOf : Plan → ℕ → List ℕ → Type 0
IsMessageOf plan f bytes = (f < length plan.flows.items) × (0 < length bytes) × (length bytes ≤ message_bytes) × IsBytes bytes

-- a place of a unit
abbrev pub IsUnit : Plan → ℕ → Type 0
IsUnit plan u = u < length plan.units.items

-- the step names units of the plan, or a message of it
abbrev pub IsStepOf : Plan → Step → Type 0
IsStepOf plan (Up u) = IsUnit plan u
IsStepOf plan (Down u) = IsUnit plan u
IsStepOf plan (Give u v) = IsUnit plan u × IsUnit plan v
IsStepOf plan (Ask u) = IsUnit plan u
IsStepOf plan (Begin f bytes) = IsMessageOf plan f bytes.items
IsStepOf plan (Send f bytes) = IsMessageOf plan f bytes.items
IsStepOf plan (Emit u) = IsUnit plan u
IsStepOf plan (Take u v) = IsUnit plan u × IsUnit plan v
IsStepOf plan (Lose u v) = IsUnit plan u × IsUnit plan v
IsStepOf plan (LateSender u) = IsUnit plan u
IsStepOf plan (LateReceiver u v) = IsUnit plan u × IsUnit plan v
IsStepOf plan (Rest u) = IsUnit plan u

-- the words of a plan's step order this step
abbrev pub StepReadsBack : Type 0
StepReadsBack = (plan : Plan) (step : Step) → IsStepOf plan step → line_order plan (Short (step_text plan step)) ≡ read_as (Some step)

-- the lines of a plan's steps are a schedule of these steps
abbrev pub StepsReadBack : Type 0
StepsReadBack = (plan : Plan) (steps : List Step) → All (IsStepOf plan) steps
    → readings_of plan (step_lines plan steps) ≡ map (λ step. read_as (Some step)) steps

-- Why a line of a schedule can't be read.
use Rattle.std.specs.Prelude.{◌≡◌, ℕ, ◌==◌, ◌||◌, not, Bool, true, if◌then◌else◌, List, [], ◌∷◌, length, take, drop, Option, Some, None, is_none, is_err}
use Rattle.std.specs.List.{list_any}
use Rattle.std.specs.Result.{result_err}
use Rattle.hex.specs.Hex.{decode_of}
use Rattle.j39_id.specs.FirstFault.{first_fault}
use Rattle.j39_id.specs.Lines.{Line, Long, Short}
use Rattle.j39_network.specs.declared.plan.Plan.{Plan}
use Rattle.j39_schedule.specs.Schedule.{Order, of_unit, of_units, of_unit_or_units, of_message, begins_comment, line_order, spelled_number, order_named}
use Rattle.j39_schedule.specs.Schedule.{unit_named, words_of}
use Rattle.j39_schedule.specs.declared.line_fault.LineFault.{LineFault}
use Rattle.j39_schedule.specs.declared.line_fault.LineFault.TheVariants.{LongLine, UnknownWord, WordCount, UnknownLabel, BadNumber, BadHex}

-- how many values an order takes
abbrev pub takes_values : Order → ℕ → Bool
takes_values (of_unit step) count = count == 1
takes_values (of_units step) count = count == 2
takes_values (of_unit_or_units one two) count = count == 1 || count == 2
takes_values (of_message message) count = count == 2

-- which of them are labels, which a number, and which hex digits
abbrev pub labels_in : Order → List (List ℕ) → List (List ℕ)
labels_in (of_message message) values = []
labels_in order values = values

abbrev pub numerals_in : Order → List (List ℕ) → List (List ℕ)
numerals_in (of_message message) values = take 1 values
numerals_in order values = []

abbrev pub digits_in : Order → List (List ℕ) → List (List ℕ)
digits_in (of_message message) values = drop 1 values
digits_in order values = []

-- the faults of an order's values, in the order in which they are looked for, each with whether it holds
abbrev pub values_faults : Plan → Order → List (List ℕ) → List (LineFault × Bool)
values_faults plan order values =
    (WordCount, not (takes_values order (length values)))
    ∷ (UnknownLabel, list_any (λ label. is_none (unit_named plan label)) (labels_in order values))
    ∷ (BadNumber, list_any (λ number. is_none (spelled_number number)) (numerals_in order values))
    ∷ (BadHex, list_any (λ digits. is_err (decode_of digits)) (digits_in order values))
    ∷ []

abbrev pub order_faults : Plan → Option Order → List (List ℕ) → List (LineFault × Bool)
order_faults plan None values = (UnknownWord, true) ∷ []
order_faults plan (Some order) values = values_faults plan order values

-- a line without words and a comment have none
abbrev pub words_faults : Plan → List (List ℕ) → List (LineFault × Bool)
words_faults plan [] = []
words_faults plan (word ∷ values) = if begins_comment word then [] else order_faults plan (order_named word) values

abbrev pub line_faults : Plan → Line → List (LineFault × Bool)
line_faults plan Long = (LongLine, true) ∷ []
line_faults plan (Short line) = words_faults plan (words_of line)

-- the law: what is reported of a line is its first fault, if it has one
abbrev pub ReportsFirstFault : Type 0
ReportsFirstFault = (plan : Plan) (line : Line) → result_err (line_order plan line) ≡ first_fault (line_faults plan line)

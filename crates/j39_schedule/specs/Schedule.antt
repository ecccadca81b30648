-- Schedules: what each line of a file orders.
use Rattle.std.specs.Prelude.{ℕ, ◌-◌, ◌==◌, nat_lt, ◌&&◌, Bool, if◌then◌else◌, List, [], ◌∷◌, length, map, position, slice_index_or, codes, Option, Some, None}
use Rattle.std.specs.Prelude.{option_map, Result, Ok, Err}
use Rattle.std.specs.Char.{is_ascii_digit}
use Rattle.std.specs.List.{slice_split, filter, find, list_all}
use Rattle.std.specs.Option.{option_map_or}
use Rattle.std.specs.Str.{bytes_eq}
use Rattle.std.specs.Str.Parse.{digits_value}
use Rattle.hex.specs.Hex.{decode_of}
use Rattle.hex.specs.declared.error.FromHexError.{FromHexError}
use Rattle.j39_id.specs.FrameLine.{is_separator}
use Rattle.j39_network.specs.declared.plan.Plan.{Plan}
use Rattle.j39_network.specs.declared.plan.unit_plan.UnitPlan.{UnitPlan}
use Rattle.j39_network.specs.declared.steps.Step.{Step}
use Rattle.j39_network.specs.declared.steps.Step.TheVariants.{Up, Down, Give, Ask, Begin, Send, Emit, Take, Lose, LateSender, LateReceiver, Rest}
use Rattle.j39_id.specs.Lines.{Line, Long, Short, lines}
use Rattle.j39_schedule.specs.declared.line_fault.LineFault.{LineFault}
use Rattle.j39_schedule.specs.declared.line_fault.LineFault.TheVariants.{LongLine, UnknownWord, WordCount, UnknownLabel, BadNumber, BadHex}

-- ---- the words of a line

abbrev pub is_word : List ℕ → Bool
is_word part = nat_lt 0 (length part)

-- the parts of a line between separators that aren't empty
unfoldable pub words_of : List ℕ → List (List ℕ)
words_of line = filter is_word (slice_split is_separator line)

-- ---- what the words order

-- a step that a line orders: the Begin or the Send of the flow at a place with these bytes, or another one
pub data Ordered : Type 0 where
  begins : ℕ → List ℕ → Ordered
  sends : ℕ → List ℕ → Ordered
  does : Step → Ordered

-- where the bytes of a step lie makes no difference
abbrev pub as_ordered : Step → Ordered
as_ordered (Begin f bytes) = begins f bytes.items
as_ordered (Send f bytes) = sends f bytes.items
as_ordered step = does step

-- what a line is read as: an order for a step, an order for nothing, or why it can't be read
abbrev pub Reading : Type 0
Reading = Result (Option Ordered) LineFault

abbrev pub read_as : Option Step → Reading
read_as order = Ok (option_map as_ordered order)

-- the unit of a label, by its place
unfoldable pub unit_named : Plan → List ℕ → Option ℕ
unit_named plan label = position (λ (unit : UnitPlan). bytes_eq unit.label.bytes label) plan.units.items

-- a step of the unit of a label
abbrev pub with_unit : Plan → List ℕ → (ℕ → Step) → Reading
with_unit plan a step = option_map_or (λ u. Ok (Some (does (step u)))) (unit_named plan a) (Err UnknownLabel)

-- a step of two units
abbrev pub with_units : Plan → List ℕ → List ℕ → (ℕ → ℕ → Step) → Reading
with_units plan a b step = option_map_or (λ u. with_unit plan b (step u)) (unit_named plan a) (Err UnknownLabel)

-- 1 to 9 decimal digits
unfoldable pub is_number : List ℕ → Bool
is_number text = nat_lt 0 (length text) && (nat_lt (length text) 10 && list_all is_ascii_digit text)

unfoldable pub spelled_number : List ℕ → Option ℕ
spelled_number text = if is_number text then Some (digits_value 10 text) else None

-- the place of the flow of a number, counted from 1. There is no flow 0: it gets the place behind the last flow, where there is
-- none either, so a bus refuses it as it does each flow that isn't planned
abbrev pub flow_place : Plan → ℕ → ℕ
flow_place plan number = if number == 0 then length plan.flows.items else number - 1

-- what is ordered of a flow with what hex digits spell
abbrev pub with_bytes : (ℕ → List ℕ → Ordered) → ℕ → Result (List ℕ) FromHexError → Reading
with_bytes order f (Ok bytes) = Ok (Some (order f bytes))
with_bytes order f (Err e) = Err BadHex

abbrev pub with_flow : Plan → (ℕ → List ℕ → Ordered) → List ℕ → List ℕ → Reading
with_flow plan order number hex = option_map_or (λ n. with_bytes order (flow_place plan n) (decode_of hex)) (spelled_number number) (Err BadNumber)

-- what stands behind the word of an order, and what is ordered then
pub data Order : Type 0 where
  of_unit : (ℕ → Step) → Order
  of_units : (ℕ → ℕ → Step) → Order
  of_unit_or_units : (ℕ → Step) → (ℕ → ℕ → Step) → Order
  of_message : (ℕ → List ℕ → Ordered) → Order

-- the orders, each with its word
abbrev pub orders : List (List ℕ × Order)
orders =
    (codes "up", of_unit Up)
    ∷ (codes "down", of_unit Down)
    ∷ (codes "give", of_units Give)
    ∷ (codes "ask", of_unit Ask)
    ∷ (codes "begin", of_message begins)
    ∷ (codes "send", of_message sends)
    ∷ (codes "emit", of_unit Emit)
    ∷ (codes "take", of_units Take)
    ∷ (codes "lose", of_units Lose)
    ∷ (codes "late", of_unit_or_units LateSender LateReceiver)
    ∷ (codes "rest", of_unit Rest)
    ∷ []

-- the order that begins with a word
unfoldable pub order_named : List ℕ → Option Order
order_named word = option_map (λ (named : List ℕ × Order). named.1) (find (λ (named : List ℕ × Order). bytes_eq named.0 word) orders)

-- an order with the values behind its word
abbrev pub order_of : Plan → Order → List (List ℕ) → Reading
order_of plan (of_unit step) (a ∷ []) = with_unit plan a step
order_of plan (of_units step) (a ∷ b ∷ []) = with_units plan a b step
order_of plan (of_unit_or_units one two) (a ∷ []) = with_unit plan a one
order_of plan (of_unit_or_units one two) (a ∷ b ∷ []) = with_units plan a b two
order_of plan (of_message message) (n ∷ hex ∷ []) = with_flow plan message n hex
order_of plan order values = Err WordCount

-- a word that begins with a number sign makes its line a comment
abbrev pub begins_comment : List ℕ → Bool
begins_comment word = slice_index_or word 0 0 == 35

unfoldable pub words_order : Plan → List (List ℕ) → Reading
words_order plan [] = Ok None
words_order plan (word ∷ values) =
    if begins_comment word then Ok None
    else option_map_or (λ order. order_of plan order values) (order_named word) (Err UnknownWord)

-- what a line orders
unfoldable pub line_order : Plan → Line → Reading
line_order plan Long = Err LongLine
line_order plan (Short line) = words_order plan (words_of line)

-- what each line of a schedule is read as
abbrev pub readings_of : Plan → List ℕ → List Reading
readings_of plan text = map (line_order plan) (lines text)

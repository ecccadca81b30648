-- The words of the code, as the orders of a schedule.
use Rattle.std.specs.Prelude.{ℕ, List, Option, option_map}
use Rattle.std.specs.Borrow.{Bor}
use Rattle.std.specs.List.{find}
use Rattle.std.specs.Str.{bytes_eq}
use Rattle.j39_network.specs.declared.steps.Step.{Step}
use Rattle.j39_network.specs.declared.steps.Step.TheVariants.{Up, Down, Give, Ask, Emit, Take, Lose, LateSender, LateReceiver, Rest}
use Rattle.j39_schedule.specs.Schedule.{Order, Ordered, begins, sends, of_unit, of_units, of_unit_or_units, of_message}
use Rattle.j39_schedule.specs.declared.order_word.MessageOrder.{MessageOrder}
use Rattle.j39_schedule.specs.declared.order_word.MessageOrder.TheVariants as message
use Rattle.j39_schedule.specs.declared.order_word.OrderWord.{OrderWord}
use Rattle.j39_schedule.specs.declared.order_word.OrderWord.TheVariants as words
use Rattle.j39_schedule.specs.declared.order_word.UnitOrder.{UnitOrder}
use Rattle.j39_schedule.specs.declared.order_word.UnitOrder.TheVariants as one
use Rattle.j39_schedule.specs.declared.order_word.UnitsOrder.{UnitsOrder}
use Rattle.j39_schedule.specs.declared.order_word.UnitsOrder.TheVariants as two

-- the step that is ordered of a unit
abbrev pub unit_step : UnitOrder → ℕ → Step
unit_step one.Up = Up
unit_step one.Down = Down
unit_step one.Ask = Ask
unit_step one.Emit = Emit
unit_step one.Rest = Rest

-- the step that is ordered of two units
abbrev pub units_step : UnitsOrder → ℕ → ℕ → Step
units_step two.Give = Give
units_step two.Take = Take
units_step two.Lose = Lose

-- what is ordered of a message
abbrev pub message_order : MessageOrder → ℕ → List ℕ → Ordered
message_order message.Begin = begins
message_order message.Send = sends

-- what stands beside a text in a table
unfoldable pub beside : List (Bor (List ℕ) × OrderWord) → List ℕ → Option OrderWord
beside words text = option_map (λ (w : Bor (List ℕ) × OrderWord). w.1) (find (λ (w : Bor (List ℕ) × OrderWord). bytes_eq w.0.now text) words)

-- the order that it begins
abbrev pub order_word : OrderWord → Order
order_word (words.OfUnit order) = of_unit (unit_step order)
order_word (words.OfUnits order) = of_units (units_step order)
order_word (words.OfMessage order) = of_message (message_order order)
order_word words.Late = of_unit_or_units LateSender LateReceiver

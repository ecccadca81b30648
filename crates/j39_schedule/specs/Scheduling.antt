-- What the reader of schedules gives.
use Rattle.std.specs.Prelude.{◌≡◌, ℕ, List, Option, Some, Result, Ok, Err}
use Rattle.j39_network.specs.declared.steps.Step.{Step}
use Rattle.j39_schedule.specs.Schedule.{Ordered, Reading, begins, sends, does, read_as}
use Rattle.j39_schedule.specs.declared.unread.Unread.{Unread}
use Rattle.j39_schedule.specs.declared.unread.Unread.TheVariants as unread

-- it is the Begin or the Send of a message
abbrev pub IsOfMessage : Ordered → Type 0
IsOfMessage (begins flow bytes) = Unit {0}
IsOfMessage (sends flow bytes) = Unit {0}
IsOfMessage (does step) = ⊥

-- the line orders one of these, the orders whose reading takes memory: for the bytes
abbrev pub OrdersMessage : Reading → Type 0
OrdersMessage reading = (ordered : Ordered) × IsOfMessage ordered × (reading ≡ Ok (Some ordered))

-- a line is read so, or memory was refused to a Begin or a Send
abbrev pub IsReadAs : Reading → Result (Option Step) Unread → Type 0
IsReadAs reading (Ok order) = reading ≡ read_as order
IsReadAs reading (Err (unread.Fault fault)) = reading ≡ Err fault
IsReadAs reading (Err unread.Memory) = OrdersMessage reading

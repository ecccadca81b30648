-- The table of receivers, and what it keeps true.
use Rattle.std.specs.Prelude.{◌≡◌, ℕ, ◌<◌, ◌≤◌, true, cond, List, [], map, length, Option, Some, None, slice_index_or, vec_capacity, IfSome}
use Rattle.std.specs.declared.alloc.Global.{Global}
use Rattle.std.specs.declared.boxed.Box.{Box}
use Rattle.std.specs.declared.vec.Vec.{Vec}
use Rattle.j39_bus.specs.Queued.{IsTable}
use Rattle.j39_tp.specs.Packets.{is_announcement}
use Rattle.j39_tp.specs.Receiver.{Receiving, completed_size, message_of}
use Rattle.j39_tp.specs.declared.packet.Packet.{Packet}
use Rattle.j39_tp.specs.declared.receiving.manner.Manner.TheVariants.{Answering}
use Rattle.j39_tp.specs.declared.receiving.progress.Progress.{Progress}
use Rattle.j39_tp.specs.declared.receiving.progress.Progress.TheVariants.{Open}
use Rattle.j39_world.specs.Flows.{window_at}
use Rattle.j39_world.specs.SwitchingOff.{is_either}
use Rattle.j39_bus.specs.BusState.{Holding, ReceiverTable, closed, holding_at}

abbrev pub ReceiverSlot : Type 0
ReceiverSlot = Option (Box Receiving Global)

abbrev pub ReceiverRow : Type 0
ReceiverRow = Vec ReceiverSlot Global

-- where no receiver stands, it is closed
abbrev pub holding_of : ReceiverSlot → Holding
holding_of None = closed
holding_of (Some b) = record { progress = b.value.progress; bytes = b.value.bytes }

abbrev pub holdings_of : List ReceiverRow → List (List Holding)
holdings_of rows = map (λ (r : ReceiverRow). map holding_of r.items) rows

-- a receiver answers with this window
abbrev pub AnswersWithWindow : ℕ → ReceiverSlot → Type 0
AnswersWithWindow window None = Unit {0}
AnswersWithWindow window (Some b) = b.value.manner ≡ Answering window

abbrev pub slot_at : List ReceiverRow → ℕ → ℕ → ReceiverSlot
slot_at rows v u = slice_index_or (slice_index_or (map (λ (r : ReceiverRow). r.items) rows) v []) u None

-- a place for each two of as many units as there are windows; each receiver answers with its unit's window
pub record IsReceivers (windows : List ℕ) (rows : List ReceiverRow) : Type 0 where
  pub table : IsTable (length windows) (holdings_of rows)
  pub lets_some : (v : ℕ) → 0 < window_at windows v
  pub answering : (v u : ℕ) → AnswersWithWindow (window_at windows v) (slot_at rows v u)

-- a receiver that answers with this window
abbrev pub answering : ℕ → Holding → Receiving
answering window h = record { manner = Answering window; progress = h.progress; bytes = h.bytes }

-- what is left of a receiver: one whose message is complete is given up
abbrev pub left_at : Progress → List ℕ → Holding
left_at (Open r) bytes = record { progress = Open r; bytes = bytes }
left_at _ bytes = closed

abbrev pub left_of : Receiving → Holding
left_of r = left_at r.progress r.bytes

-- the message that it has completed
abbrev pub message_in : Receiving → List ℕ
message_in r = message_of r.progress r.bytes

-- the first unit's receiver for what the second sends
abbrev pub receiver_at : ReceiverTable → ℕ → ℕ → Receiving
receiver_at t v u = answering (window_at t.windows v) (holding_at t.holdings v u)

-- once a unit is off: its receivers hold nothing, and those of others for what it sends
abbrev pub without_holdings_of : ℕ → (ℕ → ℕ → Holding) → ℕ → ℕ → Holding
without_holdings_of u holdings v s = cond (is_either u v s) closed (holdings v s)

-- an announcement finds a receiver in the table
abbrev pub IsReady : Packet → ReceiverSlot → Type 0
IsReady packet slot = is_announcement packet ≡ true → slot ≡ None → ⊥

-- there is room for the message that a packet completes
abbrev pub HasRoomFor : Receiving → Packet → Vec ℕ Global → Type 0
HasRoomFor r packet bytes = IfSome (completed_size r packet) (λ n. n ≤ vec_capacity bytes)

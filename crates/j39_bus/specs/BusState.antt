-- What contracts see of a bus.
use Rattle.std.specs.Prelude.{ℕ, Bool, List, [], slice_index_or, Option, None}
use Rattle.j39_claim.specs.declared.item.Item.{Item}
use Rattle.j39_claim.specs.ClaimerValue.{ClaimerValue}
use Rattle.j39_bus.specs.Queued.{pair_in}
use Rattle.j39_tp.specs.declared.packet.Packet.{Packet}
use Rattle.j39_tp.specs.declared.receiving.progress.Progress.{Progress}
use Rattle.j39_tp.specs.declared.receiving.progress.Progress.TheVariants.{Closed}
use Rattle.j39_world.specs.declared.wired.Wired.{Wired}
use Rattle.j39_world.specs.declared.flow.Flow.{Flow}
use Rattle.j39_world.specs.Sent.{Sent}
use Rattle.j39_world.specs.Transfers.{Begun, Outgoing, Sessions, Reported}
use Rattle.j39_world.specs.World.{World, Undelivered}
use Rattle.j39_bus.specs.Stations.{station_at}

-- a receiver: how far it is, and the bytes that it holds
pub record Holding : Type 0 where
  pub progress : Progress
  pub bytes : List ℕ

abbrev pub closed : Holding
closed = record { progress = Closed; bytes = [] }

-- how many packets each unit lets be sent to it for one CTS, and its receiver for what each unit sends
pub record ReceiverTable : Type 0 where
  pub windows : List ℕ
  pub holdings : List (List Holding)

pub record BusState : Type 0 where
  -- what each unit claims as and what it is
  pub units : List ClaimerValue
  -- of each unit to each, what is undelivered, the oldest first
  pub claims : List (List (List Item))
  -- whether units are switched and ask for claims while messages are sent, and send while claims are undelivered
  pub live : Bool
  -- what is sent by each flow
  pub flows : List Flow
  -- the message that each unit sends
  pub sessions : List (Option Outgoing)
  -- of each unit to each, what was sent of a message and is not taken, the oldest first
  pub wire : List (List (List Wired))
  pub receivers : ReceiverTable
  -- all messages that were received whole, in order
  pub reports : List Reported
  -- all frames that were sent, in order
  pub frames : List Sent

-- what is undelivered between two units
abbrev pub undelivered : BusState → Undelivered
undelivered b = pair_in b.claims

-- the message that a unit sends
abbrev pub session_at : List (Option Outgoing) → Sessions
session_at sessions u = slice_index_or sessions u None

-- the first unit's receiver for what the second sends
abbrev pub holding_at : List (List Holding) → ℕ → ℕ → Holding
holding_at holdings v u = slice_index_or (slice_index_or holdings v []) u closed

-- what a bus does not keep: what each unit took of each, what each began for each, and what each sent alone for each
pub record Histories : Type 0 where
  pub taken : ℕ → ℕ → List Packet
  pub begun : ℕ → ℕ → List Begun
  pub sent_alone : ℕ → ℕ → List Begun

-- none of these
abbrev pub nowhere : Histories
nowhere = record { taken = λ v u. []; begun = λ u v. []; sent_alone = λ u v. [] }

abbrev pub histories_of : World → Histories
histories_of w = record { taken = w.taken; begun = w.begun; sent_alone = w.sent_alone }

-- the world of a bus with these histories
abbrev pub world_of : Histories → BusState → World
world_of h b = record {
  stations = station_at b.units;
  claims = pair_in b.claims;
  sessions = session_at b.sessions;
  wire = pair_in b.wire;
  receivers = λ v u. (holding_at b.receivers.holdings v u).progress;
  taken = h.taken;
  begun = h.begun;
  sent_alone = h.sent_alone;
  reports = b.reports;
  frames = b.frames;
}

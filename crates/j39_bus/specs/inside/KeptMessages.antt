-- What is kept true of the messages that units send one another.
use Rattle.std.specs.Prelude.{◌≡◌, ℕ, ◌<◌, ◌≤◌, true, false, List, [], ◌∷◌, ◌++◌, drop, length, Option, Some, None, All}
use Rattle.j39_id.specs.Limits.{message_bytes}
use Rattle.j39_bus.specs.Queued.{IsTable, Queued, room_at}
use Rattle.j39_network.specs.declared.plan.to.To.{To}
use Rattle.j39_network.specs.declared.plan.to.To.TheVariants.{All as ToAll, One as ToOne}
use Rattle.j39_tp.specs.declared.packet.Packet.{Packet}
use Rattle.j39_tp.specs.declared.sending.stage.Stage.{Stage}
use Rattle.j39_world.specs.declared.wired.Wired.{Wired}
use Rattle.j39_world.specs.declared.wired.Wired.TheVariants as wired
use Rattle.j39_bus.specs.BusState.{ReceiverTable, session_at}
use Rattle.j39_world.specs.Sent as frames
use Rattle.j39_world.specs.SentTransfers.{packet_frame, short_frame}
use Rattle.j39_world.specs.declared.flow.Flow.{Flow}
use Rattle.j39_world.specs.Transfers.{Outgoing, closed_if_complete, is_among}
use Rattle.j39_world.specs.TransferSteps.{hearing, session_after}
use Rattle.j39_world.specs.World.{World, changed, changed_pair}

-- where a message goes there is a unit
abbrev pub GoesToUnits : ℕ → To → Type 0
GoesToUnits n ToAll = Unit {0}
GoesToUnits n (ToOne v) = v < n

-- the units of a flow are units, and its group can be sent
pub record IsFlow (n : ℕ) (f : Flow) : Type 0 where
  pub sender : f.sender < n
  pub receiver : GoesToUnits n f.to
  pub length : f.most ≤ message_bytes
  pub priority : f.priority ≤ 7

-- these are units, each named once
abbrev pub AreUnits : ℕ → List ℕ → Type 0
AreUnits n [] = Unit {0}
AreUnits n (v ∷ vs) = (v < n) × (is_among vs v ≡ false) × AreUnits n vs

-- a message goes to units
pub record IsSession (n : ℕ) (s : Outgoing) : Type 0 where
  pub to : GoesToUnits n s.to
  pub targets : AreUnits n s.targets

pub record AreSessions (n : ℕ) (sessions : List (Option Outgoing)) : Type 0 where
  pub count : length sessions ≡ n
  pub each : (u : ℕ) (s : Outgoing) → session_at sessions u ≡ Some s → IsSession n s

pub record IsTraffic (n : ℕ) (planned : List Flow) (list : List (Option Outgoing)) (lists : List (List (List Wired))) (receivers : ReceiverTable) : Type 0 where
  pub flows : All (IsFlow n) planned
  pub sessions : AreSessions n list
  pub table : IsTable n lists
  pub windows : length receivers.windows ≡ n

-- a session at another stage
abbrev pub at_stage : (Outgoing → Stage) → Option Outgoing → Option Outgoing
at_stage stage None = None
at_stage stage (Some s) = Some (record s { stage = stage s })

-- there is room for one more item from u to each of these units
abbrev pub HasRoomTo : Queued Wired → ℕ → List ℕ → Type 0
HasRoomTo wire u targets = (v : ℕ) → is_among targets v ≡ true → 0 < room_at wire u v

-- to each that a message goes to
abbrev pub HasRoomAlong : Queued Wired → ℕ → Option Outgoing → Type 0
HasRoomAlong wire u None = Unit {0}
HasRoomAlong wire u (Some s) = HasRoomTo wire u s.targets

-- the frame of what is sent first
abbrev pub item_frame : ℕ → ℕ → Flow → Wired → frames.Sent
item_frame destination source flow (wired.Short bytes) = short_frame destination source flow bytes
item_frame destination source flow (wired.Packet p) = packet_frame destination source p
item_frame destination source flow (wired.Alone f bytes) = short_frame destination source flow bytes

-- a world once v's receiver for u and v's sender have heard a packet, before anything is reported or answered
abbrev pub packet_heard : List ℕ → World → ℕ → ℕ → Packet → World
packet_heard windows w u v p = record w {
  sessions = changed w.sessions v (session_after (w.sessions v) u p);
  wire = changed_pair w.wire u v (drop 1 (w.wire u v));
  receivers = changed_pair w.receivers v u (closed_if_complete (hearing windows w u v p).0);
  taken = changed_pair w.taken v u (w.taken v u ++ p ∷ []);
}

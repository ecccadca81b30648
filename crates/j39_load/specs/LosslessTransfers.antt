-- Long messages of which nothing is lost (SAE J1939-21, transport protocol functions): each frame of the sender is heard by the receiver before
-- the next one is sent, and each of the receiver by the sender, and what is answered goes first. Nothing of another message comes between, and
-- no time runs out.
use Rattle.std.specs.Prelude.{◌≡◌, ℕ, ◌≤◌, Bool, List, [], ◌∷◌, ◌++◌, length, map, Option, Some, None}
use Rattle.std.specs.List.{slice_get}
use Rattle.j39_network.specs.declared.plan.flow_plan.FlowPlan.{FlowPlan}
use Rattle.j39_network.specs.declared.plan.group_plan.GroupPlan.{GroupPlan}
use Rattle.j39_network.specs.declared.plan.pace.Pace.{Pace}
use Rattle.j39_network.specs.declared.plan.timing.Timing.{Timing}
use Rattle.j39_network.specs.declared.plan.to.To.{To}
use Rattle.j39_network.specs.declared.plan.to.To.TheVariants.{All, One}
use Rattle.j39_network.specs.declared.plan.unit_plan.UnitPlan.{UnitPlan}
use Rattle.j39_load.specs.declared.frames.messages.Messages.{Messages}
use Rattle.j39_load.specs.declared.frames.messages.Messages.TheVariants.{Short, ToAll, ToOne}
use Rattle.j39_load.specs.Loads.{frames_to_all, messages_of}
use Rattle.j39_tp.specs.Chunks.{IsSize, MessageParts}
use Rattle.j39_tp.specs.Receiver.{Receiving, hears, receives}
use Rattle.j39_tp.specs.Sender.{TransferParts, announced, announcement, answer, outcome_seen, packet_next, sender_after_hearing, sender_after_sending}
use Rattle.j39_tp.specs.declared.packet.Packet.{Packet}
use Rattle.j39_tp.specs.declared.receiving.manner.Manner.TheVariants.{Answering}
use Rattle.j39_tp.specs.declared.receiving.progress.Progress.TheVariants.{Complete}
use Rattle.j39_tp.specs.declared.sending.outcome.Outcome.{Outcome}
use Rattle.j39_world.specs.Flows.{dest_of}
use Rattle.j39_world.specs.TransferSteps.{receiver_replies, sender_replies}

-- ---- both sides

-- where the sender of a message and a receiver of it stand
pub record Sides : Type 0 where
  pub sender : Option TransferParts
  pub receiver : Receiving

-- a frame of the message, by who sends it
pub data Frame : Type 0 where
  FromSender : Packet → Frame
  FromReceiver : Packet → Frame

-- where they stand once the other one has heard the frame
abbrev pub after_hearing : Sides → Frame → Sides
after_hearing s (FromSender p) = record s { receiver = receives s.receiver p }
after_hearing s (FromReceiver p) = record s { sender = sender_after_hearing s.sender p }

-- what the other one answers
abbrev pub replies : Sides → Frame → List Frame
replies s (FromSender p) = map FromReceiver (receiver_replies (hears s.receiver.manner s.receiver.progress p).1)
replies s (FromReceiver p) = map FromSender (sender_replies (answer s.sender p))

-- the sender has sent its next data packet
abbrev pub data_sent : Sides → Sides
data_sent s = record s { sender = sender_after_sending s.sender }

-- from where they stand, where some frames are due, the two send these frames until neither has more to send, and stand so in the end: what is
-- due goes first, and then the sender's next data packet
abbrev pub Exchange : Sides → List Frame → List Frame → Sides → Type 0
Exchange s [] [] end = (packet_next s.sender ≡ None) × (end ≡ s)
Exchange s [] (frame ∷ frames) end =
    (p : Packet) × (packet_next s.sender ≡ Some p) × (frame ≡ FromSender p) × Exchange (after_hearing (data_sent s) frame) (replies s frame) frames end
Exchange s (due ∷ rest) [] end = ⊥
Exchange s (due ∷ rest) (frame ∷ frames) end = (frame ≡ due) × Exchange (after_hearing s frame) (rest ++ replies s frame) frames end

-- these are all frames of a message, from its announcement on, whatever its receiver was at before
abbrev pub Transfer : MessageParts → To → Receiving → List Frame → Sides → Type 0
Transfer message to receiver frames end =
    Exchange (record { sender = Some (announced message (dest_of to)); receiver = receiver })
    (FromSender (announcement (dest_of to) message.pgn (length message.bytes)) ∷ []) frames end

-- a receiver of such messages: any of one to all, and of one to a unit its own, which takes as many packets at once as are planned
abbrev pub IsReceiverOf : List UnitPlan → To → Receiving → Type 0
IsReceiverOf units All receiver = Unit {0}
IsReceiverOf units (One v) receiver = (unit : UnitPlan) × (slice_get units v ≡ Some unit) × (receiver.manner ≡ Answering unit.window)

-- ---- how many frames

-- the sender rests with this outcome, and the receiver has the message
pub record IsTransferred (message : MessageParts) (outcome : Outcome) (end : Sides) : Type 0 where
  pub rests : outcome_seen end.sender ≡ Some outcome
  pub complete : end.receiver.progress ≡ Complete message.pgn
  pub bytes : end.receiver.bytes ≡ message.bytes

-- the message can be sent, and whenever it is, it takes so many frames, and has arrived then
pub record TakesFrames (message : MessageParts) (to : To) (receiver : Receiving) (count : ℕ) (outcome : Outcome) : Type 0 where
  pub can_be_sent : (frames : List Frame) × (end : Sides) × Transfer message to receiver frames end
  pub count_is : (frames : List Frame) (end : Sides) → Transfer message to receiver frames end → length frames ≡ count
  pub arrives : (frames : List Frame) (end : Sides) → Transfer message to receiver frames end → IsTransferred message outcome end

-- ---- how many are reported

-- of each message of a flow, whose messages are reported so
abbrev pub frames_stated : Messages → ℕ
frames_stated (Short frames) = frames.stream.frames
frames_stated (ToOne frames) = frames.stream.frames
frames_stated (ToAll broadcast) = frames_to_all broadcast.packets

-- no long message of a flow takes more than are reported of the flow's messages
abbrev pub TakeFramesReported : Timing → List UnitPlan → (UnitPlan → Bool) → FlowPlan → Pace → GroupPlan → Type 0
TakeFramesReported timing units stays flow pace group = (message : MessageParts) (receiver : Receiving) (frames : List Frame) (end : Sides)
    → IsSize (length message.bytes) → length message.bytes ≤ group.most → IsReceiverOf units flow.to receiver
    → Transfer message flow.to receiver frames end → length frames ≤ frames_stated (messages_of timing units stays flow pace group)

-- The steps of transfers (SAE J1939-21, transport protocol functions). What senders and receivers do is given by the rules of
-- a sender and of a receiver; here is what becomes of it on a bus.
use Rattle.std.specs.Prelude.{◌≡◌, ℕ, true, false, if◌then◌else◌, List, [], ◌∷◌, ◌++◌, length, map, Option, Some, None}
use Rattle.std.specs.List.{range_with_len, filter}
use Rattle.j39_tp.specs.Carried.{Carried}
use Rattle.j39_tp.specs.Sender as sender
use Rattle.j39_tp.specs.Receiver as receiver
use Rattle.j39_tp.specs.declared.receiving.heard.Heard.{Heard}
use Rattle.j39_tp.specs.declared.receiving.heard.Heard.TheVariants as heards
use Rattle.j39_tp.specs.declared.receiving.manner.Manner.TheVariants.{Answering}
use Rattle.j39_tp.specs.declared.sending.outcome.Outcome.TheVariants.{Sent}
use Rattle.j39_tp.specs.declared.packet.Packet.{Packet}
use Rattle.j39_tp.specs.declared.receiving.progress.Progress.{Progress}
use Rattle.j39_tp.specs.declared.sending.reaction.Reaction.{Reaction}
use Rattle.j39_tp.specs.declared.sending.reaction.Reaction.TheVariants as reactions
use Rattle.j39_tp.specs.declared.sending.stage.Stage.{Stage}
use Rattle.j39_tp.specs.declared.sending.stage.Stage.TheVariants.{Resting}
use Rattle.j39_network.specs.declared.plan.to.To.{To}
use Rattle.j39_network.specs.declared.plan.to.To.TheVariants.{All, One}
use Rattle.j39_world.specs.declared.wired.Wired.{Wired}
use Rattle.j39_world.specs.declared.wired.Wired.TheVariants as wired
use Rattle.j39_world.specs.Flows.{dest_of, is_short, window_at}
use Rattle.j39_world.specs.declared.flow.Flow.{Flow}
use Rattle.j39_world.specs.Sent as frames
use Rattle.j39_world.specs.SentTransfers.{address_of, destination_of, packet_frame, short_frame}
use Rattle.j39_world.specs.Transfers.{Outgoing, Reported, is_among, added, closed_if_complete}
use Rattle.j39_world.specs.World.{World, Stations, changed, changed_pair, is_other_on}

-- ---- what is sent

-- u sends each of these units an item, by one frame
abbrev pub sent_to : World → ℕ → List ℕ → Wired → frames.Sent → World
sent_to w u targets item frame = record w { wire = added w.wire u targets item; frames = w.frames ++ frame ∷ [] }

-- u sends a packet to those that its message goes to
abbrev pub sent_to_receivers : World → ℕ → Outgoing → Packet → World
sent_to_receivers w u s p =
    sent_to w u s.targets (wired.Packet p) (packet_frame (destination_of w.stations s.to) (address_of w.stations u) p)

-- v sends u packets, each by one frame
abbrev pub replied : World → ℕ → ℕ → List Packet → World
replied w v u packets =
    record w {
      wire = changed_pair w.wire v u (w.wire v u ++ map wired.Packet packets);
      frames = w.frames ++ map (packet_frame (address_of w.stations u) (address_of w.stations v)) packets;
    }

-- ---- a message is begun

-- its receivers: the one unit, or every other unit that is on
abbrev pub targets_of : ℕ → Stations → ℕ → To → List ℕ
targets_of count stations u All = filter (is_other_on stations u) (range_with_len 0 count)
targets_of count stations u (One v) = v ∷ []

-- one of one frame has ended
abbrev pub begun_stage : Flow → List ℕ → Stage
begun_stage flow bytes = if is_short (length bytes) then Resting Sent else sender.begun (dest_of flow.to) (length bytes)

abbrev pub outgoing : ℕ → Stations → ℕ → Flow → List ℕ → Outgoing
outgoing count stations f flow bytes = record {
  flow = f;
  pgn = flow.pgn;
  to = flow.to;
  targets = targets_of count stations flow.sender flow.to;
  bytes = bytes;
  stage = begun_stage flow bytes;
}

-- what is sent first: the whole message, or its announcement
abbrev pub first_item : Flow → List ℕ → Wired
first_item flow bytes =
    if is_short (length bytes) then wired.Short bytes
    else wired.Packet (sender.announcement (dest_of flow.to) flow.pgn (length bytes))

abbrev pub first_frame : Stations → Flow → List ℕ → frames.Sent
first_frame stations flow bytes =
    let source : ℕ = address_of stations flow.sender in
    let destination : ℕ = destination_of stations flow.to in
    if is_short (length bytes) then short_frame destination source flow bytes
    else packet_frame destination source (sender.announcement (dest_of flow.to) flow.pgn (length bytes))

-- the sender of flow f begins to send these bytes
abbrev pub begins : ℕ → World → ℕ → Flow → List ℕ → World
begins count w f flow bytes =
    let s : Outgoing = outgoing count w.stations f flow bytes in
    record (sent_to w flow.sender s.targets (first_item flow bytes) (first_frame w.stations flow bytes)) {
      sessions = changed w.sessions flow.sender (Some s);
      begun = added w.begun flow.sender s.targets (record { flow = f; bytes = bytes });
    }

abbrev pub BeginsAt : ℕ → World → ℕ → Option Flow → List ℕ → World → Type 0
BeginsAt count w f None bytes new = ⊥
BeginsAt count w f (Some flow) bytes new = new ≡ begins count w f flow bytes

-- ---- a frame is sent alone

-- the sender of flow f sends these bytes at once, in one frame, and goes on with whatever message it sends
abbrev pub sends_alone : ℕ → World → ℕ → Flow → List ℕ → World
sends_alone count w f flow bytes =
    let targets : List ℕ = targets_of count w.stations flow.sender flow.to in
    let frame : frames.Sent = short_frame (destination_of w.stations flow.to) (address_of w.stations flow.sender) flow bytes in
    record (sent_to w flow.sender targets (wired.Alone f bytes) frame) {
      sent_alone = added w.sent_alone flow.sender targets (record { flow = f; bytes = bytes });
    }

abbrev pub SendsAt : ℕ → World → ℕ → Option Flow → List ℕ → World → Type 0
SendsAt count w f None bytes new = ⊥
SendsAt count w f (Some flow) bytes new = new ≡ sends_alone count w f flow bytes

-- ---- the sender goes on

-- u sends the next data packet of its message
abbrev pub Emits : World → ℕ → World → Type 0
Emits w u new =
    (s : Outgoing) × (p : Packet) × (w.sessions u ≡ Some s) × (sender.data_next s.bytes s.stage ≡ Some p)
    × (new ≡ record (sent_to_receivers w u s p) { sessions = changed w.sessions u (Some (record s { stage = sender.after_packet (dest_of s.to) s.stage })) })

-- u hears nothing in time, and gives its message up
abbrev pub SenderTimesOut : World → ℕ → World → Type 0
SenderTimesOut w u new =
    (s : Outgoing) × (p : Packet) × (w.sessions u ≡ Some s) × (sender.timeout_packet s.pgn s.stage ≡ Some p)
    × (new ≡ record (sent_to_receivers w u s p) { sessions = changed w.sessions u (Some (record s { stage = sender.after_timeout s.stage })) })

-- u is idle again
abbrev pub rested : World → ℕ → World
rested w u = record w { sessions = changed w.sessions u None }

-- ---- a packet is taken

-- a sender hears its receivers alone
abbrev pub outgoing_hears : Outgoing → ℕ → Packet → Stage × Reaction
outgoing_hears s u p =
    if is_among s.targets u then sender.stage_hears (dest_of s.to) s.pgn (length s.bytes) s.stage p else (s.stage, reactions.Nothing)

abbrev pub session_after : Option Outgoing → ℕ → Packet → Option Outgoing
session_after None u p = None
session_after (Some s) u p = Some (record s { stage = (outgoing_hears s u p).0 })

abbrev pub reaction_of : Option Outgoing → ℕ → Packet → Reaction
reaction_of None u p = reactions.Nothing
reaction_of (Some s) u p = (outgoing_hears s u p).1

-- what a receiver answers, and what a sender does; no packet is answered by both
abbrev pub receiver_replies : Heard → List Packet
receiver_replies (heards.Reply p) = p ∷ []
receiver_replies (heards.CompleteReply p) = p ∷ []
receiver_replies _ = []

abbrev pub sender_replies : Reaction → List Packet
sender_replies (reactions.Reply p) = p ∷ []
sender_replies _ = []

abbrev pub flow_in : Option Outgoing → ℕ
flow_in None = 0
flow_in (Some s) = s.flow

abbrev pub report : World → ℕ → ℕ → List ℕ → Reported
report w u v bytes = record { receiver = v; sender = u; flow = flow_in (w.sessions u); bytes = bytes; alone = false }

-- of a frame that was sent alone
abbrev pub alone_report : ℕ → ℕ → ℕ → List ℕ → Reported
alone_report u v f bytes = record { receiver = v; sender = u; flow = f; bytes = bytes; alone = true }

-- what v's receiver for u does with a packet of u
abbrev pub hearing : List ℕ → World → ℕ → ℕ → Packet → Progress × Heard
hearing windows w u v p = receiver.hears (Answering (window_at windows v)) (w.receivers v u) p

-- the report of a message that is complete by a packet: the one that all packets carry which v took from u
abbrev pub ReportsOne : World → ℕ → ℕ → Packet → List Reported → Type 0
ReportsOne w u v p reports =
    (pgn : ℕ) × (bytes : List ℕ) × Carried (w.taken v u ++ p ∷ []) (length (w.taken v u)) pgn bytes
    × (reports ≡ report w u v bytes ∷ [])

abbrev pub Reports : World → ℕ → ℕ → Packet → Heard → List Reported → Type 0
Reports w u v p heards.Complete reports = ReportsOne w u v p reports
Reports w u v p (heards.CompleteReply q) reports = ReportsOne w u v p reports
Reports w u v p _ reports = reports ≡ []

-- v has taken a packet of u: its receiver for u and its sender have heard it, and it sends what they answer
abbrev pub packet_taken : List ℕ → World → ℕ → ℕ → List Wired → Packet → List Reported → World
packet_taken windows w u v rest p reports =
    let heard : Progress × Heard = hearing windows w u v p in
    replied
    (record w {
      sessions = changed w.sessions v (session_after (w.sessions v) u p);
      wire = changed_pair w.wire u v rest;
      receivers = changed_pair w.receivers v u (closed_if_complete heard.0);
      taken = changed_pair w.taken v u (w.taken v u ++ p ∷ []);
      reports = w.reports ++ reports;
    })
    v u (receiver_replies heard.1 ++ sender_replies (reaction_of (w.sessions v) u p))

-- v takes the oldest of these items of u
abbrev pub TakenFrom : List ℕ → World → ℕ → ℕ → List Wired → World → Type 0
TakenFrom windows w u v [] new = ⊥
TakenFrom windows w u v (wired.Short bytes ∷ rest) new =
    new ≡ record w { wire = changed_pair w.wire u v rest; reports = w.reports ++ report w u v bytes ∷ [] }
TakenFrom windows w u v (wired.Packet p ∷ rest) new =
    (reports : List Reported) × Reports w u v p (hearing windows w u v p).1 reports
    × (new ≡ packet_taken windows w u v rest p reports)
TakenFrom windows w u v (wired.Alone f bytes ∷ rest) new =
    new ≡ record w { wire = changed_pair w.wire u v rest; reports = w.reports ++ alone_report u v f bytes ∷ [] }

-- the oldest of these items of u to v is lost
abbrev pub LostFrom : World → ℕ → ℕ → List Wired → World → Type 0
LostFrom w u v [] new = ⊥
LostFrom w u v (item ∷ rest) new = new ≡ record w { wire = changed_pair w.wire u v rest }

-- ---- the receiver hears nothing in time

abbrev pub packets_in : Option Packet → List Packet
packets_in None = []
packets_in (Some p) = p ∷ []

-- v hears nothing of u in time, and asks again or gives up
abbrev pub receiver_timed_out : List ℕ → World → ℕ → ℕ → World
receiver_timed_out windows w u v =
    let late : Progress × Option Packet = receiver.timed_out (Answering (window_at windows v)) (w.receivers v u) in
    replied (record w { receivers = changed_pair w.receivers v u (closed_if_complete late.0) }) v u (packets_in late.1)

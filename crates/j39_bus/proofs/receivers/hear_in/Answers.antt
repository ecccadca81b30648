use Rattle.std.proofs.Common.{◌≡◌, ℕ, ◌≤◌, List, length, vec_capacity, sym, ap, ◌∙◌, subst}
use Rattle.j39_tp.specs.Receiver.{Receiving, hears, is_complete, receives}
use Rattle.j39_bus.specs.BusState.{Holding}
use Rattle.j39_bus.specs.inside.Receivers.{HasRoomFor, answering, holding_of}
use Rattle.j39_bus.proofs.HeardPackets.{room_enough}
use Rattle.j39_bus.proofs.receivers.hear_in.Goals as goal

pub collect-requires-clause-room : goal.collect-requires-clause-room
collect-requires-clause-room c =
    let p = c.args.packet.now in
    let r : Receiving = answering c.args.window (holding_of c.fill.new.slot) in
    let room : HasRoomFor r p c.in_ok-bytes.bytes = subst (λ (k : Holding). HasRoomFor (answering c.args.window k) p c.in_ok-bytes.bytes)
    (sym c.fill.ensures.same) (c.in_ok-bytes.ensures.room c.args.window c.requires.answering) in
    let after : (holding_of c.send_to_others-heard.new.slot).bytes ≡ (receives r p).bytes =
    ap (λ (k : Receiving). k.bytes) (c.send_to_others-heard.ensures.after c.args.window c.fill.ensures.answering) in
    let done = ap is_complete
    (sym (c.send_to_others-heard.ensures.heard c.args.window c.fill.ensures.answering)) ∙ sym c.is_complete.ensures ∙ c.if-is_complete.true in
    subst (λ (bytes : List ℕ). length bytes ≤ vec_capacity c.in_ok-bytes.bytes) (sym after)
    (room_enough (hears r.manner r.progress p).1 (receives r p).bytes (vec_capacity c.in_ok-bytes.bytes) done room)

pub returns-clause-answering : goal.returns-clause-answering
returns-clause-answering c = c.leave.ensures.answering c.args.window (c.send_to_others-heard.ensures.answering c.args.window c.fill.ensures.answering)

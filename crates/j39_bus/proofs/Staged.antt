-- The message of a unit is at another stage, and what it then sends goes to those that it goes to.
use Rattle.std.proofs.Common.{◌≡◌, ℕ, List, length, sym, ap, ◌∙◌, subst, Option, Some}
use Rattle.std.specs.Option.{option_and_then}
use Rattle.j39_bus.specs.Queued.{Queued}
use Rattle.j39_tp.specs.declared.packet.Packet.{Packet}
use Rattle.j39_tp.specs.declared.sending.stage.Stage.{Stage}
use Rattle.j39_world.specs.declared.flow.Flow.{Flow}
use Rattle.j39_world.specs.declared.wired.Wired.{Wired}
use Rattle.j39_world.specs.Transfers.{Outgoing}
use Rattle.j39_world.specs.TransferSteps.{sent_to_receivers}
use Rattle.j39_world.specs.World.{World, changed}
use Rattle.j39_bus.specs.BusState.{ReceiverTable, session_at}
use Rattle.j39_bus.specs.inside.KeptMessages.{HasRoomAlong, IsTraffic, at_stage}
use Rattle.j39_bus.proofs.ChangedSessions.{changed_same, session_sends, sessions_staged}
use Rattle.j39_bus.proofs.Wires.{room_kept}

module _ (old new : List (Option Outgoing)) (u : ℕ) (stage : Outgoing → Stage)
    (is : session_at new ≡ changed (session_at old) u (at_stage stage (session_at old u))) where
  pub staged_traffic : (n : ℕ) (flows : List Flow) (lists : List (List (List Wired))) (receivers : ReceiverTable) → length new ≡ length old
      → IsTraffic n flows old lists receivers → IsTraffic n flows new lists receivers
  staged_traffic n flows lists receivers count well =
      record { flows = well.flows; sessions = sessions_staged n old new u stage is count well.sessions; table = well.table; windows = well.windows }

  pub staged_room : (wire : Queued Wired) → HasRoomAlong wire u (session_at old u) → HasRoomAlong wire u (session_at new u)
  staged_room wire room =
      subst (HasRoomAlong wire u) (sym (ap (λ f. f u) is ∙ changed_same (session_at old) u (at_stage stage (session_at old u))))
      (room_kept wire u stage (session_at old u) room)

  -- what it sends goes out from the world in which it is at that stage
  pub staged_world : (next : Outgoing → Option Packet) (p : Packet) → Some p ≡ option_and_then next (session_at old u) → (w after : World)
      → ((s : Outgoing) → session_at new u ≡ Some s → after ≡ sent_to_receivers (record w { sessions = session_at new }) u s p)
      → (s : Outgoing) × (q : Packet) × (session_at old u ≡ Some s) × (next s ≡ Some q)
      × (after ≡ record (sent_to_receivers w u s q) { sessions = changed (session_at old) u (Some (record s { stage = stage s })) })
  staged_world next p sends w after goes =
      let (s, at, sent) = session_sends next (session_at old u) p sends in
      let then : Outgoing = record s { stage = stage s } in
      let all : session_at new ≡ changed (session_at old) u (Some then) = is ∙ ap (λ o. changed (session_at old) u (at_stage stage o)) at in
      let here : session_at new u ≡ Some then = ap (λ f. f u) all ∙ changed_same (session_at old) u (Some then) in
      (s, p, at, sent, goes then here ∙ (λ i. sent_to_receivers (record w { sessions = all i }) u then p))

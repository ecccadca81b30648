use Rattle.std.proofs.Common.{◌≡◌, ◌∷◌, ◌++◌, [], List, refl, ap, sym, ◌∙◌, subst, drop}
use Rattle.j39_tp.specs.declared.packet.Packet.{Packet}
use Rattle.j39_tp.specs.declared.receiving.heard.Heard.{Heard}
use Rattle.j39_world.specs.declared.wired.Wired.{Wired}
use Rattle.j39_bus.specs.Queued.{pair_in}
use Rattle.j39_bus.specs.BusState.{Histories}
use Rattle.j39_bus.specs.Stands.{HoldTaken}
use Rattle.j39_bus.specs.declared.network.Network.{Network}
use Rattle.j39_bus.specs.inside.Network.{has_taken, world_in}
use Rattle.j39_tp.specs.Receiver.{is_complete}
use Rattle.j39_bus.specs.inside.KeptMessages.{packet_heard}
use Rattle.j39_world.specs.Transfers.{Reported}
use Rattle.j39_world.specs.World.{World}
use Rattle.j39_world.specs.TransferSteps.{TakenFrom, hearing, packets_in, reaction_of, receiver_replies, replied, report, sender_replies}
use Rattle.j39_bus.proofs.HeardPackets.{flow_kept, no_report, one_report}
use Rattle.j39_bus.proofs.Wires.{replied_twice}
use Rattle.j39_bus.proofs.Worlds.{append_nil}
use Rattle.j39_bus.proofs.network.Network.hear_packet.Goals as goal
use Rattle.j39_bus.proofs.network.Network.hear_packet.Goals.{then-is_complete, else-is_complete}

pub returns-clause-takes : goal.returns-clause-takes
returns-clause-takes c = λ h held.
    let net = c.args.self.now in
    let u = c.args.from in
    let v = c.args.to in
    let p = c.args.packet.now in
    let w : World = world_in h net in
    let windows = net.receivers.windows in
    let listened = c.in_ok-heard.ensures in
    let bytes = c.in_ok-heard.bytes.items in
    let rest : List Wired = drop 1 (pair_in net.wire.lists u v) in
    let after : Histories = has_taken h v u p in
    let heard : Heard = (hearing windows w u v p).1 in
    let heard_is : c.in_ok-heard.heard ≡ heard = listened.heard h in
    let answers : List Packet = receiver_replies heard in
    let more : List Packet = sender_replies (reaction_of (w.sessions v) u p) in
    let replies_are : packets_in c.reply_of.result ≡ answers = c.reply_of.ensures ∙ ap receiver_replies heard_is in
    let more_are : packets_in c.answer_of.result ≡ more = c.answer_of.ensures ∙ ap sender_replies (listened.reaction h) in
    let mid : World = packet_heard windows w u v p in
    let answered : (reports : List Reported) → world_in after c.if-is_complete.self ≡ record mid { reports = w.reports ++ reports }
    → world_in after c.reply-2.new.self ≡ replied (record mid { reports = w.reports ++ reports }) v u (answers ++ more) =
    λ reports is. c.reply-2.ensures.world after ∙ (λ i. replied ((c.reply.ensures.world after ∙ (λ j. replied (is j) v u (replies_are j))) i) v u (more_are i))
    ∙ replied_twice (record mid { reports = w.reports ++ reports }) v u answers more in
    let table_is : c.reply-2.new.self.receivers ≡ c.if-is_complete.self.receivers =
    ap (λ (m : Network). m.receivers) c.reply-2.ensures.rest ∙ ap (λ (m : Network). m.receivers) c.reply.ensures.rest in (
      after,
      subst (λ (l : List Wired). TakenFrom windows w u v l (world_in after c.reply-2.new.self)) (sym c.requires.oldest)
          (elim c.if-is_complete.branch [
            | then-is_complete t ↦
                let done = sym c.is_complete.ensures ∙ t.if-is_complete.true in
                let (pgn, carried) = listened.complete h held done in
                let one : Reported = report w u v bytes in
                let reported : world_in after c.if-is_complete.self ≡ record mid { reports = w.reports ++ one ∷ [] } =
                ap (world_in after) t.self-is ∙ t.report.ensures.world after
                ∙ (λ i. record (listened.world h i) { reports = (listened.world h i).reports ++ report (listened.world h i) u v bytes ∷ [] })
                ∙ (λ i. record mid { reports = w.reports ++ record one { flow = flow_kept w u v p i } ∷ [] }) in
                (one ∷ [], one_report w u v p heard (one ∷ []) (ap is_complete (sym heard_is) ∙ done) (pgn, bytes, carried, refl), answered (one ∷ []) reported)
            | else-is_complete t ↦
                let open_still = sym c.is_complete.ensures ∙ t.if-is_complete.false in
                let same : world_in after c.if-is_complete.self ≡ record mid { reports = w.reports ++ [] } =
                ap (world_in after) t.self-is ∙ listened.world h ∙ (λ i. record mid { reports = sym (append_nil w.reports) i }) in
                ([], no_report w u v p heard (ap is_complete (sym heard_is) ∙ open_still), answered [] same)
          ]),
      subst (HoldTaken after.taken) (sym table_is) (elim c.if-is_complete.branch [
        | then-is_complete t ↦
            subst (HoldTaken after.taken) (sym (ap (λ (m : Network). m.receivers) t.self-is ∙ ap (λ (m : Network). m.receivers) t.report.ensures.rest))
            (listened.held h held)
        | else-is_complete t ↦ subst (HoldTaken after.taken) (sym (ap (λ (m : Network). m.receivers) t.self-is)) (listened.held h held)
      ]),
    )

use Rattle.std.proofs.Common.{◌∷◌, [], ◌++◌, length, map, ap, sym, ◌∙◌, subst}
use Rattle.std.proofs.lemmas.List.{map-append}
use Rattle.j39_bus.specs.Stations.{station_at}
use Rattle.j39_bus.specs.inside.Network.{world_in}
use Rattle.j39_bus.specs.inside.KeptMessages.{AreUnits, item_frame}
use Rattle.j39_bus.proofs.Steady.{wired_traffic}
use Rattle.j39_bus.proofs.Wires.{targets_units}
use Rattle.j39_world.specs.declared.flow.Flow.{Flow}
use Rattle.j39_world.specs.Sent.{Sent, sent_of}
use Rattle.j39_world.specs.SentTransfers.{address_of, destination_of}
use Rattle.j39_bus.proofs.network.Network.send_by.Goals as goal

pub post_each-requires-clause-targets : goal.post_each-requires-clause-targets
post_each-requires-clause-targets c =
    let net = c.args.self.now in
    let units = targets_units (length net.claimers.items) (station_at net.claimers.items) c.args.flow.now.sender c.args.flow.now.to
    c.requires.ready.planned.receiver in
    subst (λ n. AreUnits n c.args.targets.now) (sym c.requires.network.traffic.table.rows)
    (subst (AreUnits (length net.claimers.items)) (sym c.requires.ready.reached) units)

pub returns-clause-network : goal.returns-clause-network
returns-clause-network c =
    let net = c.args.self.now in
    record {
      claims = c.requires.network.claims;
      traffic = wired_traffic _ _ _ net.wire.lists c.post_each.new.wire.lists _ c.requires.network.traffic c.post_each.ensures.table;
    }

pub returns-clause-world : goal.returns-clause-world
returns-clause-world c = λ h.
    let net = c.args.self.now in
    let flow : Flow = c.args.flow.now in
    let item = c.args.item.now in
    let frames_are = ap (map sent_of) c.push_reserved.ensures.items ∙ map-append sent_of net.frames.items (c.frame_of-frame.result ∷ [])
    ∙ ap (λ (f : Sent). map sent_of net.frames.items ++ f ∷ [])
    (c.frame_of-frame.ensures ∙ (λ i. item_frame (c.destination-destination.ensures i) (c.source-source.ensures i) flow item)
    ∙ ap (λ cs. item_frame (destination_of (station_at cs) flow.to) (address_of (station_at cs) flow.sender) flow item)
    c.as_slice-claimers.ensures.value) in
    λ i. record (world_in h net) { wire = c.post_each.ensures.lists i; frames = frames_are i }

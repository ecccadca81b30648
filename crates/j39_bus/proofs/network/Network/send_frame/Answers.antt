use Rattle.std.proofs.Common.{ap, ◌∙◌}
use Rattle.j39_bus.specs.declared.network.Network.{Network}
use Rattle.j39_bus.specs.inside.Network.{has_sent, world_in}
use Rattle.j39_world.specs.declared.flow.Flow.{Flow}
use Rattle.j39_world.specs.declared.wired.Wired.TheVariants.{Alone}
use Rattle.j39_world.specs.SentTransfers.{address_of, destination_of, short_frame}
use Rattle.j39_world.specs.Transfers.{Begun, added}
use Rattle.j39_world.specs.TransferSteps.{sent_to}
use Rattle.j39_world.specs.World.{World}
use Rattle.j39_bus.proofs.network.Network.send_frame.Goals as goal

pub returns-clause-receivers : goal.returns-clause-receivers
returns-clause-receivers c = ap (λ (m : Network). m.receivers) c.send_by.ensures.rest

pub returns-clause-world : goal.returns-clause-world
returns-clause-world c = λ h.
    let w : World = world_in h c.args.self.now in
    let flow : Flow = c.args.flow.now in
    let message : Begun = record { flow = c.args.place; bytes = c.args.bytes.now } in
    let reached = c.requires.ready.reached in
    c.send_by.ensures.world (has_sent h c.args.place flow c.args.targets.now c.args.bytes.now)
    ∙ (λ i. record (sent_to w flow.sender (reached i) (Alone c.args.place (c.new.ensures i))
    (short_frame (destination_of w.stations flow.to) (address_of w.stations flow.sender) flow (c.new.ensures i))) {
      sent_alone = added h.sent_alone flow.sender (reached i) message;
    })

use Rattle.std.proofs.Common.{refl, sym, ap, ◌∙◌, subst}
use Rattle.j39_tp.specs.Receiver.{gives_up}
use Rattle.j39_bus.specs.Stands.{HoldTaken}
use Rattle.j39_bus.specs.inside.Network.{world_in}
use Rattle.j39_bus.specs.inside.Receivers.{receiver_at}
use Rattle.j39_world.specs.TransferSteps.{packets_in, replied}
use Rattle.j39_bus.proofs.ChangedReceivers.{held_changed, progress_changed}
use Rattle.j39_bus.proofs.network.Network.ask_again.Goals as goal

pub returns-clause-world : goal.returns-clause-world
returns-clause-world c = λ h.
    let net = c.args.self.now in
    let r = receiver_at net.receivers c.args.to c.args.from in
    let receivers_are = progress_changed net.receivers c.late-packet.new.self c.args.to c.args.from (gives_up r) c.late-packet.ensures.after in
    c.reply.ensures.world h
    ∙ (λ i. replied (record (world_in h net) { receivers = receivers_are i }) c.args.to c.args.from (packets_in (c.late-packet.ensures.packet i)))

pub returns-clause-held : goal.returns-clause-held
returns-clause-held c = λ h held.
    let net = c.args.self.now in
    let r = receiver_at net.receivers c.args.to c.args.from in
    subst (HoldTaken h.taken) (sym (ap (λ (m : Rattle.j39_bus.specs.declared.network.Network.Network). m.receivers) c.reply.ensures.rest))
    (held_changed net.receivers c.late-packet.new.self c.args.to c.args.from (gives_up r) c.late-packet.ensures.after h.taken h.taken (λ v u _. refl)
    (c.receivers_gather_what_they_hear.ensures.times_out (h.taken c.args.to c.args.from) r (held c.args.to c.args.from)) held)

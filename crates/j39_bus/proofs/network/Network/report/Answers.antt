use Rattle.std.proofs.Common.{◌∷◌, [], ◌++◌, false, ap, ◌∙◌}
use Rattle.j39_bus.specs.BusState.{session_at}
use Rattle.j39_bus.specs.inside.Network.{world_in}
use Rattle.j39_world.specs.Transfers.{Reported}
use Rattle.j39_world.specs.TransferSteps.{flow_in}
use Rattle.j39_world.specs.World.{World}
use Rattle.j39_bus.proofs.network.Network.report.Goals as goal

pub returns-clause-world : goal.returns-clause-world
returns-clause-world c = λ h.
    let w : World = world_in h c.args.self.now in
    let flow_is = c.flow_of-flow.ensures ∙ ap (λ s. flow_in (session_at s c.args.from)) c.as_slice.ensures.value in
    let one : Reported = record { receiver = c.args.to; sender = c.args.from; flow = c.flow_of-flow.result; bytes = c.args.bytes.items; alone = false } in
    c.report_by.ensures.world h ∙ (λ i. record w { reports = w.reports ++ record one { flow = flow_is i } ∷ [] })

use Rattle.std.proofs.Common.{◌∷◌, [], ◌++◌, map, ap, ◌∙◌}
use Rattle.j39_bus.specs.Reports.{reported_of}
use Rattle.j39_bus.specs.declared.network.Network.{Network}
use Rattle.j39_bus.specs.inside.Network.{world_in}
use Rattle.j39_world.specs.Transfers.{Reported}
use Rattle.j39_world.specs.World.{World}
use Rattle.j39_bus.proofs.network.Network.take_one_frame.Goals as goal

pub returns-clause-receivers : goal.returns-clause-receivers
returns-clause-receivers c = ap (λ (m : Network). m.receivers) c.report_by.ensures.rest

pub returns-clause-world : goal.returns-clause-world
returns-clause-world c = λ h.
    let w : World = world_in h c.args.self.now in
    let one : Reported = record { receiver = c.args.to; sender = c.args.from; flow = c.args.flow; bytes = c.args.bytes.now; alone = c.args.alone } in
    c.report_by.ensures.world h ∙ (λ i. record w {
      wire = c.pop.ensures.lists i;
      reports = map reported_of (c.reserve.ensures.items i) ++ record one { bytes = c.in_ok-copy.ensures.items i } ∷ [];
    })

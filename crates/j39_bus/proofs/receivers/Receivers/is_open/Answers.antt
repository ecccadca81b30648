use Rattle.std.proofs.Common.{arith}
use Rattle.j39_bus.proofs.ReceiverRows.{in_u}
use Rattle.j39_bus.proofs.receivers.Receivers.is_open.Goals as goal

pub index-requires : goal.index-requires
index-requires c =
    let inside = in_u c.self.inside.windows.items c.self.inside.rows.items c.args.self.now c.self.view_is c.self.invariant c.args.to c.args.from
    c.requires.to c.requires.from c.index-row.result.now c.index-row.ensures in
    omega (arith, inside, c.index-row.result.now.ok.0)

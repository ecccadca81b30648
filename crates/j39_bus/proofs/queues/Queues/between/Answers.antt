use Rattle.j39_bus.proofs.Rows.{in_row, list_is}
use Rattle.j39_bus.proofs.queues.Queues.between.Goals as goal

pub index-requires : goal.index-requires
index-requires g c =
    in_row c.self.inside.rows.items c.args.self.now c.self.view_is c.self.invariant.table c.args.from c.args.to c.requires.from c.requires.to
    c.index-row.result.now c.index-row.ensures

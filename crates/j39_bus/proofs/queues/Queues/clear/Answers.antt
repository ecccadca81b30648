use Rattle.std.proofs.Common.{ap, arith}
use Rattle.j39_bus.specs.inside.Rows.{one_if_some}
use Rattle.j39_bus.proofs.Rows.{beside_is, in_row, kept_after, lists_after, room_kept, table_after}
use Rattle.j39_bus.proofs.queues.Queues.clear.Goals as goal

pub index_mut-queue-requires : goal.index_mut-queue-requires
index_mut-queue-requires g c =
    in_row c.self.inside.rows.items c.args.self.now c.self.view_is c.self.invariant.table c.args.from c.args.to c.requires.from c.requires.to
    c.index_mut-row.result.now c.index_mut-row.ensures.value

pub invariant_of-self : goal.invariant_of-self
invariant_of-self g c =
    let beside = beside_is c.self.inside.rows.items c.args.self.now c.self.view_is c.self.invariant.table c.args.from c.args.to c.requires.from c.requires.to
    c.index_mut-row.result.now c.index_mut-row.ensures.value c.index_mut-queue.result.now c.index_mut-queue.ensures.value
    c.filled_beside-beside.result c.filled_beside-beside.ensures in
    kept_after c.self.inside.rows.items c.args.self.now c.self.view_is c.self.invariant.table c.args.from c.args.to c.requires.from c.requires.to
    c.index_mut-row.result.now c.index_mut-row.ensures.value c.index_mut-queue.result.now c.index_mut-queue.ensures.value
    c.clear.new.self c.self.inside.filled.items c.self.invariant.counts _ (omega (arith, beside, ap one_if_some c.clear.ensures.items))

pub returns-clause-table : goal.returns-clause-table
returns-clause-table g c =
    table_after c.self.inside.rows.items c.args.self.now c.self.view_is c.self.invariant.table c.args.from c.args.to c.requires.from c.requires.to
    c.index_mut-row.result.now c.index_mut-row.ensures.value c.index_mut-queue.result.now c.index_mut-queue.ensures.value c.clear.new.self

pub returns-clause-lists : goal.returns-clause-lists
returns-clause-lists g c =
    lists_after c.self.inside.rows.items c.args.self.now c.self.view_is c.self.invariant.table c.args.from c.args.to c.requires.from c.requires.to
    c.index_mut-row.result.now c.index_mut-row.ensures.value c.index_mut-queue.result.now c.index_mut-queue.ensures.value c.clear.new.self _
    c.clear.ensures.items

pub returns-clause-room : goal.returns-clause-room
returns-clause-room g c =
    room_kept c.self.inside.rows.items c.args.self.now c.self.view_is c.self.invariant.table c.args.from c.args.to c.requires.from c.requires.to
    c.index_mut-row.result.now c.index_mut-row.ensures.value c.index_mut-queue.result.now c.index_mut-queue.ensures.value c.clear.new.self
    (omega (arith, c.clear.ensures.len, c.clear.ensures.capacity))

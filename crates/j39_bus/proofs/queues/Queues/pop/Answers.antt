use Rattle.std.proofs.Common.{ap, sym, ◌∙◌, arith, drop}
use Rattle.j39_bus.proofs.Rows.{beside_is, in_row, kept_after, list_is, lists_after, room_kept, row_after, row_bounds, table_after}
use Rattle.j39_bus.proofs.queues.Queues.pop.Goals as goal

pub index_mut-queue-requires : goal.index_mut-queue-requires
index_mut-queue-requires g c =
    in_row c.self.inside.rows.items c.args.self.now c.self.view_is c.self.invariant.table c.args.from c.args.to c.requires.from c.requires.to
    c.index_mut-row.result.now c.index_mut-row.ensures.value

pub overflow_add-beside : goal.overflow_add-beside
overflow_add-beside g c =
    let beside = beside_is c.self.inside.rows.items c.args.self.now c.self.view_is c.self.invariant.table c.args.from c.args.to c.requires.from c.requires.to
    c.index_mut-row.result.now c.index_mut-row.ensures.value c.index_mut-queue.result.now c.index_mut-queue.ensures.value
    c.filled_beside-beside.result c.filled_beside-beside.ensures in
    let bounds = row_bounds c.self.inside.rows.items c.args.self.now c.self.view_is c.self.invariant.table c.args.from c.args.to c.requires.from c.requires.to
    c.index_mut-row.result.now c.index_mut-row.ensures.value c.index_mut-queue.result.now c.index_mut-queue.ensures.value
    c.pop_front-item.new.self in
    let sum = row_after c.self.inside.rows.items c.args.self.now c.self.view_is c.self.invariant.table c.args.from c.args.to c.requires.from c.requires.to
    c.index_mut-row.result.now c.index_mut-row.ensures.value c.index_mut-queue.result.now c.index_mut-queue.ensures.value
    c.pop_front-item.new.self in
    let row = c.index_mut-row.result.now in
    omega (arith, beside, bounds.0, sum, row.ok.0, row.ok.1, row.small, c.one_if_filled.ensures)

pub invariant_of-self : goal.invariant_of-self
invariant_of-self g c =
    let beside = beside_is c.self.inside.rows.items c.args.self.now c.self.view_is c.self.invariant.table c.args.from c.args.to c.requires.from c.requires.to
    c.index_mut-row.result.now c.index_mut-row.ensures.value c.index_mut-queue.result.now c.index_mut-queue.ensures.value
    c.filled_beside-beside.result c.filled_beside-beside.ensures in
    kept_after c.self.inside.rows.items c.args.self.now c.self.view_is c.self.invariant.table c.args.from c.args.to c.requires.from c.requires.to
    c.index_mut-row.result.now c.index_mut-row.ensures.value c.index_mut-queue.result.now c.index_mut-queue.ensures.value
    c.pop_front-item.new.self c.self.inside.filled.items c.self.invariant.counts _ (omega (arith, beside, c.one_if_filled.ensures))

pub returns-clause-table : goal.returns-clause-table
returns-clause-table g c =
    table_after c.self.inside.rows.items c.args.self.now c.self.view_is c.self.invariant.table c.args.from c.args.to c.requires.from c.requires.to
    c.index_mut-row.result.now c.index_mut-row.ensures.value c.index_mut-queue.result.now c.index_mut-queue.ensures.value c.pop_front-item.new.self

pub returns-clause-lists : goal.returns-clause-lists
returns-clause-lists g c =
    let was = list_is c.self.inside.rows.items c.args.self.now c.self.view_is c.self.invariant.table c.args.from c.args.to c.requires.from c.requires.to
    c.index_mut-row.result.now c.index_mut-row.ensures.value c.index_mut-queue.result.now c.index_mut-queue.ensures.value in
    lists_after c.self.inside.rows.items c.args.self.now c.self.view_is c.self.invariant.table c.args.from c.args.to c.requires.from c.requires.to
    c.index_mut-row.result.now c.index_mut-row.ensures.value c.index_mut-queue.result.now c.index_mut-queue.ensures.value c.pop_front-item.new.self _
    (c.pop_front-item.ensures.rest ∙ ap (drop 1) (sym was))

pub returns-clause-room : goal.returns-clause-room
returns-clause-room g c =
    room_kept c.self.inside.rows.items c.args.self.now c.self.view_is c.self.invariant.table c.args.from c.args.to c.requires.from c.requires.to
    c.index_mut-row.result.now c.index_mut-row.ensures.value c.index_mut-queue.result.now c.index_mut-queue.ensures.value c.pop_front-item.new.self
    (omega (arith, c.pop_front-item.ensures.len, c.pop_front-item.ensures.capacity))

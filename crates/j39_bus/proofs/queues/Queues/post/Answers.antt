use Rattle.std.proofs.Common.{ap, sym, ◌∙◌, ◌++◌, ◌∷◌, [], arith}
use Rattle.j39_bus.specs.inside.Rows.{one_if_some}
use Rattle.j39_bus.proofs.Rows.{beside_is, in_row, kept_after, list_is, lists_after, room_is, room_left, row_after, row_bounds, some_pushed, table_after}
use Rattle.j39_bus.proofs.queues.Queues.post.Goals as goal

pub index_mut-queue-requires : goal.index_mut-queue-requires
index_mut-queue-requires g c =
    in_row c.self.inside.rows.items c.args.self.now c.self.view_is c.self.invariant.table c.args.from c.args.to c.requires.from c.requires.to
    c.index_mut-row.result.now c.index_mut-row.ensures.value

pub push_back_reserved-requires : goal.push_back_reserved-requires
push_back_reserved-requires g c =
    let room = room_is c.self.inside.rows.items c.args.self.now c.self.view_is c.self.invariant.table c.args.from c.args.to c.requires.from c.requires.to
    c.index_mut-row.result.now c.index_mut-row.ensures.value c.index_mut-queue.result.now c.index_mut-queue.ensures.value in
    omega (arith, c.requires.room, room)

pub overflow_add-beside : goal.overflow_add-beside
overflow_add-beside g c =
    let beside = beside_is c.self.inside.rows.items c.args.self.now c.self.view_is c.self.invariant.table c.args.from c.args.to c.requires.from c.requires.to
    c.index_mut-row.result.now c.index_mut-row.ensures.value c.index_mut-queue.result.now c.index_mut-queue.ensures.value
    c.filled_beside-beside.result c.filled_beside-beside.ensures in
    let bounds = row_bounds c.self.inside.rows.items c.args.self.now c.self.view_is c.self.invariant.table c.args.from c.args.to c.requires.from c.requires.to
    c.index_mut-row.result.now c.index_mut-row.ensures.value c.index_mut-queue.result.now c.index_mut-queue.ensures.value
    c.push_back_reserved.new.self in
    let sum = row_after c.self.inside.rows.items c.args.self.now c.self.view_is c.self.invariant.table c.args.from c.args.to c.requires.from c.requires.to
    c.index_mut-row.result.now c.index_mut-row.ensures.value c.index_mut-queue.result.now c.index_mut-queue.ensures.value
    c.push_back_reserved.new.self in
    let row = c.index_mut-row.result.now in
    omega (arith, beside, bounds.0, sum, row.ok.0, row.ok.1, row.small, ap one_if_some c.push_back_reserved.ensures.items ∙ some_pushed c.index_mut-queue.result.now.items c.args.item)

pub invariant_of-self : goal.invariant_of-self
invariant_of-self g c =
    let beside = beside_is c.self.inside.rows.items c.args.self.now c.self.view_is c.self.invariant.table c.args.from c.args.to c.requires.from c.requires.to
    c.index_mut-row.result.now c.index_mut-row.ensures.value c.index_mut-queue.result.now c.index_mut-queue.ensures.value
    c.filled_beside-beside.result c.filled_beside-beside.ensures in
    kept_after c.self.inside.rows.items c.args.self.now c.self.view_is c.self.invariant.table c.args.from c.args.to c.requires.from c.requires.to
    c.index_mut-row.result.now c.index_mut-row.ensures.value c.index_mut-queue.result.now c.index_mut-queue.ensures.value
    c.push_back_reserved.new.self c.self.inside.filled.items c.self.invariant.counts _ (omega (arith, beside, ap one_if_some c.push_back_reserved.ensures.items ∙ some_pushed c.index_mut-queue.result.now.items c.args.item))

pub returns-clause-table : goal.returns-clause-table
returns-clause-table g c =
    table_after c.self.inside.rows.items c.args.self.now c.self.view_is c.self.invariant.table c.args.from c.args.to c.requires.from c.requires.to
    c.index_mut-row.result.now c.index_mut-row.ensures.value c.index_mut-queue.result.now c.index_mut-queue.ensures.value c.push_back_reserved.new.self

pub returns-clause-lists : goal.returns-clause-lists
returns-clause-lists g c =
    let was = list_is c.self.inside.rows.items c.args.self.now c.self.view_is c.self.invariant.table c.args.from c.args.to c.requires.from c.requires.to
    c.index_mut-row.result.now c.index_mut-row.ensures.value c.index_mut-queue.result.now c.index_mut-queue.ensures.value in
    lists_after c.self.inside.rows.items c.args.self.now c.self.view_is c.self.invariant.table c.args.from c.args.to c.requires.from c.requires.to
    c.index_mut-row.result.now c.index_mut-row.ensures.value c.index_mut-queue.result.now c.index_mut-queue.ensures.value c.push_back_reserved.new.self _
    (c.push_back_reserved.ensures.items ∙ ap (λ xs. xs ++ c.args.item ∷ []) (sym was))

pub returns-clause-room : goal.returns-clause-room
returns-clause-room g c =
    room_left c.self.inside.rows.items c.args.self.now c.self.view_is c.self.invariant.table c.args.from c.args.to c.requires.from c.requires.to
    c.index_mut-row.result.now c.index_mut-row.ensures.value c.index_mut-queue.result.now c.index_mut-queue.ensures.value c.push_back_reserved.new.self 1
    (omega (arith, c.push_back_reserved.ensures.len, c.push_back_reserved.ensures.capacity))

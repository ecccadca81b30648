use Rattle.std.proofs.Common.{arith}
use Rattle.j39_bus.proofs.Rows.{enough, in_row, lists_same, kept_same, room_after, room_is, room_kept, wanting}
use Rattle.j39_bus.proofs.queues.Queues.reserve.Goals as goal

pub index_mut-queue-requires : goal.index_mut-queue-requires
index_mut-queue-requires g c =
    in_row c.self.inside.rows.items c.args.self.now c.self.view_is c.self.invariant.table c.args.from c.args.to c.requires.from c.requires.to
    c.index_mut-row.result.now c.index_mut-row.ensures.value

pub invariant_of-self : goal.invariant_of-self
invariant_of-self g c =
    kept_same c.self.inside.rows.items c.args.self.now c.self.view_is c.self.invariant.table c.args.from c.args.to c.requires.from c.requires.to
    c.index_mut-row.result.now c.index_mut-row.ensures.value c.index_mut-queue.result.now c.index_mut-queue.ensures.value
    c.reserve.new.self c.self.inside.filled.items c.self.invariant.counts c.reserve.ensures.items

pub returns-clause-lists : goal.returns-clause-lists
returns-clause-lists g c =
    lists_same c.self.inside.rows.items c.args.self.now c.self.view_is c.self.invariant.table c.args.from c.args.to c.requires.from c.requires.to
    c.index_mut-row.result.now c.index_mut-row.ensures.value c.index_mut-queue.result.now c.index_mut-queue.ensures.value c.reserve.new.self
    c.reserve.ensures.items

pub returns-clause-room : goal.returns-clause-room
returns-clause-room g c =
    room_kept c.self.inside.rows.items c.args.self.now c.self.view_is c.self.invariant.table c.args.from c.args.to c.requires.from c.requires.to
    c.index_mut-row.result.now c.index_mut-row.ensures.value c.index_mut-queue.result.now c.index_mut-queue.ensures.value c.reserve.new.self
    (omega (arith, c.reserve.ensures.len, c.reserve.ensures.capacity))

pub returns-clause-made : goal.returns-clause-made
returns-clause-made g c =
    let room = room_after c.self.inside.rows.items c.args.self.now c.self.view_is c.self.invariant.table c.args.from c.args.to c.requires.from c.requires.to
    c.index_mut-row.result.now c.index_mut-row.ensures.value c.index_mut-queue.result.now c.index_mut-queue.ensures.value c.reserve.new.self in
    enough c.reserve.result c.reserve.new.self _ c.args.items c.reserve.ensures.ok room

pub returns-clause-wanted : goal.returns-clause-wanted
returns-clause-wanted g c =
    let room = room_is c.self.inside.rows.items c.args.self.now c.self.view_is c.self.invariant.table c.args.from c.args.to c.requires.from c.requires.to
    c.index_mut-row.result.now c.index_mut-row.ensures.value c.index_mut-queue.result.now c.index_mut-queue.ensures.value in
    wanting c.reserve.result c.index_mut-queue.result.now _ c.args.items c.reserve.ensures.full c.index_mut-queue.result.now.small.1 room

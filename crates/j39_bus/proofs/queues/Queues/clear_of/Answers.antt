use Rattle.std.proofs.Common.{◌+◌, refl, arith}
use Rattle.j39_bus.proofs.Columns.{AreDropped, in_row_or_column, more_dropped, next_in_either, or_at, unit_dropped}
use Rattle.j39_bus.proofs.Rows.{count_is, table_is}
use Rattle.j39_bus.proofs.queues.Queues.clear_of.Goals as goal

pub loop-other-preserved : goal.loop-other-preserved
loop-other-preserved g c =
    let u = c.args.unit in
    let k = c.loop-other.other in
    let from : AreDropped (or_at (in_row_or_column u k) u k) c.args.self.now c.clear.new.self =
    more_dropped c.args.self.now (in_row_or_column u k) (or_at (in_row_or_column u k) u k) u k c.loop-other.self c.clear.new.self c.loop-other.invariant
    c.clear.ensures.table c.clear.ensures.lists c.clear.ensures.room (λ s t. refl) in
    more_dropped c.args.self.now (or_at (in_row_or_column u k) u k) (in_row_or_column u (k + 1)) k u c.clear.new.self c.clear-in-loop-other.new.self from
    c.clear-in-loop-other.ensures.table c.clear-in-loop-other.ensures.lists c.clear-in-loop-other.ensures.room (next_in_either u k)

pub returns-clause-lists : goal.returns-clause-lists
returns-clause-lists g c =
    let count = count_is c.self.inside.rows.items c.args.self.now c.self.view_is c.self.invariant.table in
    let table = table_is c.self.inside.rows.items c.args.self.now c.self.view_is c.self.invariant.table in
    unit_dropped c.args.self.now c.args.unit c.loop-other.other c.loop-other.self table (omega (arith, count)) c.loop-other.invariant

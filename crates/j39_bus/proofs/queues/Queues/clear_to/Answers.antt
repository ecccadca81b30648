use Rattle.std.proofs.Common.{arith}
use Rattle.j39_bus.proofs.Columns.{column_dropped, in_column, more_dropped, next_in_column}
use Rattle.j39_bus.proofs.Rows.{count_is, table_is}
use Rattle.j39_bus.proofs.queues.Queues.clear_to.Goals as goal

pub loop-from-preserved : goal.loop-from-preserved
loop-from-preserved g c =
    more_dropped c.args.self.now (in_column c.args.to c.loop-from.from) _ c.loop-from.from c.args.to c.loop-from.self c.clear.new.self
    c.loop-from.invariant c.clear.ensures.table c.clear.ensures.lists c.clear.ensures.room (next_in_column c.args.to c.loop-from.from)

pub returns-clause-lists : goal.returns-clause-lists
returns-clause-lists g c =
    let count = count_is c.self.inside.rows.items c.args.self.now c.self.view_is c.self.invariant.table in
    let table = table_is c.self.inside.rows.items c.args.self.now c.self.view_is c.self.invariant.table in
    column_dropped c.args.self.now c.args.to c.loop-from.from c.loop-from.self table (omega (arith, count)) c.loop-from.invariant

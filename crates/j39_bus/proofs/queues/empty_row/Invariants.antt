use Rattle.std.proofs.Common.{◌≡◌, ◌≤◌, [], replicate, map, vec_len, vec_capacity}
use Rattle.j39_bus.specs.inside.Rows.{items}
use Rattle.j39_bus.proofs.queues.empty_row.Given as goal

abbrev pub invariant-loop : goal.invariant-loop
invariant-loop g l = record {
  row : map items l.row.items ≡ replicate l.counter [];
  len : vec_len l.row ≡ l.counter;
  room : l.units ≤ vec_capacity l.row;
}

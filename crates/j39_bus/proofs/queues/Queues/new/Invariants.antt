use Rattle.std.proofs.Common.{◌≡◌, ◌≤◌, [], replicate, vec_len, vec_capacity}
use Rattle.j39_bus.specs.inside.Rows.{lists_of}
use Rattle.j39_bus.proofs.queues.Queues.new.Given as goal

abbrev pub invariant-loop : goal.invariant-loop
invariant-loop g l = record {
  rows : lists_of l.rows.items ≡ replicate l.counter (replicate l.units []);
  filled : l.filled.items ≡ replicate l.counter 0;
  len : vec_len l.rows ≡ l.counter;
  room : l.units ≤ vec_capacity l.rows;
  filled_len : vec_len l.filled ≡ l.counter;
  filled_room : l.units ≤ vec_capacity l.filled;
}

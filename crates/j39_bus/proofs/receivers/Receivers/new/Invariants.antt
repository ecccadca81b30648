use Rattle.std.proofs.Common.{◌≡◌, ◌≤◌, length, map, replicate, vec_len, vec_capacity}
use Rattle.j39_bus.proofs.ReceiverRows.{none_in, slots}
use Rattle.j39_bus.proofs.receivers.Receivers.new.Given as goal

abbrev pub invariant-loop : goal.invariant-loop
invariant-loop l = record {
  rows : map slots l.rows.items ≡ replicate l.counter (none_in (length l.units));
  len : vec_len l.rows ≡ l.counter;
  room : length l.units ≤ vec_capacity l.rows;
}

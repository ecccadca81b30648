use Rattle.std.proofs.Common.{◌≡◌, ◌≤◌, None, replicate, vec_len, vec_capacity}
use Rattle.j39_bus.proofs.places.empty_places.Given as goal

abbrev pub invariant-loop : goal.invariant-loop
invariant-loop g l = record {
  places : l.places.items ≡ replicate l.counter None;
  len : vec_len l.places ≡ l.counter;
  room : l.count ≤ vec_capacity l.places;
}

use Rattle.std.proofs.Common.{◌≡◌, ℕ, false, length, slice_index_or}
use Rattle.j39_audit.proofs.known.none_set.Given as goal

abbrev pub invariant-loop-address : goal.invariant-loop-address
invariant-loop-address l = record {
  size : length l.taken.items ≡ l._address;
  none : (k : ℕ) → slice_index_or l.taken.items k false ≡ false;
}

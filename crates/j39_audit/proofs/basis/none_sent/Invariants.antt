use Rattle.std.proofs.Common.{◌≡◌, ℕ, false, length, slice_index_or}
use Rattle.j39_audit.proofs.basis.none_sent.Given as goal

abbrev pub invariant-loop-group : goal.invariant-loop-group
invariant-loop-group l = record {
  size : length l.row.items ≡ l._group;
  none : (g : ℕ) → slice_index_or l.row.items g false ≡ false;
}

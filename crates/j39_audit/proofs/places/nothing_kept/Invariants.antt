use Rattle.std.proofs.Common.{◌≡◌, ℕ, None, length, slice_index_or}
use Rattle.j39_audit.proofs.places.nothing_kept.Given as goal

abbrev pub invariant-loop-place : goal.invariant-loop-place
invariant-loop-place g l = record {
  size : length l.kept.items ≡ l._place;
  none : (k : ℕ) → slice_index_or l.kept.items k None ≡ None;
}

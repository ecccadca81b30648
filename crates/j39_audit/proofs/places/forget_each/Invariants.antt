use Rattle.std.proofs.Common.{◌≡◌, ◌<◌, ℕ, None, length, slice_index_or}
use Rattle.j39_audit.proofs.places.forget_each.Given as goal

abbrev pub invariant-loop-place : goal.invariant-loop-place
invariant-loop-place g l = record {
  size : length l.kept.items ≡ length l.fn.kept.items;
  none : (k : ℕ) → k < l.place → slice_index_or l.kept.items k None ≡ None;
}

use Rattle.std.proofs.Common.{◌≡◌, ◌<◌, ◌≤◌, ℕ, None, cond, length, slice_index_or}
use Rattle.j39_audit.specs.Pauses.{is_stood_for}
use Rattle.j39_audit.proofs.deviating.forget_stood_for.Given as goal

abbrev pub invariant-loop-place : goal.invariant-loop-place
invariant-loop-place l = record {
  size : length l.newest.items ≡ length l.fn.newest.items;
  before : (n : ℕ) → n < l.place → slice_index_or l.newest.items n None
      ≡ cond (is_stood_for l.basis.plan.now l.unit l.group n) None (slice_index_or l.fn.newest.items n None);
  behind : (n : ℕ) → l.place ≤ n → slice_index_or l.newest.items n None ≡ slice_index_or l.fn.newest.items n None;
}

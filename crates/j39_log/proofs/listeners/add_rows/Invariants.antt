use Rattle.std.proofs.Common.{◌≡◌, ℕ, ◌+◌, ◌-◌, vec_len}
use Rattle.j39_log.specs.PairListeners.{slots_at}
use Rattle.j39_log.proofs.listeners.add_rows.Given as goal

abbrev pub invariant-loop-alloc : goal.invariant-loop-alloc
invariant-loop-alloc l = (s : ℕ) → slots_at l.rows.items s ≡ slots_at l.fn.rows.items s

abbrev pub decreases-loop-alloc : goal.decreases-loop-alloc
decreases-loop-alloc l = l.source + 1 - vec_len l.rows

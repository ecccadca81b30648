use Rattle.std.proofs.Common.{◌≡◌, ℕ, ◌+◌, ◌-◌, vec_len}
use Rattle.j39_log.specs.PairListeners.{listener_at}
use Rattle.j39_log.proofs.listeners.lengthen.Given as goal

abbrev pub invariant-loop-row : goal.invariant-loop-row
invariant-loop-row l = (d : ℕ) → listener_at l.row.items d ≡ listener_at l.fn.row.items d

abbrev pub decreases-loop-row : goal.decreases-loop-row
decreases-loop-row l = l.destination + 1 - vec_len l.row

use Rattle.std.proofs.Common.{◌<◌, ◌≤◌, ◌≡◌, ℕ, length}
use Rattle.j39_follow.specs.inside.Contesting.{contention_at, remaining_at}
use Rattle.j39_follow.proofs.address.contests.leave_contests.Given as goal

abbrev pub invariant-loop-address : goal.invariant-loop-address
invariant-loop-address l = (length l.table ≡ 256)
    × ((a : ℕ) → a < l.address → contention_at l.table a ≡ remaining_at l.party (contention_at l.fn.table a))
    × ((a : ℕ) → l.address ≤ a → contention_at l.table a ≡ contention_at l.fn.table a)

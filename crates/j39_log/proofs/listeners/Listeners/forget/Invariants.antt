use Rattle.std.proofs.Common.{◌≡◌, ◌==◌, ◌&&◌, ◌||◌, ℕ, nat_lt, if◌then◌else◌}
use Rattle.j39_tp.specs.Receiver.{fresh}
use Rattle.j39_tp.specs.declared.receiving.manner.Manner.TheVariants.{Listening}
use Rattle.j39_log.specs.PairListeners.{listener_of_pair}
use Rattle.j39_log.proofs.listeners.Listeners.forget.Given as goal

abbrev pub invariant-loop-other : goal.invariant-loop-other
invariant-loop-other l = (s d : ℕ) → listener_of_pair l.self.rows.items s d
    ≡ (if (l.place == s && nat_lt d l.other) || (l.place == d && nat_lt s l.other) then fresh Listening
    else listener_of_pair l.fn.self.rows.items s d)

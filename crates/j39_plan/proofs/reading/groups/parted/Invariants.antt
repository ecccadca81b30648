use Rattle.std.proofs.Common.{◌≡◌, map}
use Rattle.j39_plan.proofs.reading.groups.parted.Given as goal

abbrev pub invariant-loop-signal : goal.invariant-loop-signal
invariant-loop-signal l = (l.signals.items ≡ map (λ x. x.signal) l.yielded) × (l.meanings.items ≡ map (λ x. x.meaning) l.yielded)

use Rattle.std.proofs.Common.{ℕ, ◌<◌}
use Rattle.j39_network.specs.Kinds.{MayBeOneAt}
use Rattle.j39_bus.proofs.opening.same_name_after.Given as goal

abbrev pub invariant-loop-second : goal.invariant-loop-second
invariant-loop-second l = (k : ℕ) → k < l.second → ¬ MayBeOneAt l.plan l.first k

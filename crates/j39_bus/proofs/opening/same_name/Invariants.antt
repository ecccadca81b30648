use Rattle.std.proofs.Common.{ℕ, ◌<◌}
use Rattle.j39_network.specs.Kinds.{MayBeOneAt}
use Rattle.j39_bus.proofs.opening.same_name.Given as goal

abbrev pub invariant-loop-first : goal.invariant-loop-first
invariant-loop-first l = (j k : ℕ) → j < l.first → ¬ MayBeOneAt l.plan j k

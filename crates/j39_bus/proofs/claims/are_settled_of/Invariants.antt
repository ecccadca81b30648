use Rattle.std.proofs.Common.{◌≡◌, ◌<◌, ℕ, true}
use Rattle.j39_bus.specs.Queued.{pair_in}
use Rattle.j39_bus.specs.inside.Claims.{are_requests}
use Rattle.j39_bus.proofs.claims.are_settled_of.Given as goal

abbrev pub invariant-loop-to : goal.invariant-loop-to
invariant-loop-to l = (v : ℕ) → v < l.to → are_requests (pair_in l.claims.lists l.from v) ≡ true

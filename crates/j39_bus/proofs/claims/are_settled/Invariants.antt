use Rattle.std.proofs.Common.{◌≡◌, ◌<◌, ℕ, true}
use Rattle.std.specs.List.{list_all, range_with_len}
use Rattle.j39_bus.specs.Queued.{pair_in}
use Rattle.j39_bus.specs.inside.Claims.{are_requests}
use Rattle.j39_bus.proofs.claims.are_settled.Given as goal

abbrev pub invariant-loop-from : goal.invariant-loop-from
invariant-loop-from l = (u : ℕ) → u < l.from → list_all (λ v. are_requests (pair_in l.claims.lists u v)) (range_with_len 0 l.units) ≡ true

use Rattle.std.proofs.Common.{◌≡◌, ℕ, [], replicate, arith, subst}
use Rattle.j39_bus.specs.inside.Rows.{lists_of}
use Rattle.j39_bus.proofs.Rows.{kept_empty}
use Rattle.j39_bus.proofs.queues.Queues.new.Goals as goal

pub invariant_of-result : goal.invariant_of-result
invariant_of-result g c =
    let all : c.loop.counter ≡ c.args.units = omega arith in
    kept_empty c.args.units c.loop.rows.items c.loop.filled.items
    (subst (λ (k : ℕ). lists_of c.loop.rows.items ≡ replicate k (replicate c.args.units [])) all c.loop.invariant.rows)
    (subst (λ (k : ℕ). c.loop.filled.items ≡ replicate k 0) all c.loop.invariant.filled)

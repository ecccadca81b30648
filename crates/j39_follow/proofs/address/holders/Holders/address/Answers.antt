use Rattle.std.proofs.Common.{◌≡◌, ℕ, subst, arith}
use Rattle.j39_follow.specs.inside.Recounting.{IsLatestBelow}
use Rattle.j39_follow.proofs.address.holders.Holders.address.Goals as goal

pub returns : goal.returns
returns c =
    let all : c.loop-address.address ≡ 254 = omega (arith, c.loop-address.invariant.2, c.loop-address-test.false) in
    subst (λ (n : ℕ). IsLatestBelow c.args.plan.now c.args.self.now c.args.place c.args.unit.now n c.loop-address.best) all c.loop-address.invariant.0

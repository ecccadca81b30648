use Rattle.std.proofs.Common.{◌≡◌, ℕ, length, subst, arith}
use Rattle.j39_follow.specs.inside.Likeliest.{IsBestOf}
use Rattle.j39_follow.proofs.address.who.likeliest.Goals as goal

pub returns : goal.returns
returns c = λ frames of.
    let all : c.loop-place.place ≡ length c.args.plan.now.units.items =
    omega (arith, c.loop-place.invariant.2, c.loop-place-test.false, c.len-place-end.ensures) in
    subst (λ (n : ℕ). IsBestOf c.args.plan.now n frames c.args.address c.loop-place.best) all (c.loop-place.invariant.0 frames of)

use Rattle.std.proofs.Common.{ap, sym, ◌∙◌, arith}
use Rattle.j39_bus.specs.Queued.{pair_in}
use Rattle.j39_bus.specs.inside.Claims.{are_requests}
use Rattle.j39_bus.proofs.Rested.{all_below, not_below}
use Rattle.j39_bus.proofs.claims.are_settled_of.Goals as goal

pub returns-then-not-are_requests : goal.returns-then-not-are_requests
returns-then-not-are_requests c =
    let claim = ap are_requests (sym c.between.ensures) ∙ sym c.are_requests.ensures ∙ c.if-not-are_requests.true in
    sym (not_below (λ v. are_requests (pair_in c.args.claims.now.lists c.args.from v)) c.args.units c.loop-to.to (omega arith) claim)

pub returns : goal.returns
returns c =
    sym (all_below (λ v. are_requests (pair_in c.args.claims.now.lists c.args.from v)) c.args.units (λ v below. c.loop-to.invariant v (omega (arith, below))))

use Rattle.std.proofs.Common.{◌≡◌, ap, inl, inr, sym, ◌∙◌, arith}
use Rattle.std.proofs.lemmas.Bool.{cases_lt}
use Rattle.std.specs.List.{list_all, range_with_len}
use Rattle.j39_bus.specs.Queued.{pair_in}
use Rattle.j39_bus.specs.inside.Claims.{are_requests}
use Rattle.j39_bus.proofs.Rested.{all_below, not_below}
use Rattle.j39_bus.proofs.claims.are_settled.Goals as goal

pub returns-then-not-are_settled_of : goal.returns-then-not-are_settled_of
returns-then-not-are_settled_of c =
    sym (not_below (λ u. list_all (λ v. are_requests (pair_in c.args.claims.now.lists u v)) (range_with_len 0 c.args.units)) c.args.units c.loop-from.from
    (omega arith)
    (sym c.are_settled_of.ensures ∙ c.if-not-are_settled_of.true))

pub loop-from-preserved : goal.loop-from-preserved
loop-from-preserved c = λ u below. elim (cases_lt u c.loop-from.from) [
  | inl less ↦ c.loop-from.invariant u less
  | inr more ↦
      let same : u ≡ c.loop-from.from = omega (arith, below) in
      ap (λ k. list_all (λ v. are_requests (pair_in c.args.claims.now.lists k v)) (range_with_len 0 c.args.units)) same ∙ sym c.are_settled_of.ensures
      ∙ c.if-not-are_settled_of.false
]

pub returns : goal.returns
returns c =
    sym (all_below (λ u. list_all (λ v. are_requests (pair_in c.args.claims.now.lists u v)) (range_with_len 0 c.args.units)) c.args.units
    (λ u below. c.loop-from.invariant u (omega (arith, below))))

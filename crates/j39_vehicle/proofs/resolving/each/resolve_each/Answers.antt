use Rattle.std.proofs.Common.{◌≡◌, [], drop, arith}
use Rattle.std.proofs.lemmas.Result.{err_from_is_err_and}
use Rattle.std.proofs.lemmas.List.{drop_all, drop_more}
use Rattle.j39_toml.proofs.FirstFaults.{fails_on}
use Rattle.j39_vehicle.proofs.EachFound.{grows_inside, goes_on, stops_at, ends}
use Rattle.j39_vehicle.proofs.resolving.each.resolve_each.Goals as goal

pub returns-in_err-item-clause-gives : goal.returns-in_err-item-clause-gives
returns-in_err-item-clause-gives g c =
    let p = err_from_is_err_and c.from_residual.result c.from_residual.ensures.1 in
    let here = drop_more c.args.tables.now c.loop-index.index c.index-tables-index.result c.loop-index-test.true in
    let found = rw (here, ← c.index-tables-index.is) at c.loop-index.invariant in
    rw (p.1, p.2) (fails_on _ _ c.in_err-item.field-0.0 _ _ (grows_inside _ _ _ _ _ _ found) (λ f. stops_at _ _ _ _ _ _ f found) c.in_err-item.ensures)

pub loop-index-preserved : goal.loop-index-preserved
loop-index-preserved g c =
    let here = drop_more c.args.tables.now c.loop-index.index c.index-tables-index.result c.loop-index-test.true in
    let found = rw (here, ← c.index-tables-index.is) at c.loop-index.invariant in
    rw c.in_ok-push.ensures.items (goes_on _ _ _ _ _ _ _ found c.in_ok-item.ensures.0 c.in_ok-item.ensures.1)

pub returns-clause-gives : goal.returns-clause-gives
returns-clause-gives g c =
    let none : drop c.loop-index.index c.args.tables.now ≡ [] = drop_all c.loop-index.index c.args.tables.now (omega arith) in
    ends _ _ _ _ (rw none at c.loop-index.invariant)

pub returns-clause-count : goal.returns-clause-count
returns-clause-count g c = omega arith

use Rattle.std.proofs.Common.{◌≡◌, [], drop, arith}
use Rattle.std.proofs.lemmas.Result.{err_from_is_err_and}
use Rattle.std.proofs.lemmas.List.{drop_all}
use Rattle.toml.proofs.Views.{items_view-drop}
use Rattle.j39_toml.proofs.FirstFaults.{fails_on}
use Rattle.j39_toml.proofs.EachElement.{grows_inside, goes_on, stops_at, ends, labels_stated}
use Rattle.j39_toml.proofs.each.read_each.Goals as goal

pub returns-in_err-item-clause-gives : goal.returns-in_err-item-clause-gives
returns-in_err-item-clause-gives g c =
    let p = err_from_is_err_and c.from_residual.result c.from_residual.ensures.1 in
    let here = items_view-drop c.args.values.now c.loop-index.index c.index-values-index.result c.loop-index-test.true in
    let read = rw (here, ← c.index-values-index.is) at c.loop-index.invariant in
    let fails = rw c.deref.ensures.value at c.in_err-item.ensures.gives in
    rw (p.1, p.2) (fails_on _ _ c.in_err-item.field-0.0 _ _ (grows_inside _ _ _ _ _ _ read) (λ f. stops_at _ _ _ _ _ _ f read) fails)

pub loop-index-preserved : goal.loop-index-preserved
loop-index-preserved g c =
    let here = items_view-drop c.args.values.now c.loop-index.index c.index-values-index.result c.loop-index-test.true in
    let read = rw (here, ← c.index-values-index.is) at c.loop-index.invariant in
    let gives = rw c.deref.ensures.value at c.in_ok-item.ensures.gives in
    rw c.in_ok-push.ensures.items (goes_on _ _ _ _ _ _ _ read gives.0 gives.1 c.in_ok-item.ensures.labelled)

pub returns-clause-gives : goal.returns-clause-gives
returns-clause-gives g c =
    let none : drop c.loop-index.index c.args.values.now ≡ [] = drop_all c.loop-index.index c.args.values.now (omega arith) in
    ends _ _ _ _ (rw none at c.loop-index.invariant)

pub returns-clause-count : goal.returns-clause-count
returns-clause-count g c = omega arith

pub returns-clause-labels : goal.returns-clause-labels
returns-clause-labels g c =
    let none : drop c.loop-index.index c.args.values.now ≡ [] = drop_all c.loop-index.index c.args.values.now (omega arith) in
    labels_stated _ _ _ _ (rw none at c.loop-index.invariant)

use Rattle.std.proofs.Common.{◌≤◌, length, sym, ◌∙◌, arith}
use Rattle.j39_search.proofs.AddingLemmas.{refuses, some_in_each}
use Rattle.j39_search.proofs.PlaceLemmas.{in_each_more, in_each_all}
use Rattle.j39_search.proofs.rules.find_each.Goals as goal

pub returns-in_err-find : goal.returns-in_err-find
returns-in_err-find g c =
    let x = c.index-values-place.result in
    let at = c.index-values-place.is in
    refuses _ _ _ _ _ c.from_residual.ensures.1
    (some_in_each (g.R.Rule.gives c.args.rule.now) c.args.values.now c.loop-place.place x c.loop-place-test.true at c.in_err-find.ensures)

pub loop-place-preserved : goal.loop-place-preserved
loop-place-preserved g c =
    let x = c.index-values-place.result in
    let old = c.loop-place.findings.items in
    let at = c.index-values-place.is in
    rw c.in_ok-find.ensures
    (in_each_more (g.R.Rule.gives c.args.rule.now) x c.loop-place.place c.args.values.now old c.loop-place-test.true at ∙ c.loop-place.invariant)

pub returns : goal.returns
returns g c =
    let over : length c.args.values.now ≤ c.loop-place.place = omega arith in
    sym (in_each_all (g.R.Rule.gives c.args.rule.now) c.loop-place.place c.args.values.now c.loop-place.findings.items over) ∙ c.loop-place.invariant

use Rattle.std.proofs.Common.{◌≤◌, length, sym, ◌∙◌, arith}
use Rattle.j39_search.specs.ListPlaces.{each, found_if}
use Rattle.j39_search.proofs.AddingLemmas.{refuses, some_in_each}
use Rattle.j39_search.proofs.PlaceLemmas.{each_all, each_more}
use Rattle.j39_search.proofs.rules.find_tested.Goals as goal

pub returns-in_err-push_if : goal.returns-in_err-push_if
unfolding each
returns-in_err-push_if g c =
    let test = g.R.TestRule.test c.args.rule.now in
    let make = g.R.TestRule.make c.args.rule.now in
    let some = rw (c.holds.ensures, c.finding.ensures) at c.in_err-push_if.ensures in
    let x = c.index-values-place.result in
    let at = c.index-values-place.is in
    refuses _ _ _ _ _ c.from_residual.ensures.1
    (some_in_each (λ k y. found_if (test y) (make k)) c.args.values.now c.loop-place.place x c.loop-place-test.true at some)

pub loop-place-preserved : goal.loop-place-preserved
loop-place-preserved g c =
    let test = g.R.TestRule.test c.args.rule.now in
    let make = g.R.TestRule.make c.args.rule.now in
    let x = c.index-values-place.result in
    let old = c.loop-place.findings.items in
    let at = c.index-values-place.is in
    rw (c.in_ok-push_if.ensures, c.holds.ensures, c.finding.ensures)
    (each_more test make x c.loop-place.place c.args.values.now old c.loop-place-test.true at ∙ c.loop-place.invariant)

pub returns : goal.returns
returns g c =
    let test = g.R.TestRule.test c.args.rule.now in
    let make = g.R.TestRule.make c.args.rule.now in
    let over : length c.args.values.now ≤ c.loop-place.place = omega arith in
    sym (each_all test make c.loop-place.place c.args.values.now c.loop-place.findings.items over) ∙ c.loop-place.invariant

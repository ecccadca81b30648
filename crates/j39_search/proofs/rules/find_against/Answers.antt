use Rattle.std.proofs.Common.{◌≤◌, length, sym, ◌∙◌, arith}
use Rattle.j39_search.proofs.AddingLemmas.{refuses, some_against}
use Rattle.j39_search.proofs.PlaceLemmas.{each_more, each_all}
use Rattle.j39_search.proofs.rules.find_against.Goals as goal

pub returns-in_err-push_if : goal.returns-in_err-push_if
returns-in_err-push_if g c =
    let some = rw (c.holds.ensures, c.finding.ensures) at c.in_err-push_if.ensures in
    let make = g.R.PairRule.make c.args.rule.now in
    let xs = c.args.values.now in
    let y = c.index-values-j.result in
    let at = c.index-values-j.is in
    refuses _ _ _ _ _ c.from_residual.ensures.1
    (some_against (g.R.PairRule.test c.args.rule.now) make c.args.i c.args.value.now xs c.loop-j.j y (omega arith) c.loop-j-test.true at some)

pub loop-j-preserved : goal.loop-j-preserved
loop-j-preserved g c =
    let test = g.R.PairRule.test c.args.rule.now c.args.value.now in
    let make = g.R.PairRule.make c.args.rule.now c.args.i in
    let y = c.index-values-j.result in
    let old = c.loop-j.findings.items in
    let at = c.index-values-j.is in
    rw (c.in_ok-push_if.ensures, c.holds.ensures, c.finding.ensures)
    (each_more test make y c.loop-j.j c.args.values.now old c.loop-j-test.true at ∙ c.loop-j.invariant)

pub returns : goal.returns
returns g c =
    let over : length c.args.values.now ≤ c.loop-j.j = omega arith in
    let test = g.R.PairRule.test c.args.rule.now c.args.value.now in
    let make = g.R.PairRule.make c.args.rule.now c.args.i in
    sym (each_all test make c.loop-j.j c.args.values.now c.loop-j.findings.items over) ∙ c.loop-j.invariant

use Rattle.std.proofs.Common.{◌≤◌, length, sym, ◌∙◌, arith}
use Rattle.j39_search.proofs.AddingLemmas.{refuses, some_pair}
use Rattle.j39_search.proofs.PlaceLemmas.{in_each_more, in_each_all, after, pairs_is}
use Rattle.j39_search.proofs.rules.find_pairs.Goals as goal

pub returns-in_err-find_against : goal.returns-in_err-find_against
returns-in_err-find_against g c =
    let make = g.R.PairRule.make c.args.rule.now in
    let x = c.index-values-i.result in
    let at = c.index-values-i.is in
    refuses _ _ _ _ _ c.from_residual.ensures.1
    (some_pair (g.R.PairRule.test c.args.rule.now) make c.args.values.now c.loop-i.i x c.loop-i-test.true at c.in_err-find_against.ensures)

pub loop-i-preserved : goal.loop-i-preserved
loop-i-preserved g c =
    let find = after (g.R.PairRule.test c.args.rule.now) (g.R.PairRule.make c.args.rule.now) c.args.values.now in
    let x = c.index-values-i.result in
    let old = c.loop-i.findings.items in
    let at = c.index-values-i.is in
    rw c.in_ok-find_against.ensures
    (in_each_more find x c.loop-i.i c.args.values.now old c.loop-i-test.true at ∙ c.loop-i.invariant)

pub returns : goal.returns
returns g c =
    let over : length c.args.values.now ≤ c.loop-i.i = omega arith in
    let find = after (g.R.PairRule.test c.args.rule.now) (g.R.PairRule.make c.args.rule.now) c.args.values.now in
    rw (pairs_is (g.R.PairRule.test c.args.rule.now) (g.R.PairRule.make c.args.rule.now) c.args.values.now)
    (sym (in_each_all find c.loop-i.i c.args.values.now c.loop-i.findings.items over) ∙ c.loop-i.invariant)

use Rattle.std.proofs.Common.{◌≡◌, ◌++◌, drop}
use Rattle.j39_search.specs.ListPlaces.{in_each}
use Rattle.j39_search.proofs.PlaceLemmas.{after}
use Rattle.j39_search.proofs.rules.find_pairs.Given as goal

abbrev pub invariant-loop-i : goal.invariant-loop-i
invariant-loop-i g l = l.findings.items ++ in_each (after (g.R.PairRule.test l.rule) (g.R.PairRule.make l.rule) l.values) l.i (drop l.i l.values)
    ≡ l.initial.findings.items ++ in_each (after (g.R.PairRule.test l.rule) (g.R.PairRule.make l.rule) l.values) 0 l.values

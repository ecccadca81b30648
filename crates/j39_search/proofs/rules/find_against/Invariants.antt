use Rattle.std.proofs.Common.{◌≡◌, ◌+◌, ◌++◌, drop}
use Rattle.j39_search.specs.ListPlaces.{each}
use Rattle.j39_search.proofs.rules.find_against.Given as goal

abbrev pub invariant-loop-j : goal.invariant-loop-j
invariant-loop-j g l = l.findings.items ++ each (g.R.PairRule.test l.rule l.value) (g.R.PairRule.make l.rule l.i) l.j (drop l.j l.values)
    ≡ l.initial.findings.items ++ each (g.R.PairRule.test l.rule l.value) (g.R.PairRule.make l.rule l.i) (l.i + 1) (drop (l.i + 1) l.values)

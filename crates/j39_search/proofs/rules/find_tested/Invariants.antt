use Rattle.std.proofs.Common.{◌≡◌, ◌++◌, drop}
use Rattle.j39_search.specs.ListPlaces.{each}
use Rattle.j39_search.proofs.rules.find_tested.Given as goal

abbrev pub invariant-loop-place : goal.invariant-loop-place
invariant-loop-place g l =
    l.findings.items ++ each (g.R.TestRule.test l.rule) (g.R.TestRule.make l.rule) l.place (drop l.place l.values)
    ≡ l.initial.findings.items ++ each (g.R.TestRule.test l.rule) (g.R.TestRule.make l.rule) 0 l.values

use Rattle.std.proofs.Common.{◌≡◌, ◌++◌, drop}
use Rattle.j39_search.specs.ListPlaces.{in_each}
use Rattle.j39_search.proofs.rules.find_each.Given as goal

abbrev pub invariant-loop-place : goal.invariant-loop-place
invariant-loop-place g l = l.findings.items ++ in_each (g.R.Rule.gives l.rule) l.place (drop l.place l.values)
    ≡ l.initial.findings.items ++ in_each (g.R.Rule.gives l.rule) 0 l.values

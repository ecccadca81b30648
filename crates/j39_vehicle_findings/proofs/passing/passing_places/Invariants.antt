use Rattle.std.proofs.Common.{◌≡◌, ◌++◌, drop}
use Rattle.j39_search.specs.ListPlaces.{each}
use Rattle.j39_vehicle_findings.proofs.passing.passing_places.Given as goal

abbrev pub invariant-loop-place : goal.invariant-loop-place
invariant-loop-place g l = l.places.items ++ each (g.R.PlaceTest.passes l.test) (λ i. i) l.place (drop l.place l.values)
    ≡ each (g.R.PlaceTest.passes l.test) (λ i. i) 0 l.values

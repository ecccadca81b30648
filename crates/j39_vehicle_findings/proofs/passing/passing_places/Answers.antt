use Rattle.std.proofs.Common.{◌≤◌, length, sym, ◌∙◌, arith}
use Rattle.j39_search.proofs.PlaceLemmas.{each_all, each_more}
use Rattle.j39_vehicle_findings.proofs.passing.passing_places.Goals as goal

pub loop-place-preserved : goal.loop-place-preserved
loop-place-preserved g c =
    let test = g.R.PlaceTest.passes c.args.test.now in
    let x = c.index-values-place.result in
    let old = c.loop-place.places.items in
    let at = c.index-values-place.is in
    rw (c.in_ok-keep_if.ensures, c.holds.ensures)
    (each_more test (λ i. i) x c.loop-place.place c.args.values.now old c.loop-place-test.true at ∙ c.loop-place.invariant)

pub returns-clause-places : goal.returns-clause-places
returns-clause-places g c =
    let test = g.R.PlaceTest.passes c.args.test.now in
    let over : length c.args.values.now ≤ c.loop-place.place = omega arith in
    sym (each_all test (λ i. i) c.loop-place.place c.args.values.now c.loop-place.places.items over) ∙ c.loop-place.invariant

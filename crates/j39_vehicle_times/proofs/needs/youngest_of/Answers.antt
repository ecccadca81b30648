use Rattle.std.proofs.Common.{◌≤◌, ◌+◌, [], length, drop, sym, ap, ◌∙◌, arith}
use Rattle.j39_search.specs.ListPlaces.{in_each}
use Rattle.j39_search.proofs.PlaceLemmas.{in_each_all, in_each_more}
use Rattle.j39_vehicle_times.specs.FoundTimes.{joined, need_flows_at, youngest}
use Rattle.j39_vehicle_times.proofs.Youngest.{joined_assoc, joined_none, youngest_append}
use Rattle.j39_vehicle_times.proofs.needs.youngest_of.Goals as goal

pub loop-place-preserved : goal.loop-place-preserved
loop-place-preserved c =
    let find = need_flows_at c.args.routes.now.vehicle.now c.args.delays.now c.args.need.now in
    let flows = c.args.flows.now in
    let place = c.loop-place.place in
    let x = c.index-flows-place.result in
    let best = c.loop-place.best in
    let rest = in_each find (place + 1) (drop (place + 1) flows) in
    let more = in_each_more find x place flows [] c.loop-place-test.true c.index-flows-place.is in
    ap (λ b. joined b (youngest rest)) c.joined_with-best.ensures
    ∙ joined_assoc best (youngest (find place x)) (youngest rest)
    ∙ ap (joined best) (sym (youngest_append (find place x) rest) ∙ ap youngest more)
    ∙ c.loop-place.invariant

pub returns : goal.returns
returns c =
    let find = need_flows_at c.args.routes.now.vehicle.now c.args.delays.now c.args.need.now in
    let over : length c.args.flows.now ≤ c.loop-place.place = omega arith in
    sym (joined_none c.loop-place.best)
    ∙ ap (λ xs. joined c.loop-place.best (youngest xs)) (sym (in_each_all find c.loop-place.place c.args.flows.now [] over))
    ∙ c.loop-place.invariant

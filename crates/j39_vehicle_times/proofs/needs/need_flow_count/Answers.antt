use Rattle.std.proofs.Common.{ℕ, List, ◌≡◌, ◌+◌, [], length, drop, true, false, sym, ap, ◌∙◌, arith}
use Rattle.std.proofs.lemmas.List.{length-append}
use Rattle.j39_search.specs.ListPlaces.{found_if, in_each}
use Rattle.j39_search.proofs.PlaceLemmas.{in_each_all, in_each_more}
use Rattle.j39_network.specs.declared.plan.flow_plan.FlowPlan.{FlowPlan}
use Rattle.j39_vehicle_findings.specs.Buses.{flows_on}
use Rattle.j39_vehicle_findings.specs.FoundPaths.{is_need_flow}
use Rattle.j39_vehicle_findings.specs.Traces.{flows_of_need}
use Rattle.j39_vehicle_times.specs.FoundTimes.{need_places_at}
use Rattle.j39_vehicle_times.proofs.needs.need_flow_count.Goals.{then-is_need_flow, else-is_need_flow}
use Rattle.j39_vehicle_times.proofs.needs.need_flow_count.Goals as goal

pub loop-place-preserved : goal.loop-place-preserved
loop-place-preserved c =
    let v = c.args.routes.now.vehicle.now in
    let find = need_places_at v c.args.need.now in
    let flows = c.flows_on-flows.result.now in
    let place = c.loop-place.place in
    let x = c.index-flows-place.result in
    let rest : List ℕ = in_each find (place + 1) (drop (place + 1) flows) in
    let more = in_each_more find x place flows [] c.loop-place-test.true c.index-flows-place.is in
    let whole : length (find place x) + length rest ≡ length (in_each find place (drop place flows)) =
    sym (length-append (find place x) rest) ∙ ap (λ (xs : List ℕ). length xs) more in
    elim (c.if-is_need_flow.branch) [
      | then-is_need_flow w ↦
          let yes : is_need_flow v c.args.need.now place x ≡ true = cc in
          let one : length (find place x) ≡ 1 = ap (λ b. length (found_if b place)) yes in
          let counted : c.if-is_need_flow.count ≡ c.loop-place.count + 1 = w.count-is in
          record {
            total = omega (arith, whole, one, counted, c.loop-place.invariant.total);
            few = omega (arith, counted, c.loop-place.invariant.few);
          }
      | else-is_need_flow w ↦
          let no : is_need_flow v c.args.need.now place x ≡ false = cc in
          let none : length (find place x) ≡ 0 = ap (λ b. length (found_if b place)) no in
          let counted : c.if-is_need_flow.count ≡ c.loop-place.count = w.count-is in
          record {
            total = omega (arith, whole, none, counted, c.loop-place.invariant.total);
            few = omega (arith, counted, c.loop-place.invariant.few);
          }
    ]

pub returns : goal.returns
returns c =
    let v = c.args.routes.now.vehicle.now in
    let need = c.args.need.now in
    let find = need_places_at v need in
    let flows = c.flows_on-flows.result.now in
    let none = in_each_all find c.loop-place.place flows [] c.loop-place-test.false in
    let no_more : length (in_each find c.loop-place.place (drop c.loop-place.place flows)) ≡ 0 = ap (λ (xs : List ℕ). length xs) none in
    let same : flows ≡ flows_of_need v need = c.flows_on-flows.ensures ∙ ap (λ bs. flows_on bs need.unit.bus) c.deref.ensures.value in
    let all : c.loop-place.count ≡ length (in_each find 0 flows) = omega (arith, no_more, c.loop-place.invariant.total) in
    all ∙ ap (λ (fs : List FlowPlan). length (in_each find 0 fs)) same

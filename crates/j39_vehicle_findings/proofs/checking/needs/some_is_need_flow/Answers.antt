use Rattle.std.proofs.Common.{◌≡◌, ◌≤◌, length, true, false, sym, ◌∙◌, arith}
use Rattle.j39_vehicle_findings.specs.FoundPaths.{is_need_flow}
use Rattle.j39_vehicle_findings.proofs.Searching.{some_at_end, some_at_here, some_at_more}
use Rattle.j39_vehicle_findings.proofs.checking.needs.some_is_need_flow.Goals as goal

pub returns-then-is_need_flow : goal.returns-then-is_need_flow
returns-then-is_need_flow c =
    let test = is_need_flow c.args.routes.now.vehicle.now c.args.need.now in
    let x = c.index-flows-place.result in
    let passes : test c.loop-place.place x ≡ true = cc in
    let at = c.index-flows-place.is in
    sym (some_at_here test x c.loop-place.place c.args.flows.now c.loop-place-test.true at passes) ∙ c.loop-place.invariant

pub loop-place-preserved : goal.loop-place-preserved
loop-place-preserved c =
    let test = is_need_flow c.args.routes.now.vehicle.now c.args.need.now in
    let x = c.index-flows-place.result in
    let fails : test c.loop-place.place x ≡ false = cc in
    let at = c.index-flows-place.is in
    some_at_more test x c.loop-place.place c.args.flows.now c.loop-place-test.true at fails ∙ c.loop-place.invariant

pub returns : goal.returns
returns c =
    let test = is_need_flow c.args.routes.now.vehicle.now c.args.need.now in
    let over : length c.args.flows.now ≤ c.loop-place.place = omega arith in
    sym (some_at_end test c.loop-place.place c.args.flows.now over) ∙ c.loop-place.invariant

use Rattle.std.proofs.Common.{◌≡◌, Some, None, sym, ◌∙◌}
use Rattle.j39_vehicle_times.specs.Times.{direct_feeder, unasked_at}
use Rattle.j39_vehicle_times.specs.inside.Chains.{direct_place}
use Rattle.j39_vehicle_times.proofs.Feeding.{feeder_at, no_feeder}
use Rattle.j39_vehicle_times.proofs.Hops.{interval_here, interval_no_further, interval_unknown}
use Rattle.j39_vehicle_times.proofs.chains.last_interval.Goals as goal

pub returns-in_default-clause-value : goal.returns-in_default-clause-value
returns-in_default-clause-value c =
    let v = c.args.routes.now.vehicle.now in
    let none : unasked_at v c.args.at ≡ None = cc in
    sym (interval_unknown v 0 c.args.at none)

pub returns-in-None-clause-value : goal.returns-in-None-clause-value
returns-in-None-clause-value c =
    let v = c.args.routes.now.vehicle.now in
    let flow = c.in-Some.flow in
    let is : unasked_at v c.args.at ≡ Some flow = cc in
    let unfed : direct_place v c.args.at ≡ None = cc in
    let none : direct_feeder v c.args.at ≡ None = no_feeder v c.args.at unfed in
    c.pause_on.ensures.value ∙ sym (interval_here v 0 c.args.at flow is none)

pub returns-in-Some-direct_place-clause-value : goal.returns-in-Some-direct_place-clause-value
returns-in-Some-direct_place-clause-value c =
    let v = c.args.routes.now.vehicle.now in
    let flow = c.in-Some.flow in
    let is : unasked_at v c.args.at ≡ Some flow = cc in
    let place = c.in-Some-direct_place._forward in
    let fed : direct_place v c.args.at ≡ Some place = cc in
    let feeder = feeder_at v c.args.at place fed in
    sym (interval_no_further v c.args.at flow feeder.forward is feeder.feeds)

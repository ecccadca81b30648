use Rattle.std.proofs.Common.{◌≡◌, Some, None, sym, ap, ◌∙◌}
use Rattle.j39_vehicle_times.specs.Times.{direct_feeder, sum_known}
use Rattle.j39_vehicle_times.specs.inside.Chains.{direct_place}
use Rattle.j39_vehicle_times.proofs.Feeding.{feeder_at, no_feeder}
use Rattle.j39_vehicle_times.proofs.Hops.{behind_here, behind_no_further}
use Rattle.j39_vehicle_times.proofs.chains.last_behind.Goals as goal

pub returns-in-None-clause-value : goal.returns-in-None-clause-value
returns-in-None-clause-value c =
    let v = c.args.routes.now.vehicle.now in
    let d = c.args.delays.now in
    let unfed : direct_place v c.args.at ≡ None = cc in
    let none : direct_feeder v c.args.at ≡ None = no_feeder v c.args.at unfed in
    c.first_behind.ensures.value ∙ ap (sum_known (Some c.args.hops)) (sym (behind_here v d 0 c.args.at none))

pub returns-in-Some-clause-value : goal.returns-in-Some-clause-value
returns-in-Some-clause-value c =
    let v = c.args.routes.now.vehicle.now in
    let fed : direct_place v c.args.at ≡ Some c.in-Some._forward = cc in
    let feeder = feeder_at v c.args.at c.in-Some._forward fed in
    sym (behind_no_further v c.args.delays.now c.args.hops c.args.at feeder.forward feeder.feeds)

use Rattle.std.proofs.Common.{◌≡◌, ◌-◌, ◌<◌, length, Some, None, sym, ap, ◌∙◌, arith}
use Rattle.j39_vehicle_times.specs.Times.{direct_feeder, first_input_at, interval_by, unasked_at}
use Rattle.j39_vehicle_times.specs.inside.Chains.{direct_place, input_by}
use Rattle.j39_vehicle_times.proofs.Feeding.{feeder_at, input_of, no_feeder}
use Rattle.j39_vehicle_times.proofs.Hops.{interval_further, interval_here, interval_unknown, interval_without_input}
use Rattle.j39_vehicle_times.proofs.chains.interval.Goals as goal

pub returns-in_default-clause-value : goal.returns-in_default-clause-value
returns-in_default-clause-value c =
    let v = c.args.routes.now.vehicle.now in
    let none : unasked_at v c.chain.at ≡ None = cc in
    sym (interval_unknown v (length v.forwards.items - c.chain._step) c.chain.at none) ∙ c.chain.invariant

pub returns-in_default-direct_place-clause-value : goal.returns-in_default-direct_place-clause-value
returns-in_default-direct_place-clause-value c =
    let v = c.args.routes.now.vehicle.now in
    let flow = c.in-Some.flow in
    let is : unasked_at v c.chain.at ≡ Some flow = cc in
    let unfed : direct_place v c.chain.at ≡ None = cc in
    let none : direct_feeder v c.chain.at ≡ None = no_feeder v c.chain.at unfed in
    c.pause_on.ensures.value ∙ sym (interval_here v (length v.forwards.items - c.chain._step) c.chain.at flow is none) ∙ c.chain.invariant

pub returns-in_default-input_by-clause-value : goal.returns-in_default-input_by-clause-value
returns-in_default-input_by-clause-value c =
    let v = c.args.routes.now.vehicle.now in
    let flow = c.in-Some.flow in
    let place = c.in-Some-direct_place.forward in
    let fed : direct_place v c.chain.at ≡ Some place = cc in
    let feeder = feeder_at v c.chain.at place fed in
    let n = feeder.forward in
    let is : unasked_at v c.chain.at ≡ Some flow = cc in
    let no_input : input_by v place ≡ None = cc in
    let none : first_input_at v n ≡ None = sym (input_of v place c.chain.at feeder) ∙ no_input in
    let less : c.chain._step < length v.forwards.items = omega arith in
    sym (interval_without_input v (length v.forwards.items) c.chain._step c.chain.at flow n less is feeder.feeds none) ∙ c.chain.invariant

pub chain-preserved : goal.chain-preserved
chain-preserved c =
    let v = c.args.routes.now.vehicle.now in
    let flow = c.in-Some.flow in
    let place = c.in-Some-direct_place.forward in
    let fed : direct_place v c.chain.at ≡ Some place = cc in
    let feeder = feeder_at v c.chain.at place fed in
    let n = feeder.forward in
    let heard = c.in-Some-input_by.heard in
    let is : unasked_at v c.chain.at ≡ Some flow = cc in
    let some_input : input_by v place ≡ Some heard = cc in
    let from : first_input_at v n ≡ Some heard = sym (input_of v place c.chain.at feeder) ∙ some_input in
    let less : c.chain._step < length v.forwards.items = omega arith in
    interval_further v (length v.forwards.items) c.chain._step c.chain.at heard flow n less is feeder.feeds from ∙ c.chain.invariant

pub returns-clause-value : goal.returns-clause-value
returns-clause-value c =
    let v = c.args.routes.now.vehicle.now in
    let over : length v.forwards.items - c.chain._step ≡ 0 = omega arith in
    c.last_interval.ensures.value ∙ sym (ap (λ k. interval_by v k c.chain.at) over) ∙ c.chain.invariant

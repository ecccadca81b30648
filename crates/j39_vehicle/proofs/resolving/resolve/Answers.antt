use Rattle.j39_vehicle.proofs.FoundPlaces.{gateway_units, forward_places, need_places}
use Rattle.j39_vehicle.proofs.resolving.resolve.Goals as goal

pub invariant_of-result-clause-gateway_count : goal.invariant_of-result-clause-gateway_count
invariant_of-result-clause-gateway_count c = rw (c.in_ok-gateways.ensures.count, c.as_slice-tables.ensures.value) c.args.file.now.gateway_count

pub invariant_of-result-clause-gateway_units : goal.invariant_of-result-clause-gateway_units
invariant_of-result-clause-gateway_units c = gateway_units _ _ _ (rw c.as_slice-plans.ensures.value at c.in_ok-gateways.ensures.gives.1)

pub invariant_of-result-clause-forward_places : goal.invariant_of-result-clause-forward_places
invariant_of-result-clause-forward_places c = forward_places _ _ _ _ _ (rw c.as_slice-tables.ensures.value at c.in_ok-gateways.ensures.count)
    (rw (c.as_slice-plans.ensures.value, c.as_slice-tables.ensures.value) at c.in_ok-forwards.ensures.gives.1)

pub invariant_of-result-clause-need_places : goal.invariant_of-result-clause-need_places
invariant_of-result-clause-need_places c = need_places _ _ _ (rw c.as_slice-plans.ensures.value at c.in_ok-needs.ensures.gives.1)

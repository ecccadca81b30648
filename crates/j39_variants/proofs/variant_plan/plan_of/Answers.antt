use Rattle.j39_network.specs.PlanLimits.{flow_limit, need_limit, request_limit}
use Rattle.j39_variants.specs.VariantPlans.{flags, group_places, moved_flow, moved_need, moved_request, unit_places}
use Rattle.j39_variants.proofs.Derived.{AreFlows, AreGroups, AreNeeds, AreRequests, AreUnits, few_groups, few_moved, few_units, flows_inside, groups_of_needs}
use Rattle.j39_variants.proofs.Derived.{labels_of_groups}
use Rattle.j39_variants.proofs.Derived.{labels_of_units, requests_inside, senders_of_needs, signals_of_needs, units_of_needs}
use Rattle.j39_variants.proofs.variant_plan.plan_of.Goals as goal

pub invariant_of-result : goal.invariant_of-result
invariant_of-result c =
    let line = c.args.line.now in
    let v = c.args.variant.now in
    let us = c.in_ok-units.units.items in
    let gs = c.in_ok-groups.groups.items in
    let fs = c.in_ok-flows.flows.items in
    let ds = c.in_ok-needs.needs.items in
    let rs = c.in_ok-requests.requests.items in
    let there = rw c.deref.ensures.value at c.in_ok-units_there.ensures in
    let groups_there = rw c.deref-2.ensures.value at c.in_ok-groups_there.ensures in
    let unit_places_are = rw (c.deref-3.ensures.value, there) at c.in_ok-unit_places.ensures in
    let group_places_are = rw (c.deref-4.ensures.value, groups_there) at c.in_ok-group_places.ensures in
    let units : AreUnits c.args.line.now c.args.variant.now c.in_ok-units.units.items =
    rw (c.deref-5.ensures.value, there, c.deref-6.ensures.value) at c.in_ok-units.ensures in
    let groups : AreGroups c.args.line.now c.args.variant.now c.in_ok-groups.groups.items =
    rw (c.deref-7.ensures.value, groups_there, c.deref-8.ensures.value) at c.in_ok-groups.ensures in
    let flows : AreFlows c.args.line.now c.args.variant.now c.in_ok-flows.flows.items =
    rw (c.deref-9.ensures.value, c.deref-10.ensures.value, c.deref-11.ensures.value, unit_places_are, c.deref-12.ensures.value, group_places_are) at
    c.in_ok-flows.ensures in
    let needs : AreNeeds c.args.line.now c.args.variant.now c.in_ok-needs.needs.items =
    rw (c.deref-13.ensures.value, c.deref-14.ensures.value, c.deref-15.ensures.value, unit_places_are, c.deref-16.ensures.value, group_places_are) at
    c.in_ok-needs.ensures in
    let requests : AreRequests c.args.line.now c.args.variant.now c.in_ok-requests.requests.items =
    rw (c.deref-17.ensures.value, c.deref-18.ensures.value, c.deref-19.ensures.value, unit_places_are, c.deref-20.ensures.value, group_places_are) at
    c.in_ok-requests.ensures in
    let flows_there = flows_inside line v us gs units groups fs flows in
    let requests_there = requests_inside line v us gs units groups rs requests in
    record {
      keep_free_range = rw c.copy.ensures line.plan.keep_free_range;
      strangers_range = line.plan.strangers_range;
      unit_count = few_units line v us units;
      group_count = few_groups line v gs groups;
      flow_count =
          few_moved line v (moved_flow (unit_places line v) (group_places line v)) (flags v line.lists.flows.items) line.plan.flows.items fs flow_limit flows
          line.plan.flow_count;
      need_count =
          few_moved line v (moved_need (unit_places line v) (group_places line v)) (flags v line.lists.needs.items) line.plan.needs.items ds need_limit needs
          line.plan.need_count;
      request_count =
          few_moved line v (moved_request (unit_places line v) (group_places line v))
          (flags v line.lists.requests.items) line.plan.requests.items rs request_limit
          requests line.plan.request_count;
      unit_labels = labels_of_units line v us units;
      group_labels = labels_of_groups line v gs groups;
      flow_groups = flows_there.groups;
      flow_senders = flows_there.senders;
      flow_receivers = flows_there.receivers;
      need_units = units_of_needs line v us gs units groups ds needs;
      need_groups = groups_of_needs line v us gs units groups ds needs;
      need_signals = signals_of_needs line v us gs units groups ds needs;
      need_senders = senders_of_needs line v us gs units groups ds needs;
      request_groups = requests_there.groups;
      request_senders = requests_there.senders;
      request_receivers = requests_there.receivers;
    }

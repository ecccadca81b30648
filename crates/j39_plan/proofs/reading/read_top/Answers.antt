use Rattle.std.proofs.Common.{refl, inl, inr, Ok, Err}
use Rattle.std.proofs.lemmas.Result.{err_from_is_err_and}
use Rattle.j39_id.specs.Limits.{unit_limit}
use Rattle.j39_network.specs.PlanLimits.{flow_limit, group_limit}
use Rattle.j39_plan.specs.declared.reading.key.Key.TheVariants as key
use Rattle.j39_toml.proofs.FirstFaults.{fails_on, first-append}
use Rattle.j39_plan.proofs.NoFaults.{tables_count, length-Each}
use Rattle.j39_plan.proofs.ReadTops.{are_read, units_read, units_stated, groups_stated, flows_given, needs_given, requests_given}
use Rattle.j39_plan.proofs.ReadPlans.{IsBetween, all_placed, units_apart, groups_apart, flow_receivers}
use Rattle.j39_plan.proofs.ReadNeeds.{IsAmong, needs_count, need_signals, need_senders}
use Rattle.j39_plan.proofs.ReadRequests.{IsAsked, requests_count, request_receivers}
use Rattle.j39_plan.proofs.reading.read_top.Goals as goal

pub returns-in_err-units : goal.returns-in_err-units
returns-in_err-units c =
    let p = err_from_is_err_and c.from_residual-in_err-units.result c.from_residual-in_err-units.ensures.1 in
    let fails = rw (c.in_ok-top.ensures.gives.1.has_units, c.version_of-version.ensures) at c.in_err-units.ensures.gives in
    rw (p.1, p.2, c.in_ok-top.ensures.gives.0)
    (fails_on _ _ c.in_err-units.field-0.0 _ _ (λ grows. (refl, inl grows)) (λ f is. first-append _ _ f is) fails)

pub returns-in_err-groups : goal.returns-in_err-groups
returns-in_err-groups c =
    let p = err_from_is_err_and c.from_residual-in_err-groups.result c.from_residual-in_err-groups.ensures.1 in
    let units = units_read c.in_ok-units.units.items c.in_ok-top.ensures.gives.1 c.version_of-version.ensures c.in_ok-units.ensures.gives in
    let fails = rw (c.in_ok-top.ensures.gives.1.has_groups, c.version_of-version.ensures) at c.in_err-groups.ensures.gives in
    rw (p.1, p.2, c.in_ok-top.ensures.gives.0, units.0)
    (fails_on _ _ c.in_err-groups.field-0.0 _ _ (λ grows. (refl, inr (refl, inl grows))) (λ f is. first-append _ _ f is) fails)

pub returns-in_err-flows : goal.returns-in_err-flows
returns-in_err-flows c =
    let p = err_from_is_err_and c.from_residual-in_err-flows.result c.from_residual-in_err-flows.ensures.1 in
    let read = are_read c.in_ok-top.ensures.gives.1 c.version_of-version.ensures c.in_ok-units.ensures.gives c.in_ok-groups.ensures.gives in
    let fails = flows_given read (Err c.in_err-flows.field-0.0) (rw (c.deref.ensures.value, c.deref-2.ensures.value) at c.in_err-flows.ensures.gives) in
    rw (p.1, p.2, c.in_ok-top.ensures.gives.0, (units_stated read).0, (groups_stated read).0)
    (fails_on _ _ c.in_err-flows.field-0.0 _ _ (λ grows. (refl, inr (refl, inr (refl, inl grows)))) (λ f is. first-append _ _ f is) fails)

pub returns-in_err-needs : goal.returns-in_err-needs
returns-in_err-needs c =
    let p = err_from_is_err_and c.from_residual-in_err-needs.result c.from_residual-in_err-needs.ensures.1 in
    let read = are_read c.in_ok-top.ensures.gives.1 c.version_of-version.ensures c.in_ok-units.ensures.gives c.in_ok-groups.ensures.gives in
    let flows = flows_given read (Ok c.in_ok-flows.flows.items) (rw (c.deref.ensures.value, c.deref-2.ensures.value) at c.in_ok-flows.ensures.gives) in
    let fails = needs_given read (Err c.in_err-needs.field-0.0) (rw (c.deref-3.ensures.value, c.deref-4.ensures.value) at c.in_err-needs.ensures.gives) in
    rw (p.1, p.2, c.in_ok-top.ensures.gives.0, (units_stated read).0, (groups_stated read).0, flows.0)
    (fails_on _ _ c.in_err-needs.field-0.0 _ _ (λ grows. (refl, inr (refl, inr (refl, inr (refl, inl grows))))) (λ f is. first-append _ _ f is) fails)

pub returns-in_err-requests : goal.returns-in_err-requests
returns-in_err-requests c =
    let p = err_from_is_err_and c.from_residual-in_err-requests.result c.from_residual-in_err-requests.ensures.1 in
    let read = are_read c.in_ok-top.ensures.gives.1 c.version_of-version.ensures c.in_ok-units.ensures.gives c.in_ok-groups.ensures.gives in
    let flows = flows_given read (Ok c.in_ok-flows.flows.items) (rw (c.deref.ensures.value, c.deref-2.ensures.value) at c.in_ok-flows.ensures.gives) in
    let needs = needs_given read (Ok c.in_ok-needs.needs.items) (rw (c.deref-3.ensures.value, c.deref-4.ensures.value) at c.in_ok-needs.ensures.gives) in
    let fails =
    requests_given read (Err c.in_err-requests.field-0.0) (rw (c.deref-5.ensures.value, c.deref-6.ensures.value) at c.in_err-requests.ensures.gives) in
    rw (p.1, p.2, c.in_ok-top.ensures.gives.0, (units_stated read).0, (groups_stated read).0, flows.0, needs.0)
    (fails_on _ _ c.in_err-requests.field-0.0 _ _ (λ grows. (refl, inr (refl, inr (refl, inr (refl, inr (refl, grows)))))) (λ f is. is) fails)

pub invariant_of-result-clause-unit_count : goal.invariant_of-result-clause-unit_count
invariant_of-result-clause-unit_count c =
    rw (length-Each _ _ _ c.in_ok-units.ensures.gives.1, c.in_ok-top.ensures.gives.1.has_units) (tables_count key.Unit unit_limit _)

pub invariant_of-result-clause-group_count : goal.invariant_of-result-clause-group_count
invariant_of-result-clause-group_count c =
    rw (length-Each _ _ _ c.in_ok-groups.ensures.gives.1, c.in_ok-top.ensures.gives.1.has_groups) (tables_count key.Group group_limit _)

pub invariant_of-result-clause-flow_count : goal.invariant_of-result-clause-flow_count
invariant_of-result-clause-flow_count c =
    rw (length-Each _ _ _ c.in_ok-flows.ensures.gives.1, c.in_ok-top.ensures.gives.1.has_flows) (tables_count key.Flow flow_limit _)

pub invariant_of-result-clause-need_count : goal.invariant_of-result-clause-need_count
invariant_of-result-clause-need_count c =
    rw (length-Each _ _ _ c.in_ok-needs.ensures.gives.1, c.in_ok-top.ensures.gives.1.has_needs) (needs_count _ _)

pub invariant_of-result-clause-request_count : goal.invariant_of-result-clause-request_count
invariant_of-result-clause-request_count c =
    rw (length-Each _ _ _ c.in_ok-requests.ensures.gives.1, c.in_ok-top.ensures.gives.1.has_requests) (requests_count _ _)

pub invariant_of-result-clause-unit_labels : goal.invariant_of-result-clause-unit_labels
invariant_of-result-clause-unit_labels c = units_apart _ _ _ c.in_ok-units.ensures.gives.1 c.in_ok-units.ensures.gives.0

pub invariant_of-result-clause-group_labels : goal.invariant_of-result-clause-group_labels
invariant_of-result-clause-group_labels c = groups_apart _ _ _ c.in_ok-groups.ensures.gives.1 c.in_ok-groups.ensures.gives.0

pub invariant_of-result-clause-flow_groups : goal.invariant_of-result-clause-flow_groups
invariant_of-result-clause-flow_groups c = all_placed (IsBetween _ _ _) (λ g. g.label.bytes) _ (λ t. t.group) (λ d t is. (_, is.has_group)) _ _
    (rw (c.deref.ensures.value, c.deref-2.ensures.value) at c.in_ok-flows.ensures.gives.1)

pub invariant_of-result-clause-flow_senders : goal.invariant_of-result-clause-flow_senders
invariant_of-result-clause-flow_senders c = all_placed (IsBetween _ _ _) (λ u. u.label.bytes) _ (λ t. t.sender) (λ d t is. (_, is.has_sender)) _ _
    (rw (c.deref.ensures.value, c.deref-2.ensures.value) at c.in_ok-flows.ensures.gives.1)

pub invariant_of-result-clause-flow_receivers : goal.invariant_of-result-clause-flow_receivers
invariant_of-result-clause-flow_receivers c = flow_receivers _ _ _ _ _ (rw (c.deref.ensures.value, c.deref-2.ensures.value) at c.in_ok-flows.ensures.gives.1)

pub invariant_of-result-clause-need_units : goal.invariant_of-result-clause-need_units
invariant_of-result-clause-need_units c = all_placed (IsAmong _ _) (λ u. u.label.bytes) _ (λ t. t.unit) (λ d t is. (_, is.has_unit)) _ _
    (rw (c.deref-3.ensures.value, c.deref-4.ensures.value) at c.in_ok-needs.ensures.gives.1)

pub invariant_of-result-clause-need_groups : goal.invariant_of-result-clause-need_groups
invariant_of-result-clause-need_groups c = all_placed (IsAmong _ _) (λ g. g.label.bytes) _ (λ t. t.group) (λ d t is. (_, is.has_group)) _ _
    (rw (c.deref-3.ensures.value, c.deref-4.ensures.value) at c.in_ok-needs.ensures.gives.1)

pub invariant_of-result-clause-need_signals : goal.invariant_of-result-clause-need_signals
invariant_of-result-clause-need_signals c = need_signals _ _ _ _ (rw (c.deref-3.ensures.value, c.deref-4.ensures.value) at c.in_ok-needs.ensures.gives.1)

pub invariant_of-result-clause-need_senders : goal.invariant_of-result-clause-need_senders
invariant_of-result-clause-need_senders c = need_senders _ _ _ _ (rw (c.deref-3.ensures.value, c.deref-4.ensures.value) at c.in_ok-needs.ensures.gives.1)

pub invariant_of-result-clause-request_groups : goal.invariant_of-result-clause-request_groups
invariant_of-result-clause-request_groups c = all_placed (IsAsked _ _) (λ g. g.label.bytes) _ (λ t. t.group) (λ d t is. (_, is.has_group)) _ _
    (rw (c.deref-5.ensures.value, c.deref-6.ensures.value) at c.in_ok-requests.ensures.gives.1)

pub invariant_of-result-clause-request_senders : goal.invariant_of-result-clause-request_senders
invariant_of-result-clause-request_senders c = all_placed (IsAsked _ _) (λ u. u.label.bytes) _ (λ t. t.sender) (λ d t is. (_, is.has_sender)) _ _
    (rw (c.deref-5.ensures.value, c.deref-6.ensures.value) at c.in_ok-requests.ensures.gives.1)

pub invariant_of-result-clause-request_receivers : goal.invariant_of-result-clause-request_receivers
invariant_of-result-clause-request_receivers c =
    request_receivers _ _ _ _ (rw (c.deref-5.ensures.value, c.deref-6.ensures.value) at c.in_ok-requests.ensures.gives.1)

pub returns : goal.returns
returns c =
    let top = c.in_ok-top.ensures.gives.1 in
    let read = are_read top c.version_of-version.ensures c.in_ok-units.ensures.gives c.in_ok-groups.ensures.gives in
    let units = units_stated read in
    let groups = groups_stated read in
    let flows = flows_given read (Ok c.in_ok-flows.flows.items) (rw (c.deref.ensures.value, c.deref-2.ensures.value) at c.in_ok-flows.ensures.gives) in
    let needs = needs_given read (Ok c.in_ok-needs.needs.items) (rw (c.deref-3.ensures.value, c.deref-4.ensures.value) at c.in_ok-needs.ensures.gives) in
    let requests =
    requests_given read (Ok c.in_ok-requests.requests.items) (rw (c.deref-5.ensures.value, c.deref-6.ensures.value) at c.in_ok-requests.ensures.gives) in (
      rw (c.in_ok-top.ensures.gives.0, units.0, groups.0, flows.0, needs.0) requests.0,
      record {
        has_keep_free = top.has_keep_free;
        has_strangers = top.has_strangers;
        has_live = top.has_live;
        has_timing = top.has_timing;
        has_units = units.1;
        has_groups = groups.1;
        has_flows = flows.1;
        has_needs = needs.1;
        has_requests = requests.1;
      },
    )

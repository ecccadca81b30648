-- What the conditions of absence ask of a variant is what is asked of its plan.
use Rattle.std.proofs.Common.{◌≡◌, ℕ, ◌==◌, Bool, true, false, not, ◌&&◌, ◌||◌, if◌then◌else◌, List, [], Option, Some, None, refl, sym, ◌∙◌, ap, inl, inr}
use Rattle.std.specs.List.{list_any, slice_get}
use Rattle.std.specs.Option.{option_map_or}
use Rattle.std.proofs.lemmas.Bool.{and_from, and_parts, eqb-true, false≢true, or_cases, or_right}
use Rattle.j39_findings.specs.Found.{goes_unanswered, goes_unheard, is_all_astray, is_answered_astray, is_one_astray, is_private_unsent, is_unmet}
use Rattle.j39_findings.specs.Found.{may_name_receiver}
use Rattle.j39_findings.specs.Found.{sends, serves_all, serves_one}
use Rattle.j39_network.specs.Serving.{is_asked_for, is_from, is_reached, is_to_one, meets, serves, serves_some}
use Rattle.j39_network.specs.declared.plan.Plan.{Plan}
use Rattle.j39_network.specs.declared.plan.flow_plan.FlowPlan.{FlowPlan}
use Rattle.j39_network.specs.declared.plan.group_plan.GroupPlan.{GroupPlan}
use Rattle.j39_network.specs.declared.plan.need_plan.NeedPlan.{NeedPlan}
use Rattle.j39_network.specs.declared.plan.request_plan.RequestPlan.{RequestPlan}
use Rattle.j39_variants.proofs.Places.{flow_parts, request_parts}
use Rattle.j39_variants.specs.declared.line.ProductLine.{ProductLine}
use Rattle.j39_variants.specs.VariantPlans.{flags, group_places, IsCopyOfGroup, IsVariantPlan, moved_flow, moved_need, moved_receivers, moved_request, picked}
use Rattle.j39_variants.specs.VariantPlans.{place_at, unit_places}
use Rattle.j39_line_findings.specs.Conditions.{astray_conditions, meets_any, meets_condition, unmet_condition, unsent_condition, unserved_condition}
use Rattle.j39_line_findings.specs.MissedNeeds.{is_group_there, is_in_at, is_need_asked_for, is_sender_there, is_source_there, is_unit_there}
use Rattle.j39_line_findings.specs.There.{is_flow_there, is_receiver_there, is_request_there, IsPresent}
use Rattle.j39_line_findings.specs.declared.there.Present.{Present}
use Rattle.j39_line_findings.proofs.Tests.{any_at, at_any}
use Rattle.j39_line_laws.proofs.PickedPlaces.{one_test}
use Rattle.j39_line_laws.proofs.InVariant.{are_flows, are_requests, group_named}
use Rattle.j39_line_laws.proofs.Lacking.{all_astray_met, any_unless, any_where, at_flow, at_source, flow_at, is_all_met, is_one_met, is_some_source}
use Rattle.j39_line_laws.proofs.Lacking.{is_some_there}
use Rattle.j39_line_laws.proofs.Lacking.{IsSource, source_at, unmet_met, unsent_met, unserved_met}
use Rattle.j39_line_laws.proofs.TestsAgree.{both, brings_same, may_name_same, on_request_same, sends_same, serves_same, to_one_same}

-- ---- who has a finding is there

module _ (line : ProductLine) (v : List ℕ) where
  pub unsent_there : (k : ℕ) (g : GroupPlan) → meets_any line v (unsent_condition line k g) ≡ true → is_group_there line v k ≡ true
  unsent_there k g met =
      (and_parts (is_group_there line v k) (not (is_some_there line v (sends line.plan.groups.items g)))
      (and_parts g.private (is_group_there line v k && not (is_some_there line v (sends line.plan.groups.items g))) (sym (unsent_met line v k g) ∙ met)).1).0

  unserved_there : (k : ℕ) (r : RequestPlan) → meets_any line v (unserved_condition line k r) ≡ true → is_request_there line v k ≡ true
  unserved_there k r met = (and_parts (is_request_there line v k) (not (is_some_there line v (serves r))) (sym (unserved_met line v k r) ∙ met)).0

  pub unanswered_there : (k : ℕ) (r : RequestPlan) → meets_any line v (if is_to_one r.to then unserved_condition line k r else []) ≡ true
      → is_request_there line v k ≡ true
  unanswered_there k r met = unserved_there k r
      (and_parts (is_to_one r.to) (meets_any line v (unserved_condition line k r))
      (sym (any_where (meets_condition line v) (is_to_one r.to) (unserved_condition line k r)) ∙ met)).1

  pub unheard_there : (k : ℕ) (r : RequestPlan) → meets_any line v (if is_to_one r.to then [] else unserved_condition line k r) ≡ true
      → is_request_there line v k ≡ true
  unheard_there k r met = unserved_there k r
      (and_parts (not (is_to_one r.to)) (meets_any line v (unserved_condition line k r))
      (sym (any_unless (meets_condition line v) (is_to_one r.to) (unserved_condition line k r)) ∙ met)).1

  pub astray_there : (k : ℕ) (r : RequestPlan) → meets_any line v (astray_conditions line k r) ≡ true → is_request_there line v k ≡ true
  astray_there k r met = elim (or_cases (is_one_met line v k r) (is_all_met line v k r) (sym (all_astray_met line v k r) ∙ met)) [
    | inl one ↦ (and_parts (is_request_there line v k) to_all (and_parts (may_name_receiver line.plan.groups.items r) (is_request_there line v k && to_all)
        (and_parts (is_to_one r.to) (may_name_receiver line.plan.groups.items r && (is_request_there line v k && to_all)) one).1).1).0
    | inr all ↦ (and_parts (is_request_there line v k) to_one (and_parts (not (is_to_one r.to)) (is_request_there line v k && to_one) all).1).0
  ]
    where
      to_all : Bool
      to_all = is_some_there line v (serves_all r) && not (is_some_there line v (serves_one r))

      to_one : Bool
      to_one = is_some_there line v (serves_one r) && not (is_some_there line v (serves_all r))

  -- ---- what brings what is needed has the group and the sender of the need

  sender_there : (named : Option ℕ) (sender : ℕ) → is_from named sender ≡ true → is_unit_there line v sender ≡ true → is_sender_there line v named ≡ true
  sender_there None sender from there = refl
  sender_there (Some u) sender from there = ap (is_unit_there line v) (sym (eqb-true sender u from)) ∙ there

  pub source_there : (d : ℕ) (need : NeedPlan) → slice_get line.plan.needs.items d ≡ Some need → is_some_source line v need ≡ true
      → is_source_there line v d ≡ true
  source_there d need at_d some =
      let its = source_at line v need some in
      let flow = its.value in
      let there = ap (λ o. option_map_or (λ (f : FlowPlan). is_in_at v line.lists.flows.items its.k && (is_group_there line v f.group
      && (is_unit_there line v f.sender && is_receiver_there line v f.to))) o false) (sym its.value_is) ∙ its.meets.is_there in
      let ends = (and_parts (is_in_at v line.lists.flows.items its.k) (is_group_there line v flow.group
      && (is_unit_there line v flow.sender && is_receiver_there line v flow.to)) there).1 in
      let (group, others) = and_parts (is_group_there line v flow.group) (is_unit_there line v flow.sender && is_receiver_there line v flow.to) ends in
      let sender = (and_parts (is_unit_there line v flow.sender) (is_receiver_there line v flow.to) others).0 in
      let (of_group, rest) = and_parts (flow.group == need.group) (not (flow.sender == need.unit)
      && (is_from need.from flow.sender && (is_reached flow.to need.unit && true))) its.meets.brings in
      let behind = (and_parts (not (flow.sender == need.unit)) (is_from need.from flow.sender && (is_reached flow.to need.unit && true)) rest).1 in
      let from = (and_parts (is_from need.from flow.sender) (is_reached flow.to need.unit && true) behind).0 in
      ap (λ o. option_map_or (λ (n : NeedPlan). is_group_there line v n.group && is_sender_there line v n.from) o false) at_d
      ∙ and_from (is_group_there line v need.group) (is_sender_there line v need.from)
      (ap (is_group_there line v) (sym (eqb-true flow.group need.group of_group)) ∙ group) (sender_there need.from flow.sender from sender)

-- ---- in the plan of a variant

with_request : (a b c d x : Bool) → (a && (b && (c && (d && x)))) ≡ true → ((a && (b && (c && (d && true)))) ≡ true) × (x ≡ true)
with_request false b c d x all = absurd (false≢true all)
with_request true false c d x all = absurd (false≢true all)
with_request true true false d x all = absurd (false≢true all)
with_request true true true false x all = absurd (false≢true all)
with_request true true true true x all = (refl, all)

by_request : (a b c d x : Bool) → (a && (b && (c && (d && true)))) ≡ true → x ≡ true → (a && (b && (c && (d && x)))) ≡ true
by_request false b c d x brings asked = absurd (false≢true brings)
by_request true false c d x brings asked = absurd (false≢true brings)
by_request true true false d x brings asked = absurd (false≢true brings)
by_request true true true false x brings asked = absurd (false≢true brings)
by_request true true true true x brings asked = asked

module _ (line : ProductLine) (v : List ℕ) (plan : Plan) (is : IsVariantPlan line v plan) (there : Present) (are : IsPresent line v there) where
  abbrev units : List Bool
  units = flags v line.lists.units.items

  abbrev groups : List Bool
  groups = flags v line.lists.groups.items

  abbrev moved : FlowPlan → Option FlowPlan
  moved = moved_flow (unit_places line v) (group_places line v)

  abbrev moved_here : RequestPlan → Option RequestPlan
  moved_here = moved_request (unit_places line v) (group_places line v)

  some_same : (test here : FlowPlan → Bool) → ((f y : FlowPlan) → moved f ≡ Some y → here y ≡ test f)
      → is_some_there line v test ≡ list_any here plan.flows.items
  some_same test here same = one_test _ _
      (λ some.
      let its = flow_at line v test some in
      let goes = (are_flows line v plan is there are).into its.k its.value its.value_is its.meets.1 in
      at_any here plan.flows.items goes.i goes.value goes.value_is (same its.value goes.value goes.comes ∙ its.meets.0))
      (λ some.
      let its = any_at here plan.flows.items some in
      let came = (are_flows line v plan is there are).from its.i its.value its.value_is in
      at_flow line v test came.k came.value came.value_is (sym (same came.value its.value came.comes) ∙ its.passes) came.is_there)

  pub unsent_here : (k : ℕ) (g h : GroupPlan) → IsCopyOfGroup g h → is_group_there line v k ≡ true
      → meets_any line v (unsent_condition line k g) ≡ is_private_unsent plan.groups.items plan.flows.items h
  unsent_here k g h copy here =
      unsent_met line v k g ∙ ap (λ b. g.private && (b && not (is_some_there line v (sends line.plan.groups.items g)))) here
      ∙ both _ _ _ _ (sym copy.private) (ap not (some_same (sends line.plan.groups.items g) (sends plan.groups.items h)
      (λ f y sent. sends_same line.plan.groups.items (picked groups line.plan.groups.items) plan.groups.items is.has_groups g h f y copy
      (group_named line v plan is there are f.group y.group
      (flow_parts f (place_at (group_places line v) f.group) (place_at (unit_places line v) f.sender)
      (moved_receivers (unit_places line v) f.to) y sent).group))))

  -- ---- requests

  module _ (k : ℕ) (r q : RequestPlan) (asked : moved_here r ≡ Some q) (here : is_request_there line v k ≡ true) where
    abbrev to_same : is_to_one q.to ≡ is_to_one r.to
    to_same = to_one_same units groups r.to q.to
        (request_parts r (place_at (group_places line v) r.group) (place_at (unit_places line v) r.sender)
        (moved_receivers (unit_places line v) r.to) q asked).receivers

    answers : (f y : FlowPlan) → moved f ≡ Some y → serves q y ≡ serves r f
    answers f y sent = serves_same units groups r q f y asked sent

    goes_to_one : (f y : FlowPlan) → moved f ≡ Some y → is_to_one y.to ≡ is_to_one f.to
    goes_to_one f y sent = to_one_same units groups f.to y.to
        (flow_parts f (place_at (group_places line v) f.group) (place_at (unit_places line v) f.sender)
        (moved_receivers (unit_places line v) f.to) y sent).receivers

    unserved_here : meets_any line v (unserved_condition line k r) ≡ not (list_any (serves q) plan.flows.items)
    unserved_here = unserved_met line v k r ∙ ap (λ b. b && not (is_some_there line v (serves r))) here ∙ ap not (some_same (serves r) (serves q) answers)

    pub unanswered_here : meets_any line v (if is_to_one r.to then unserved_condition line k r else []) ≡ goes_unanswered plan.flows.items q
    unanswered_here = any_where (meets_condition line v) (is_to_one r.to) (unserved_condition line k r) ∙ both _ _ _ _ (sym to_same) unserved_here

    pub unheard_here : meets_any line v (if is_to_one r.to then [] else unserved_condition line k r) ≡ goes_unheard plan.flows.items q
    unheard_here = any_unless (meets_condition line v) (is_to_one r.to) (unserved_condition line k r) ∙ both _ _ _ _ (ap not (sym to_same)) unserved_here

    one_same : is_some_there line v (serves_one r) ≡ list_any (serves_one q) plan.flows.items
    one_same = some_same (serves_one r) (serves_one q) (λ f y sent. both _ _ _ _ (answers f y sent) (goes_to_one f y sent))

    all_same : is_some_there line v (serves_all r) ≡ list_any (serves_all q) plan.flows.items
    all_same = some_same (serves_all r) (serves_all q) (λ f y sent. both _ _ _ _ (answers f y sent) (ap not (goes_to_one f y sent)))

    may_name : may_name_receiver plan.groups.items q ≡ may_name_receiver line.plan.groups.items r
    may_name = may_name_same line.plan.groups.items (picked groups line.plan.groups.items) plan.groups.items is.has_groups r q
        (group_named line v plan is there are r.group q.group
        (request_parts r (place_at (group_places line v) r.group) (place_at (unit_places line v) r.sender)
        (moved_receivers (unit_places line v) r.to) q asked).group)

    one_here : is_one_met line v k r ≡ is_one_astray plan.groups.items plan.flows.items q
    one_here = both _ _ _ _ (sym to_same) (both _ _ _ _ (sym may_name)
        (ap (λ b. b && (is_some_there line v (serves_all r) && not (is_some_there line v (serves_one r)))) here ∙ both _ _ _ _ all_same (ap not one_same)))

    all_here : is_all_met line v k r ≡ is_all_astray plan.flows.items q
    all_here = both _ _ _ _ (ap not (sym to_same))
        (ap (λ b. b && (is_some_there line v (serves_one r) && not (is_some_there line v (serves_all r)))) here ∙ both _ _ _ _ one_same (ap not all_same))

    pub astray_here : meets_any line v (astray_conditions line k r) ≡ is_answered_astray plan.groups.items plan.flows.items q
    astray_here = all_astray_met line v k r ∙ ap (λ b. b || is_all_met line v k r) one_here
        ∙ ap (λ b. is_one_astray plan.groups.items plan.flows.items q || b) all_here

  -- ---- needs

  module _ (d e : NeedPlan) (needed : moved_need (unit_places line v) (group_places line v) d ≡ Some e) where
    asked_here : (f y : FlowPlan) → moved f ≡ Some y → (k : ℕ) → IsSource line v d k f → is_asked_for plan.requests.items y ≡ true
    asked_here f y sent k source = by f.on_request refl
      where
        by : (o : Bool) → f.on_request ≡ o → is_asked_for plan.requests.items y ≡ true
        by false is_o = ap (λ b. not b || serves_some plan.requests.items y) (on_request_same units groups f y sent ∙ is_o)
        by true is_o =
            let its = source.asked is_o in
            let goes = (are_requests line v plan is there are).into its.k its.value its.value_is its.meets.1 in
            or_right (not y.on_request) (serves_some plan.requests.items y)
            (at_any (λ request. serves request y) plan.requests.items goes.i goes.value goes.value_is
            (serves_same units groups its.value goes.value f y goes.comes sent ∙ its.meets.0))

    source_here : (f y : FlowPlan) → moved f ≡ Some y → (k : ℕ) → is_flow_there line v k ≡ true → meets plan.requests.items e y ≡ true → IsSource line v d k f
    source_here f y sent k flow_there met =
        let (brings, asks) = with_request (y.group == e.group) (not (y.sender == e.unit)) (is_from e.from y.sender) (is_reached y.to e.unit)
        (is_asked_for plan.requests.items y) met in
        record {
          brings = sym (brings_same units groups d e f y needed sent) ∙ brings;
          is_there = flow_there;
          asked = λ on.
              let some : serves_some plan.requests.items y ≡ true =
              ap (λ b. not b || serves_some plan.requests.items y) (sym (on_request_same units groups f y sent ∙ on)) ∙ asks in
              let its = any_at (λ request. serves request y) plan.requests.items some in
              let came = (are_requests line v plan is there are).from its.i its.value its.value_is in
              record {
                k = came.k;
                value = came.value;
                value_is = came.value_is;
                meets = (sym (serves_same units groups came.value its.value f y came.comes sent) ∙ its.passes, came.is_there);
              };
        }

    source_same : is_some_source line v d ≡ list_any (meets plan.requests.items e) plan.flows.items
    source_same = one_test _ _
        (λ some.
        let its = source_at line v d some in
        let goes = (are_flows line v plan is there are).into its.k its.value its.value_is its.meets.is_there in
        let y = goes.value in
        at_any (meets plan.requests.items e) plan.flows.items goes.i goes.value goes.value_is
        (by_request (y.group == e.group) (not (y.sender == e.unit)) (is_from e.from y.sender) (is_reached y.to e.unit) (is_asked_for plan.requests.items y)
        (brings_same units groups d e its.value y needed goes.comes ∙ its.meets.brings) (asked_here its.value y goes.comes its.k its.meets)))
        (λ some.
        let its = any_at (meets plan.requests.items e) plan.flows.items some in
        let came = (are_flows line v plan is there are).from its.i its.value its.value_is in
        at_source line v d came.k came.value came.value_is (source_here came.value its.value came.comes came.k came.is_there its.passes))

    pub unmet_here : (k : ℕ) → is_need_asked_for line v k ≡ true
        → meets_any line v (unmet_condition line k d) ≡ is_unmet plan.requests.items plan.flows.items e
    unmet_here k here = unmet_met line v k d ∙ ap (λ b. b && not (is_some_source line v d)) here ∙ ap not source_same

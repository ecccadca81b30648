-- What is in the plan of a variant, by what is there.
use Rattle.std.proofs.Common.{◌≡◌, ℕ, Bool, true, false, ◌&&◌, List, [], ◌∷◌, Some, refl, sym, ◌∙◌, ap, subst}
use Rattle.std.specs.List.{filter_map, slice_get}
use Rattle.std.proofs.lemmas.List.{length-map}
use Rattle.std.proofs.lemmas.Option.{same_Some}
use Rattle.j39_network.specs.declared.plan.Plan.{Plan}
use Rattle.j39_variants.proofs.Places.{place_same}
use Rattle.j39_variants.specs.declared.line.ProductLine.{ProductLine}
use Rattle.j39_variants.specs.VariantPlans.{flag_at, flags, group_places, IsCopyOfGroup, IsVariantPlan, moved_flow, moved_need, moved_request}
use Rattle.j39_variants.specs.VariantPlans.{picked, place_at, unit_places}
use Rattle.j39_variants.specs.Variants.{is_in}
use Rattle.j39_line_findings.specs.MissedNeeds.{is_group_there}
use Rattle.j39_line_findings.specs.There.{is_flow_there, is_need_there, is_request_there, IsPresent}
use Rattle.j39_line_findings.specs.declared.there.Present.{Present}
use Rattle.j39_line_laws.proofs.Filtering.{flow_test, request_test, test_in}
use Rattle.j39_line_laws.proofs.Picking.{copy_of, its_copy}
use Rattle.j39_line_laws.proofs.PickedPlaces.{are_those, AreThose, Comes}
use Rattle.j39_line_laws.proofs.NeedsThere.{need_test}

-- ---- what is picked as it is

all_picked : {X : Type 0} (xs : List X) → xs ≡ filter_map Some xs
all_picked [] = refl
all_picked (x ∷ xs) = ap (λ l. x ∷ l) (all_picked xs)

true_and : (b : Bool) → b ≡ (b && true)
true_and true = refl
true_and false = refl

module _ (line : ProductLine) (v : List ℕ) (plan : Plan) (is : IsVariantPlan line v plan) (there : Present) (are : IsPresent line v there) where
  pub are_flows : AreThose (Comes (moved_flow (unit_places line v) (group_places line v)))
      (is_flow_there line v) line.plan.flows.items plan.flows.items there.flows.items
  are_flows = are_those (moved_flow (unit_places line v) (group_places line v)) (is_flow_there line v) (flags v line.lists.flows.items)
      line.plan.flows.items plan.flows.items there.flows.items is.has_flows are.has_flows (flow_test line v)

  pub are_requests : AreThose (Comes (moved_request (unit_places line v) (group_places line v)))
      (is_request_there line v) line.plan.requests.items plan.requests.items
      there.requests.items
  are_requests = are_those (moved_request (unit_places line v) (group_places line v)) (is_request_there line v) (flags v line.lists.requests.items)
      line.plan.requests.items plan.requests.items there.requests.items is.has_requests are.has_requests (request_test line v)

  pub are_needs : AreThose (Comes (moved_need (unit_places line v) (group_places line v)))
      (is_need_there line v) line.plan.needs.items plan.needs.items there.needs.items
  are_needs = are_those (moved_need (unit_places line v) (group_places line v)) (is_need_there line v) (flags v line.lists.needs.items)
      line.plan.needs.items plan.needs.items there.needs.items is.has_needs are.has_needs (need_test line v)

  abbrev group_flags : List Bool
  group_flags = flags v line.lists.groups.items

  some_groups : AreThose (Comes Some) (is_group_there line v) line.plan.groups.items (picked group_flags line.plan.groups.items) there.groups.items
  some_groups = are_those Some (is_group_there line v) group_flags line.plan.groups.items (picked group_flags line.plan.groups.items) there.groups.items
      (all_picked (picked group_flags line.plan.groups.items)) are.has_groups
      (λ k g at. test_in v line.lists.groups.items k ∙ true_and (flag_at group_flags k))

  -- groups are copied
  pub are_groups : AreThose IsCopyOfGroup (is_group_there line v) line.plan.groups.items plan.groups.items there.groups.items
  are_groups = record {
    from = λ i y at_i.
        let copy = copy_of IsCopyOfGroup (picked group_flags line.plan.groups.items) plan.groups.items is.has_groups i y at_i in
        let its = some_groups.from i copy.value copy.value_is in
        record {
          k = its.k;
          value = its.value;
          value_is = its.value_is;
          place_is = its.place_is;
          is_there = its.is_there;
          comes = subst (λ g. IsCopyOfGroup g y) (sym (same_Some its.value copy.value its.comes)) copy.copies;
        };
    into = λ k x at_k here.
        let its = some_groups.into k x at_k here in
        let copy = its_copy IsCopyOfGroup (picked group_flags line.plan.groups.items) plan.groups.items is.has_groups its.i its.value its.value_is in
        record {
          i = its.i;
          value = copy.value;
          value_is = copy.value_is;
          place_is = its.place_is;
          comes = subst (λ g. IsCopyOfGroup g copy.value) (sym (same_Some x its.value its.comes)) copy.meets;
        };
  }

  -- the group that is named is the one that is named in the file
  pub group_named : (g p : ℕ) → place_at (group_places line v) g ≡ Some p → slice_get (picked (flags v line.lists.groups.items) line.plan.groups.items) p
      ≡ slice_get line.plan.groups.items g
  group_named g p at = place_same group_flags line.plan.groups.items g p (length-map line.lists.groups.items (λ list. is_in v list.items) ∙ line.group_lists) at

-- The plan of a variant is a part of all that stands in the file.
use Rattle.std.specs.declared.alloc.Global.{Global}
use Rattle.std.proofs.Common.{◌≡◌, ℕ, zero, suc, ◌+◌, ◌<◌, Bool, true, false, ◌&&◌, List, [], ◌∷◌, length, Option, Some, None, is_some, option_map, unwrap_or}
use Rattle.std.proofs.Common.{Vec, refl, sym, ◌∙◌, ap, subst, arith}
use Rattle.std.specs.List.{filter_map, range_with_len, slice_get}
use Rattle.std.specs.Option.{option_map_or}
use Rattle.std.proofs.lemmas.Bool.{false≢true}
use Rattle.std.proofs.lemmas.List.{length-map}
use Rattle.std.proofs.lemmas.Option.{none-some, same_Some}
use Rattle.j39_network.specs.declared.plan.Plan.{Plan}
use Rattle.j39_network.specs.declared.plan.flow_plan.FlowPlan.{FlowPlan}
use Rattle.j39_network.specs.declared.plan.group_plan.GroupPlan.{GroupPlan}
use Rattle.j39_network.specs.declared.plan.request_plan.RequestPlan.{RequestPlan}
use Rattle.j39_network.specs.declared.plan.to.To.{To}
use Rattle.j39_network.specs.declared.plan.to.To.TheVariants.{All as ToAll, One}
use Rattle.j39_network.specs.declared.plan.unit_plan.UnitPlan.{UnitPlan}
use Rattle.j39_search.specs.ListPlaces.{ValueAt}
use Rattle.j39_variants.specs.declared.line.Alternative.{Alternative}
use Rattle.j39_variants.specs.declared.line.ProductLine.{ProductLine}
use Rattle.j39_variants.specs.VariantPlans.{flag_at, flags, group_places, IsCopyOfGroup, IsVariantPlan, moved_flow, moved_receivers, moved_request, picked}
use Rattle.j39_variants.specs.VariantPlans.{place_at, unit_places}
use Rattle.j39_variants.specs.Variants.{is_in}
use Rattle.j39_line_findings.specs.MissedNeeds.{is_group_there, is_in_at, is_unit_there}
use Rattle.j39_line_findings.specs.There.{is_flow_there, is_receiver_there, is_request_there, IsPresent, place_in_file, places_of_those}
use Rattle.j39_line_findings.specs.declared.there.Present.{Present}
use Rattle.j39_part_laws.specs.PlanParts.{AreSome, IsFlowThere, IsGroupThere, IsPartAt, IsRequestThere, IsSame, Places, to_in}
use Rattle.j39_part_laws.proofs.Places.{value_at}
use Rattle.j39_line_laws.proofs.Filtering.{flow_test, kept_at, length-kept, parallel, parallel_kept, request_test, test_in}
use Rattle.j39_line_laws.proofs.Parts.{flow_of, request_of}
use Rattle.j39_line_laws.proofs.Picking.{copy_of, its_copy, kept, some_kept, some_picked, thin, thin_rises}
use Rattle.j39_line_laws.proofs.PlacesInFile.{flagged, flagged_kept, length-range}
use Rattle.j39_line_laws.proofs.FilePlaces.{all_kept, all_more, all_picked, all_set, HasPlace, kept_place, kept_set, named_place, picked_place}
use Rattle.j39_line_laws.proofs.FilePlaces.{picked_set, place_of, set_kept, whole_place}

-- a group of which this is a copy
copied : (g h : GroupPlan) → IsCopyOfGroup g h → IsGroupThere h g
copied g h is = grind (arith, is)

-- the place in the file of what has a place among those picked
in_file_at : (bs : List Bool) (n : ℕ) → length bs ≡ n → (those : List ℕ) → those ≡ picked bs (range_with_len 0 n) → (i k : ℕ)
    → slice_get (picked bs (range_with_len 0 n)) i ≡ Some k → place_in_file those i ≡ whole_place bs i
in_file_at bs n counted those are i k at =
    let here : k ≡ 0 + whole_place bs i = place_of bs 0 i k (subst (λ m. slice_get (picked bs (range_with_len 0 m)) i ≡ Some k) (sym counted) at) in
    ap (λ l. place_in_file l i) are ∙ ap (λ o. unwrap_or o 0) at ∙ omega (arith, here)

-- one that a list reports of
listed : (v : List ℕ) (lists : List (Vec Alternative Global)) (k : ℕ) → is_in_at v lists k ≡ true → k < length lists
listed v [] zero inside = absurd (false≢true inside)
listed v [] (suc k) inside = absurd (false≢true inside)
listed v (list ∷ lists) zero inside = omega arith
listed v (list ∷ lists) (suc k) inside = let below = listed v lists k inside in omega (arith, below)

some_value : {X : Type 0} (o : Option X) (test : X → Bool) → option_map_or test o false ≡ true → (x : X) × (o ≡ Some x)
some_value None test none = absurd (false≢true none)
some_value (Some x) test passes = (x, refl)

module _ (line : ProductLine) (v : List ℕ) where
  -- ---- flags

  abbrev pub unit_flags : List Bool
  unit_flags = flags v line.lists.units.items

  abbrev pub group_flags : List Bool
  group_flags = flags v line.lists.groups.items

  abbrev pub flow_here : FlowPlan → Option FlowPlan
  flow_here = moved_flow (unit_places line v) (group_places line v)

  abbrev pub flow_flags : List Bool
  flow_flags = kept flow_here (flags v line.lists.flows.items) line.plan.flows.items

  abbrev pub request_here : RequestPlan → Option RequestPlan
  request_here = moved_request (unit_places line v) (group_places line v)

  abbrev pub request_flags : List Bool
  request_flags = kept request_here (flags v line.lists.requests.items) line.plan.requests.items

  unit_count : length unit_flags ≡ length line.plan.units.items
  unit_count = length-map line.lists.units.items (λ list. is_in v list.items) ∙ line.unit_lists

  group_count : length group_flags ≡ length line.plan.groups.items
  group_count = length-map line.lists.groups.items (λ list. is_in v list.items) ∙ line.group_lists

  listed_flows : length (flags v line.lists.flows.items) ≡ length line.plan.flows.items
  listed_flows = length-map line.lists.flows.items (λ list. is_in v list.items) ∙ line.flow_lists

  listed_requests : length (flags v line.lists.requests.items) ≡ length line.plan.requests.items
  listed_requests = length-map line.lists.requests.items (λ list. is_in v list.items) ∙ line.request_lists

  -- a flow or a request is there where its flag is set
  flow_flag : (k : ℕ) (f : FlowPlan) → slice_get line.plan.flows.items k ≡ Some f → is_flow_there line v k ≡ flag_at flow_flags k
  flow_flag k f at_f = flow_test line v k f at_f ∙ sym (kept_at flow_here (flags v line.lists.flows.items) line.plan.flows.items k f listed_flows at_f)

  request_flag : (k : ℕ) (r : RequestPlan) → slice_get line.plan.requests.items k ≡ Some r → is_request_there line v k ≡ flag_at request_flags k
  request_flag k r at_r =
      request_test line v k r at_r ∙ sym (kept_at request_here (flags v line.lists.requests.items) line.plan.requests.items k r listed_requests at_r)

  -- ---- the part

  abbrev pub at : Places
  at = record {
    unit = whole_place unit_flags;
    group = whole_place group_flags;
    flow = whole_place flow_flags;
    request = whole_place request_flags;
  }

  receivers_of : (t y : To) → moved_receivers (unit_places line v) t ≡ Some y → t ≡ to_in at y
  receivers_of ToAll y is = ap (to_in at) (same_Some ToAll y is)
  receivers_of (One u) y is = go (place_at (unit_places line v) u) refl is
    where
      go : (o : Option ℕ) → place_at (unit_places line v) u ≡ o → option_map One o ≡ Some y → One u ≡ to_in at y
      go None is_o none = absurd (none-some y none)
      go (Some p) is_o its = ap One (sym (named_place unit_flags u p is_o)) ∙ ap (to_in at) (same_Some (One p) y its)

  flow_stands : (f y : FlowPlan) → flow_here f ≡ Some y → IsFlowThere at y f
  flow_stands f y moved =
      let its = flow_of f (place_at (group_places line v) f.group) (place_at (unit_places line v) f.sender)
      (moved_receivers (unit_places line v) f.to) y moved in
      let group = named_place group_flags f.group y.group its.group in
      let sender = named_place unit_flags f.sender y.sender its.sender in
      let to = receivers_of f.to y.to its.to in grind (arith, its, group, sender, to)

  request_stands : (r y : RequestPlan) → request_here r ≡ Some y → IsRequestThere at y r
  request_stands r y moved =
      let its = request_of r (place_at (group_places line v) r.group) (place_at (unit_places line v) r.sender)
      (moved_receivers (unit_places line v) r.to) y moved in
      let group = named_place group_flags r.group y.group its.group in
      let sender = named_place unit_flags r.sender y.sender its.sender in
      let to = receivers_of r.to y.to its.to in grind (arith, its, group, sender, to)

  some_of : {X : Type 0} (bs : List Bool) (xs : List X) → length bs ≡ length xs → AreSome (whole_place bs) IsSame (picked bs xs) xs
  some_of bs xs counted = subst (AreSome (whole_place bs) IsSame (picked bs xs)) (all_picked bs xs counted) (some_picked bs (all_set bs) xs (all_more bs))

  some_of_kept : {X : Type 0} (R : X → X → Type 0) (f : X → Option X) → ((x y : X) → f x ≡ Some y → R y x) → (bs : List Bool) (xs : List X)
      → length bs ≡ length xs → AreSome (whole_place (kept f bs xs)) R (filter_map f (picked bs xs)) xs
  some_of_kept R f stands bs xs counted =
      subst (AreSome (whole_place (kept f bs xs)) R (filter_map f (picked bs xs))) (all_kept bs xs counted)
      (subst (λ ks. AreSome (thin (kept f bs xs) ks) R (filter_map f (picked bs xs)) (filter_map Some (picked (all_set bs) xs))) (set_kept f bs xs counted)
      (some_kept R f Some (λ x y moved. (x, refl, stands x y moved)) bs (all_set bs) xs (all_more bs)))

  module _ (plan : Plan) (is : IsVariantPlan line v plan) where
    group_stands : (i : ℕ) (h : GroupPlan) → slice_get plan.groups.items i ≡ Some h → ValueAt (IsGroupThere h) line.plan.groups.items (at.group i)
    group_stands i h at_h =
        let copy = copy_of IsCopyOfGroup (picked group_flags line.plan.groups.items) plan.groups.items is.has_groups i h at_h in
        let there = (some_of group_flags line.plan.groups.items group_count).each i copy.value copy.value_is in
        record { value = there.value; value_is = there.value_is; meets = subst (IsGroupThere h) there.meets (copied copy.value h copy.copies) }

    pub is_part : IsPartAt at plan line.plan
    is_part = record {
      units = subst (λ xs. AreSome at.unit IsSame xs line.plan.units.items) (sym is.has_units) (some_of unit_flags line.plan.units.items unit_count);
      groups = record { rises = thin_rises group_flags (all_set group_flags); each = group_stands };
      flows = subst (λ xs. AreSome at.flow (IsFlowThere at) xs line.plan.flows.items) (sym is.has_flows)
          (some_of_kept (IsFlowThere at) flow_here flow_stands (flags v line.lists.flows.items) line.plan.flows.items listed_flows);
      requests = subst (λ xs. AreSome at.request (IsRequestThere at) xs line.plan.requests.items) (sym is.has_requests)
          (some_of_kept (IsRequestThere at) request_here request_stands (flags v line.lists.requests.items) line.plan.requests.items listed_requests);
      keep_free = is.has_keep_free;
      strangers = is.has_strangers;
      live = is.has_live;
      timing = is.has_timing;
    }

    -- ---- what is in the part is there

    unit_picked : (i : ℕ) (x : UnitPlan) → slice_get plan.units.items i ≡ Some x → slice_get (picked unit_flags line.plan.units.items) i ≡ Some x
    unit_picked i x at_x = ap (λ l. slice_get l i) (sym is.has_units) ∙ at_x

    pub unit_there : (i : ℕ) (x : UnitPlan) → slice_get plan.units.items i ≡ Some x → is_unit_there line v (at.unit i) ≡ true
    unit_there i x at_x = test_in v line.lists.units.items (at.unit i) ∙ picked_set unit_flags line.plan.units.items i x (unit_picked i x at_x)

    pub group_there : (i : ℕ) (x : GroupPlan) → slice_get plan.groups.items i ≡ Some x → is_group_there line v (at.group i) ≡ true
    group_there i x at_x =
        let copy = copy_of IsCopyOfGroup (picked group_flags line.plan.groups.items) plan.groups.items is.has_groups i x at_x in
        test_in v line.lists.groups.items (at.group i) ∙ picked_set group_flags line.plan.groups.items i copy.value copy.value_is

    pub flow_there : (i : ℕ) (x : FlowPlan) → slice_get plan.flows.items i ≡ Some x → is_flow_there line v (at.flow i) ≡ true
    flow_there i x at_x =
        let there = is_part.flows.each i x at_x in
        flow_flag (at.flow i) there.value there.value_is
        ∙ kept_set flow_here (flags v line.lists.flows.items) line.plan.flows.items i x (ap (λ l. slice_get l i) (sym is.has_flows) ∙ at_x)

    pub request_there : (i : ℕ) (x : RequestPlan) → slice_get plan.requests.items i ≡ Some x → is_request_there line v (at.request i) ≡ true
    request_there i x at_x =
        let there = is_part.requests.each i x at_x in
        request_flag (at.request i) there.value there.value_is
        ∙ kept_set request_here (flags v line.lists.requests.items) line.plan.requests.items i x (ap (λ l. slice_get l i) (sym is.has_requests) ∙ at_x)

    -- ---- what is there has a place in the part

    pub unit_place : (u : ℕ) → is_unit_there line v u ≡ true → HasPlace at.unit plan.units.items u
    unit_place u there =
        let below = listed v line.lists.units.items u there in
        let counted = line.unit_lists in
        let (x, at_x) = value_at line.plan.units.items u (omega (arith, below, counted)) in
        subst (λ l. HasPlace at.unit l u) (sym is.has_units)
        (picked_place unit_flags line.plan.units.items u x at_x (sym (test_in v line.lists.units.items u) ∙ there))

    pub group_place : (g : ℕ) → is_group_there line v g ≡ true → HasPlace at.group plan.groups.items g
    group_place g there =
        let below = listed v line.lists.groups.items g there in
        let counted = line.group_lists in
        let (x, at_x) = value_at line.plan.groups.items g (omega (arith, below, counted)) in
        let its = picked_place group_flags line.plan.groups.items g x at_x (sym (test_in v line.lists.groups.items g) ∙ there) in
        let copy = its_copy IsCopyOfGroup (picked group_flags line.plan.groups.items) plan.groups.items is.has_groups its.i its.value its.value_is in
        record { i = its.i; value = copy.value; value_is = copy.value_is; place_is = its.place_is }

    pub flow_place : (f : ℕ) → is_flow_there line v f ≡ true → HasPlace at.flow plan.flows.items f
    flow_place f there =
        let (x, at_x) = some_value (slice_get line.plan.flows.items f)
        (λ flow. is_in_at v line.lists.flows.items f && (is_group_there line v flow.group
        && (is_unit_there line v flow.sender && is_receiver_there line v flow.to))) there in
        subst (λ l. HasPlace at.flow l f) (sym is.has_flows)
        (kept_place flow_here (flags v line.lists.flows.items) line.plan.flows.items f x at_x (sym (flow_flag f x at_x) ∙ there))

    pub request_place : (r : ℕ) → is_request_there line v r ≡ true → HasPlace at.request plan.requests.items r
    request_place r there =
        let (x, at_x) = some_value (slice_get line.plan.requests.items r)
        (λ request. is_in_at v line.lists.requests.items r
        && (is_group_there line v request.group && (is_unit_there line v request.sender && is_receiver_there line v request.to))) there in
        subst (λ l. HasPlace at.request l r) (sym is.has_requests)
        (kept_place request_here (flags v line.lists.requests.items) line.plan.requests.items r x at_x (sym (request_flag r x at_x) ∙ there))

    -- ---- its place in the file

    module _ (these : Present) (are : IsPresent line v these) where
      pub unit_in_file : (i : ℕ) (x : UnitPlan) → slice_get plan.units.items i ≡ Some x → place_in_file these.units.items i ≡ at.unit i
      unit_in_file i x at_x =
          let (k, at_k) = parallel unit_flags line.plan.units.items (range_with_len 0 (length line.plan.units.items))
          (sym (length-range 0 (length line.plan.units.items)))
          i x (unit_picked i x at_x) in
          in_file_at unit_flags (length line.plan.units.items) unit_count these.units.items
          (are.has_units ∙ flagged (is_unit_there line v) unit_flags (length line.plan.units.items) unit_count
          (λ m below. test_in v line.lists.units.items m)) i k at_k

      pub group_in_file : (i : ℕ) (x : GroupPlan) → slice_get plan.groups.items i ≡ Some x → place_in_file these.groups.items i ≡ at.group i
      group_in_file i x at_x =
          let copy = copy_of IsCopyOfGroup (picked group_flags line.plan.groups.items) plan.groups.items is.has_groups i x at_x in
          let (k, at_k) = parallel group_flags line.plan.groups.items (range_with_len 0 (length line.plan.groups.items))
          (sym (length-range 0 (length line.plan.groups.items))) i copy.value copy.value_is in
          in_file_at group_flags (length line.plan.groups.items) group_count these.groups.items
          (are.has_groups ∙ flagged (is_group_there line v) group_flags (length line.plan.groups.items) group_count
          (λ m below. test_in v line.lists.groups.items m)) i k at_k

      -- of what is kept by what it names
      in_file_of : {X : Type 0} (f : X → Option X) (test : ℕ → Bool) (lists : List (Vec Alternative Global)) (xs : List X) (places : List ℕ)
          → length (flags v lists) ≡ length xs
          → places ≡ places_of_those test (length xs) → ((k : ℕ) (x : X) → slice_get xs k ≡ Some x → test k ≡ (flag_at (flags v lists) k && is_some (f x)))
          → (i : ℕ) (x : X) → slice_get (filter_map f (picked (flags v lists) xs)) i ≡ Some x
          → place_in_file places i ≡ whole_place (kept f (flags v lists) xs) i
      in_file_of f test lists xs places counted are_those tests i x at_x =
          let (k, at_k) = parallel_kept f (flags v lists) xs (range_with_len 0 (length xs)) (sym (length-range 0 (length xs))) i x at_x in
          in_file_at (kept f (flags v lists) xs) (length xs) (length-kept f (flags v lists) xs counted) places
          (are_those ∙ flagged_kept test f (flags v lists) xs counted tests) i k at_k

      pub flow_in_file : (i : ℕ) (x : FlowPlan) → slice_get plan.flows.items i ≡ Some x → place_in_file these.flows.items i ≡ at.flow i
      flow_in_file i x at_x = in_file_of flow_here
          (is_flow_there line v) line.lists.flows.items line.plan.flows.items these.flows.items listed_flows are.has_flows
          (flow_test line v) i x (ap (λ l. slice_get l i) (sym is.has_flows) ∙ at_x)

      pub request_in_file : (i : ℕ) (x : RequestPlan) → slice_get plan.requests.items i ≡ Some x → place_in_file these.requests.items i ≡ at.request i
      request_in_file i x at_x = in_file_of request_here
          (is_request_there line v) line.lists.requests.items line.plan.requests.items these.requests.items listed_requests
          are.has_requests (request_test line v) i x (ap (λ l. slice_get l i) (sym is.has_requests) ∙ at_x)

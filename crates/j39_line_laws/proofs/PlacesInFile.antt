-- What is there in both variants has one place in the file.
use Rattle.std.proofs.Common.{◌≡◌, ℕ, zero, suc, ◌+◌, ◌<◌, Bool, ◌&&◌, List, length, filter, Option, Some, is_some, unwrap_or, refl, sym, ◌∙◌, ap, subst, arith}
use Rattle.std.specs.List.{filter_map, range_with_len, slice_get}
use Rattle.std.proofs.lemmas.List.{length-map}
use Rattle.j39_network.specs.declared.plan.Plan.{Plan}
use Rattle.j39_network.specs.declared.plan.flow_plan.FlowPlan.{FlowPlan}
use Rattle.j39_network.specs.declared.plan.group_plan.GroupPlan.{GroupPlan}
use Rattle.j39_network.specs.declared.plan.request_plan.RequestPlan.{RequestPlan}
use Rattle.j39_network.specs.declared.plan.unit_plan.UnitPlan.{UnitPlan}
use Rattle.j39_variants.specs.declared.line.ProductLine.{ProductLine}
use Rattle.j39_variants.specs.VariantPlans.{flag_at, flags, IsVariantPlan, IsCopyOfGroup, picked}
use Rattle.j39_line_findings.specs.MissedNeeds.{is_group_there, is_unit_there}
use Rattle.j39_line_findings.specs.There.{is_flow_there, is_request_there, IsPresent, place_in_file, places_of_those}
use Rattle.j39_line_findings.specs.declared.there.Present.{Present}
use Rattle.j39_part_laws.proofs.Places.{value_at}
use Rattle.j39_line_laws.specs.Covering.{IsCoveredBy}
use Rattle.j39_line_laws.proofs.VariantBoxes.{AreFewer}
use Rattle.j39_line_laws.proofs.Filtering.{filtered, flow_test, kept_at, kept_fewer, length-kept, parallel, parallel_kept, request_test, test_in}
use Rattle.j39_line_laws.proofs.Parts.{at, flow_here, flow_in, flow_there, flows_fewer, groups_fewer, groups_there, request_here, request_in}
use Rattle.j39_line_laws.proofs.Parts.{request_there, requests_fewer, units_fewer, units_there}
use Rattle.j39_line_laws.proofs.Picking.{copy_of, kept, some_picked, thin}
use Rattle.j39_variants.specs.VariantPlans.{group_places, moved_flow, moved_request, unit_places}
use Rattle.j39_variants.specs.Variants.{is_in}

-- the flags of as many values as a file has
pub flagged : (test : ℕ → Bool) (bs : List Bool) (n : ℕ) → length bs ≡ n → ((k : ℕ) → k < n → test k ≡ flag_at bs k)
    → places_of_those test n ≡ picked bs (range_with_len 0 n)
flagged test bs n same each =
    subst (λ m. filter test (range_with_len 0 m) ≡ picked bs (range_with_len 0 m)) same
    (filtered test bs 0 (λ k below. ap test (let e : 0 + k ≡ k = omega arith in e) ∙ each k (omega (arith, below, same))))

-- what stands at a place here stands there at the place that is reported
place_same : (bs cs : List Bool) (n : ℕ) → AreFewer bs cs → (here there : List ℕ) → here ≡ picked bs (range_with_len 0 n)
    → there ≡ picked cs (range_with_len 0 n)
    → (i k : ℕ) → slice_get (picked bs (range_with_len 0 n)) i ≡ Some k → place_in_file there (thin bs cs i) ≡ place_in_file here i
place_same bs cs n fewer here there is_here is_there i k at_i =
    let are = (some_picked bs cs (range_with_len 0 n) fewer).each i k at_i in
    ap (λ l. place_in_file l (thin bs cs i)) is_there ∙ ap (λ o. unwrap_or o 0) (are.value_is ∙ ap Some (sym are.meets))
    ∙ sym (ap (λ l. place_in_file l i) is_here ∙ ap (λ o. unwrap_or o 0) at_i)

pub length-range : (a n : ℕ) → length (range_with_len a n) ≡ n
length-range a zero = refl
length-range a (suc n) = ap suc (length-range (a + 1) n)

-- ---- what is kept by what it names

pub flagged_kept : {X Y : Type 0} (test : ℕ → Bool) (f : X → Option Y) (bs : List Bool) (xs : List X) → length bs ≡ length xs
    → ((k : ℕ) (x : X) → slice_get xs k ≡ Some x → test k ≡ (flag_at bs k && is_some (f x)))
    → places_of_those test (length xs) ≡ picked (kept f bs xs) (range_with_len 0 (length xs))
flagged_kept test f bs xs counted tests = flagged test (kept f bs xs) (length xs) (length-kept f bs xs counted)
    (λ k below. let (x, at_k) = value_at xs k below in tests k x at_k ∙ sym (kept_at f bs xs k x counted at_k))

-- where what the one keeps is found by the other
keeps_too : {X Y : Type 0} {R : Y → Y → Type 0} (f g : X → Option Y) → ((x : X) (y : Y) → f x ≡ Some y → (z : Y) × (g x ≡ Some z) × R y z)
    → (bs cs : List Bool) (xs : List X) → AreFewer bs cs → AreFewer (kept f bs xs) (kept g cs xs)
keeps_too f g found = kept_fewer f g (λ x y is. let (z, is_z, stands) = found x y is in ap is_some is_z)

same_kept_place : {X Y : Type 0} (f g : X → Option Y) (bs cs : List Bool) (xs : List X) → AreFewer (kept f bs xs) (kept g cs xs) → (here there : List ℕ)
    → here ≡ picked (kept f bs xs) (range_with_len 0 (length xs)) → there ≡ picked (kept g cs xs) (range_with_len 0 (length xs))
    → (i : ℕ) (y : Y) → slice_get (filter_map f (picked bs xs)) i ≡ Some y → place_in_file there (thin (kept f bs xs) (kept g cs xs) i) ≡ place_in_file here i
same_kept_place f g bs cs xs fewer here there is_here is_there i y at_i =
    let (k, at_k) = parallel_kept f bs xs (range_with_len 0 (length xs)) (sym (length-range 0 (length xs))) i y at_i in
    place_same (kept f bs xs) (kept g cs xs) (length xs) fewer here there is_here is_there i k at_k

module _ (line : ProductLine) (v w : List ℕ) (covered : IsCoveredBy line v w) (part : Plan) (is : IsVariantPlan line v part) (here there : Present)
    (are_here : IsPresent line v here) (are_there : IsPresent line w there) where
  units_flagged : (x : List ℕ) → places_of_those (is_unit_there line x) (length line.plan.units.items)
      ≡ picked (flags x line.lists.units.items) (range_with_len 0 (length line.plan.units.items))
  units_flagged x = flagged (is_unit_there line x) (flags x line.lists.units.items) (length line.plan.units.items)
      (length-map line.lists.units.items (λ list. is_in x list.items) ∙ line.unit_lists) (λ k below. test_in x line.lists.units.items k)

  groups_flagged : (x : List ℕ) → places_of_those (is_group_there line x) (length line.plan.groups.items)
      ≡ picked (flags x line.lists.groups.items) (range_with_len 0 (length line.plan.groups.items))
  groups_flagged x = flagged (is_group_there line x) (flags x line.lists.groups.items) (length line.plan.groups.items)
      (length-map line.lists.groups.items (λ list. is_in x list.items) ∙ line.group_lists) (λ k below. test_in x line.lists.groups.items k)

  pub unit_same : (i : ℕ) (unit : UnitPlan) → slice_get part.units.items i ≡ Some unit
      → place_in_file there.units.items ((at line v w covered).unit i) ≡ place_in_file here.units.items i
  unit_same i unit at_i =
      let (k, at_k) = parallel (flags v line.lists.units.items) line.plan.units.items (range_with_len 0 (length line.plan.units.items))
      (sym (length-range 0 (length line.plan.units.items))) i unit (ap (λ l. slice_get l i) (sym is.has_units) ∙ at_i) in
      place_same (flags v line.lists.units.items) (flags w line.lists.units.items) (length line.plan.units.items) (units_fewer line v w covered)
      here.units.items there.units.items (are_here.has_units ∙ units_flagged v) (are_there.has_units ∙ units_flagged w) i k at_k

  pub group_same : (i : ℕ) (group : GroupPlan) → slice_get part.groups.items i ≡ Some group
      → place_in_file there.groups.items ((at line v w covered).group i) ≡ place_in_file here.groups.items i
  group_same i group at_i =
      let copied = copy_of IsCopyOfGroup (picked (flags v line.lists.groups.items) line.plan.groups.items) part.groups.items is.has_groups i group at_i in
      let (k, at_k) = parallel (flags v line.lists.groups.items) line.plan.groups.items (range_with_len 0 (length line.plan.groups.items))
      (sym (length-range 0 (length line.plan.groups.items))) i copied.value copied.value_is in
      place_same (flags v line.lists.groups.items) (flags w line.lists.groups.items) (length line.plan.groups.items) (groups_fewer line v w covered)
      here.groups.items there.groups.items (are_here.has_groups ∙ groups_flagged v) (are_there.has_groups ∙ groups_flagged w) i k at_k

  -- ---- flows

  abbrev pub flow_flags : List ℕ → List Bool
  flow_flags x = kept (moved_flow (unit_places line x) (group_places line x)) (flags x line.lists.flows.items) line.plan.flows.items

  pub flows_flagged : (x : List ℕ) → places_of_those (is_flow_there line x) (length line.plan.flows.items) ≡ picked (flow_flags x)
      (range_with_len 0 (length line.plan.flows.items))
  flows_flagged x = flagged_kept (is_flow_there line x) (moved_flow (unit_places line x) (group_places line x))
      (flags x line.lists.flows.items) line.plan.flows.items
      (length-map line.lists.flows.items (λ list. is_in x list.items) ∙ line.flow_lists) (flow_test line x)

  pub flow_flags_fewer : AreFewer (flow_flags v) (flow_flags w)
  flow_flags_fewer = keeps_too (flow_here line v w covered) (flow_in line v w covered)
      (flow_there (at line v w covered) (unit_places line v) (unit_places line w) (group_places line v) (group_places line w) (units_there line v w covered)
      (groups_there line v w covered)) (flags v line.lists.flows.items) (flags w line.lists.flows.items) line.plan.flows.items (flows_fewer line v w covered)

  pub flow_same : (i : ℕ) (flow : FlowPlan) → slice_get part.flows.items i ≡ Some flow
      → place_in_file there.flows.items ((at line v w covered).flow i) ≡ place_in_file here.flows.items i
  flow_same i flow at_i = same_kept_place (flow_here line v w covered) (flow_in line v w covered) (flags v line.lists.flows.items)
      (flags w line.lists.flows.items)
      line.plan.flows.items flow_flags_fewer here.flows.items there.flows.items (are_here.has_flows ∙ flows_flagged v)
      (are_there.has_flows ∙ flows_flagged w) i flow
      (ap (λ l. slice_get l i) (sym is.has_flows) ∙ at_i)

  -- ---- requests

  abbrev request_flags : List ℕ → List Bool
  request_flags x = kept (moved_request (unit_places line x) (group_places line x)) (flags x line.lists.requests.items) line.plan.requests.items

  requests_flagged : (x : List ℕ) → places_of_those (is_request_there line x) (length line.plan.requests.items)
      ≡ picked (request_flags x) (range_with_len 0 (length line.plan.requests.items))
  requests_flagged x = flagged_kept (is_request_there line x) (moved_request (unit_places line x) (group_places line x)) (flags x line.lists.requests.items)
      line.plan.requests.items (length-map line.lists.requests.items (λ list. is_in x list.items) ∙ line.request_lists) (request_test line x)

  request_flags_fewer : AreFewer (request_flags v) (request_flags w)
  request_flags_fewer = keeps_too (request_here line v w covered) (request_in line v w covered)
      (request_there (at line v w covered) (unit_places line v) (unit_places line w) (group_places line v) (group_places line w) (units_there line v w covered)
      (groups_there line v w covered)) (flags v line.lists.requests.items) (flags w line.lists.requests.items) line.plan.requests.items
      (requests_fewer line v w covered)

  pub request_same : (i : ℕ) (request : RequestPlan) → slice_get part.requests.items i ≡ Some request
      → place_in_file there.requests.items ((at line v w covered).request i) ≡ place_in_file here.requests.items i
  request_same i request at_i = same_kept_place (request_here line v w covered) (request_in line v w covered) (flags v line.lists.requests.items)
      (flags w line.lists.requests.items) line.plan.requests.items request_flags_fewer here.requests.items there.requests.items
      (are_here.has_requests ∙ requests_flagged v)
      (are_there.has_requests ∙ requests_flagged w) i request (ap (λ l. slice_get l i) (sym is.has_requests) ∙ at_i)

-- The plan of a variant is a part of that of one that covers it.
use Rattle.std.specs.declared.alloc.Global.{Global}
use Rattle.std.proofs.Common.{◌≡◌, ℕ, List, Option, Some, None, option_map, Vec, refl, sym, ◌∙◌, ap, subst, arith}
use Rattle.std.specs.List.{filter_map}
use Rattle.std.proofs.lemmas.Option.{none-some, same_Some}
use Rattle.j39_network.specs.declared.plan.Plan.{Plan}
use Rattle.j39_network.specs.declared.plan.flow_plan.FlowPlan.{FlowPlan}
use Rattle.j39_network.specs.declared.plan.group_plan.GroupPlan.{GroupPlan}
use Rattle.j39_network.specs.declared.plan.request_plan.RequestPlan.{RequestPlan}
use Rattle.j39_network.specs.declared.plan.to.To.{To}
use Rattle.j39_network.specs.declared.plan.to.To.TheVariants.{All as ToAll, One}
use Rattle.j39_variants.specs.declared.line.Alternative.{Alternative}
use Rattle.j39_variants.specs.declared.line.ProductLine.{ProductLine}
use Rattle.j39_variants.specs.VariantPlans.{flags, flow_between, group_places, IsCopyOfGroup, IsVariantPlan, moved_flow, moved_receivers, moved_request, picked}
use Rattle.j39_variants.specs.VariantPlans.{place_at}
use Rattle.j39_variants.specs.VariantPlans.{request_between, unit_places}
use Rattle.j39_part_laws.specs.PlanParts.{AreSome, IsFlowThere, IsGroupThere, IsPlanPart, IsPartAt, IsRequestThere, IsSame, Places, to_in}
use Rattle.j39_line_laws.specs.Covering.{IsCoveredBy}
use Rattle.j39_line_laws.proofs.VariantBoxes.{AreFewer, fewer, keep_flows, keep_groups, keep_requests, keep_units, KeepAll}
use Rattle.j39_line_laws.proofs.Picking.{kept, place_there, some_copied, some_kept, some_picked, thin}

-- two copies of one group
copies_alike : (g h k : GroupPlan) → IsCopyOfGroup g h → IsCopyOfGroup g k → IsGroupThere h k
copies_alike g h k one other = grind (arith, one, other)

-- ---- flows and requests

pub record IsFlowOf (f : FlowPlan) (g s : Option ℕ) (t : Option To) (y : FlowPlan) : Type 0 where
  pub group : g ≡ Some y.group
  pub sender : s ≡ Some y.sender
  pub to : t ≡ Some y.to
  pub pace : f.pace ≡ y.pace
  pub pause : f.pause ≡ y.pause
  pub on_request : f.on_request ≡ y.on_request

pub flow_of : (f : FlowPlan) (g s : Option ℕ) (t : Option To) (y : FlowPlan) → flow_between f g s t ≡ Some y → IsFlowOf f g s t y
flow_of f (Some g) (Some s) (Some t) y e = grind (arith, e)
flow_of f None s t y e = absurd (none-some y e)
flow_of f (Some g) None t y e = absurd (none-some y e)
flow_of f (Some g) (Some s) None y e = absurd (none-some y e)

pub record IsRequestOf (r : RequestPlan) (g s : Option ℕ) (t : Option To) (y : RequestPlan) : Type 0 where
  pub group : g ≡ Some y.group
  pub sender : s ≡ Some y.sender
  pub to : t ≡ Some y.to
  pub period : r.period ≡ y.period

pub request_of : (r : RequestPlan) (g s : Option ℕ) (t : Option To) (y : RequestPlan) → request_between r g s t ≡ Some y → IsRequestOf r g s t y
request_of r (Some g) (Some s) (Some t) y e = grind (arith, e)
request_of r None s t y e = absurd (none-some y e)
request_of r (Some g) None t y e = absurd (none-some y e)
request_of r (Some g) (Some s) None y e = absurd (none-some y e)

between_there : {X : Type 0} {group sender : Option ℕ} {to : Option To} {g s : ℕ} {t : To} (between : Option ℕ → Option ℕ → Option To → X)
    → group ≡ Some g → sender ≡ Some s → to ≡ Some t → between group sender to ≡ between (Some g) (Some s) (Some t)
between_there {group = group} {sender = sender} {to = to} {g = g} {s = s} between is_group is_sender is_to =
    ap (λ (o : Option ℕ). between o sender to) is_group ∙ ap (λ (o : Option ℕ). between (Some g) o to) is_sender ∙ ap (between (Some g) (Some s)) is_to

module _ (at : Places) (us ws gs hs : List (Option ℕ)) (units : (i p : ℕ) → place_at us i ≡ Some p → place_at ws i ≡ Some (at.unit p))
    (groups : (i p : ℕ) → place_at gs i ≡ Some p → place_at hs i ≡ Some (at.group p)) where
  receivers_there : (t y : To) → moved_receivers us t ≡ Some y → moved_receivers ws t ≡ Some (to_in at y)
  receivers_there ToAll y is = ap (λ z. Some (to_in at z)) (same_Some ToAll y is)
  receivers_there (One u) y is = go (place_at us u) refl is
    where
      go : (o : Option ℕ) → place_at us u ≡ o → option_map One o ≡ Some y → option_map One (place_at ws u) ≡ Some (to_in at y)
      go None is_o none = absurd (none-some y none)
      go (Some p) is_o its = ap (option_map One) (units u p is_o) ∙ ap (λ z. Some (to_in at z)) (same_Some (One p) y its)

  pub flow_there : (f y : FlowPlan) → moved_flow us gs f ≡ Some y → (z : FlowPlan) × (moved_flow ws hs f ≡ Some z) × IsFlowThere at y z
  flow_there f y moved =
      let its = flow_of f (place_at gs f.group) (place_at us f.sender) (moved_receivers us f.to) y moved in (
        record f { group = at.group y.group; sender = at.unit y.sender; to = to_in at y.to },
        between_there (flow_between f) (groups f.group y.group its.group) (units f.sender y.sender its.sender) (receivers_there f.to y.to its.to),
        record { group = refl; sender = refl; to = refl; pace = its.pace; pause = its.pause; on_request = its.on_request },
      )

  pub request_there : (r y : RequestPlan) → moved_request us gs r ≡ Some y → (z : RequestPlan) × (moved_request ws hs r ≡ Some z) × IsRequestThere at y z
  request_there r y moved =
      let its = request_of r (place_at gs r.group) (place_at us r.sender) (moved_receivers us r.to) y moved in (
        record r { group = at.group y.group; sender = at.unit y.sender; to = to_in at y.to },
        between_there (request_between r) (groups r.group y.group its.group) (units r.sender y.sender its.sender) (receivers_there r.to y.to its.to),
        record { group = refl; sender = refl; to = refl; period = its.period },
      )

-- ---- the plans

module _ (line : ProductLine) (v w : List ℕ) (covered : IsCoveredBy line v w) where
  -- what is there stays there
  fewer_of : (lists : List (Vec Alternative Global)) → KeepAll lists v w → AreFewer (flags v lists) (flags w lists)
  fewer_of lists = fewer lists v w

  pub units_fewer : AreFewer (flags v line.lists.units.items) (flags w line.lists.units.items)
  units_fewer = fewer_of line.lists.units.items (λ c p at. let (q, at_q, covers) = covered c p at in (q, at_q, keep_units line _ _ covers))

  pub groups_fewer : AreFewer (flags v line.lists.groups.items) (flags w line.lists.groups.items)
  groups_fewer = fewer_of line.lists.groups.items (λ c p at. let (q, at_q, covers) = covered c p at in (q, at_q, keep_groups line _ _ covers))

  pub flows_fewer : AreFewer (flags v line.lists.flows.items) (flags w line.lists.flows.items)
  flows_fewer = fewer_of line.lists.flows.items (λ c p at. let (q, at_q, covers) = covered c p at in (q, at_q, keep_flows line _ _ covers))

  pub requests_fewer : AreFewer (flags v line.lists.requests.items) (flags w line.lists.requests.items)
  requests_fewer = fewer_of line.lists.requests.items (λ c p at. let (q, at_q, covers) = covered c p at in (q, at_q, keep_requests line _ _ covers))

  abbrev pub unit_place : ℕ → ℕ
  unit_place = thin (flags v line.lists.units.items) (flags w line.lists.units.items)

  abbrev pub group_place : ℕ → ℕ
  group_place = thin (flags v line.lists.groups.items) (flags w line.lists.groups.items)

  abbrev pub flow_here : FlowPlan → Option FlowPlan
  flow_here = moved_flow (unit_places line v) (group_places line v)

  abbrev pub flow_in : FlowPlan → Option FlowPlan
  flow_in = moved_flow (unit_places line w) (group_places line w)

  abbrev pub request_here : RequestPlan → Option RequestPlan
  request_here = moved_request (unit_places line v) (group_places line v)

  abbrev pub request_in : RequestPlan → Option RequestPlan
  request_in = moved_request (unit_places line w) (group_places line w)

  abbrev pub at : Places
  at = record {
    unit = unit_place;
    group = group_place;
    flow = thin (kept flow_here (flags v line.lists.flows.items) line.plan.flows.items) (kept flow_in (flags w line.lists.flows.items) line.plan.flows.items);
    request = thin (kept request_here (flags v line.lists.requests.items) line.plan.requests.items)
        (kept request_in (flags w line.lists.requests.items) line.plan.requests.items);
  }

  pub units_there : (i p : ℕ) → place_at (unit_places line v) i ≡ Some p → place_at (unit_places line w) i ≡ Some (unit_place p)
  units_there = place_there (flags v line.lists.units.items) (flags w line.lists.units.items) units_fewer

  pub groups_there : (i p : ℕ) → place_at (group_places line v) i ≡ Some p → place_at (group_places line w) i ≡ Some (group_place p)
  groups_there = place_there (flags v line.lists.groups.items) (flags w line.lists.groups.items) groups_fewer

  module _ (part whole : Plan) (here : IsVariantPlan line v part) (there : IsVariantPlan line w whole) where
    pub is_part_at : IsPartAt at part whole
    is_part_at = record {
      units = subst (λ xs. AreSome at.unit IsSame xs whole.units.items) (sym here.has_units)
          (subst (AreSome at.unit IsSame (picked (flags v line.lists.units.items) line.plan.units.items)) (sym there.has_units)
          (some_picked (flags v line.lists.units.items) (flags w line.lists.units.items) line.plan.units.items units_fewer));
      groups = some_copied IsCopyOfGroup IsGroupThere copies_alike at.group (picked (flags v line.lists.groups.items) line.plan.groups.items)
          (picked (flags w line.lists.groups.items) line.plan.groups.items) part.groups.items whole.groups.items
          (some_picked (flags v line.lists.groups.items)
          (flags w line.lists.groups.items) line.plan.groups.items groups_fewer) here.has_groups there.has_groups;
      flows = subst (λ xs. AreSome at.flow (IsFlowThere at) xs whole.flows.items) (sym here.has_flows)
          (subst (AreSome at.flow (IsFlowThere at) (filter_map flow_here (picked (flags v line.lists.flows.items) line.plan.flows.items))) (sym there.has_flows)
          (some_kept (IsFlowThere at) flow_here flow_in
          (flow_there at (unit_places line v) (unit_places line w) (group_places line v) (group_places line w) units_there groups_there)
          (flags v line.lists.flows.items) (flags w line.lists.flows.items) line.plan.flows.items flows_fewer));
      requests = subst (λ xs. AreSome at.request (IsRequestThere at) xs whole.requests.items) (sym here.has_requests)
          (subst (AreSome at.request (IsRequestThere at) (filter_map request_here (picked (flags v line.lists.requests.items) line.plan.requests.items)))
          (sym there.has_requests)
          (some_kept (IsRequestThere at) request_here request_in
          (request_there at (unit_places line v) (unit_places line w) (group_places line v) (group_places line w) units_there groups_there)
          (flags v line.lists.requests.items) (flags w line.lists.requests.items) line.plan.requests.items requests_fewer));
      keep_free = here.has_keep_free ∙ sym there.has_keep_free;
      strangers = here.has_strangers ∙ sym there.has_strangers;
      live = here.has_live ∙ sym there.has_live;
      timing = here.has_timing ∙ sym there.has_timing;
    }

pub is_part : (line : ProductLine) (v w : List ℕ) (part whole : Plan) → IsCoveredBy line v w → IsVariantPlan line v part → IsVariantPlan line w whole
    → IsPlanPart part whole
is_part line v w part whole covered here there = (at line v w covered, is_part_at line v w covered part whole here there)

-- On which condition an end of a flow is contested, where units move to no end of it.
use Rattle.std.proofs.Common.{◌≡◌, ◌⊎◌, ℕ, ◌<◌, ◌==◌, true, false, not, ◌&&◌, List, [], ◌∷◌, length, Some, refl, sym, ◌∙◌, ap, subst, inl, inr}
use Rattle.std.specs.List.{list_any, range_with_len, slice_get}
use Rattle.std.specs.Option.{option_map_or}
use Rattle.std.proofs.lemmas.Bool.{and_from, and_parts, cases_Bool, eq-eqb, eqb-true, not-true, not_from_false, or_cases, or_left, or_right, true≢false}
use Rattle.std.proofs.lemmas.Option.{same_Some, slice_get_within}
use Rattle.j39_id.specs.Addresses.{in_pool}
use Rattle.j39_findings.specs.Findings.{Holds, IsAloneInPlan, IsFlowContested}
use Rattle.j39_findings.specs.declared.checking.finding.Finding.TheVariants.{FlowContested}
use Rattle.j39_network.proofs.Served.{Decides-is_to}
use Rattle.j39_network.specs.Serving.{is_to}
use Rattle.j39_network.specs.declared.plan.Plan.{Plan}
use Rattle.j39_network.specs.declared.plan.flow_plan.FlowPlan.{FlowPlan}
use Rattle.j39_network.specs.declared.plan.to.To.{To}
use Rattle.j39_network.specs.declared.plan.to.To.TheVariants.{All, One}
use Rattle.j39_network.specs.declared.plan.unit_plan.UnitPlan.{UnitPlan}
use Rattle.j39_search.proofs.Members.{all_at}
use Rattle.j39_variants.specs.VariantPlans.{IsVariantPlan}
use Rattle.j39_variants.specs.declared.line.ProductLine.{ProductLine}
use Rattle.j39_part_laws.specs.PlanParts.{IsFlowThere, IsPartAt, IsSame, Places, to_in}
use Rattle.j39_part_laws.proofs.Places.{same_there, value_at}
use Rattle.j39_load.specs.LineLists.{lines_of_each}
use Rattle.j39_line_findings.specs.Conditions.{Condition, conditions_of_plan, contested_by, contested_conditions, is_beside_end, meets_any, meets_condition}
use Rattle.j39_line_findings.specs.Conditions.{where_together}
use Rattle.j39_line_findings.specs.MissedNeeds.{is_unit_there}
use Rattle.j39_line_findings.specs.There.{is_flow_there}
use Rattle.j39_line_findings.specs.FlowEnds.{are_at_one_address, are_ends_in_pool, has_end_in_pool, has_pool_address, is_end, is_end_in_pool}
use Rattle.j39_line_findings.specs.declared.part.LinePart.TheVariants.{Unit as AUnit, Flow}
use Rattle.j39_line_findings.proofs.Tests.{any_at}
use Rattle.j39_line_laws.proofs.Contested.{beside_or_alone, not_alone}
use Rattle.j39_line_laws.proofs.InPart.{one_back}
use Rattle.j39_line_laws.proofs.InWhole.{at, flow_there, is_part, unit_place, unit_there}
use Rattle.j39_line_laws.proofs.Tests.{at_passed, both_met, if_of, met_both, of_if, of_some, passed_at, range_any, range_none, some_of}

-- of each unit
abbrev contested_units : ProductLine → ℕ → FlowPlan → List Condition
contested_units line f flow = lines_of_each (λ u _. contested_by line f flow u) 0 line.plan.units.items

-- an end is planned at an address to which nothing moves
ends_outside : (line : ProductLine) (f : ℕ) (flow : FlowPlan) → slice_get line.plan.flows.items f ≡ Some flow → has_end_in_pool line f ≡ false
    → (e : ℕ) (unit : UnitPlan)
    → slice_get line.plan.units.items e ≡ Some unit → is_end flow e ≡ true → in_pool unit.address ≡ false
unfolding has_end_in_pool are_ends_in_pool
ends_outside line f flow at_f none e unit at_e ends =
    let no_end = range_none (is_end_in_pool line flow) (length line.plan.units.items)
    (sym (ap (λ o. option_map_or (λ x. list_any (is_end_in_pool line x) (range_with_len 0 (length line.plan.units.items))) o false) at_f) ∙ none) e
    (slice_get_within line.plan.units.items e unit at_e) in
    sym (ap (λ o. option_map_or (λ (u : UnitPlan). in_pool u.address) o false) at_e)
    ∙ elim (cases_Bool (has_pool_address line e)) [
      | inl pool ↦ absurd (true≢false (sym (and_from (is_end flow e) (has_pool_address line e) ends pool) ∙ no_end))
      | inr outside ↦ outside
    ]

module _ (line : ProductLine) (v : List ℕ) (plan : Plan) (is_plan : IsVariantPlan line v plan) where
  abbrev p : Places
  p = at line v

  is : IsPartAt p plan line.plan
  is = is_part line v plan is_plan

  unit_at_place : (i : ℕ) (x : UnitPlan) → slice_get plan.units.items i ≡ Some x → slice_get line.plan.units.items (p.unit i) ≡ Some x
  unit_at_place = same_there p.unit plan.units.items line.plan.units.items is.units

  one_place : (i j : ℕ) → p.unit i ≡ p.unit j → i ≡ j
  one_place = one_back p.unit IsSame plan.units.items line.plan.units.items is.units

  -- two units are planned at one address in the file, where they are in the plan of the variant
  at_one_address : (i j : ℕ) (x y : UnitPlan) → slice_get plan.units.items i ≡ Some x → slice_get plan.units.items j ≡ Some y
      → are_at_one_address line (p.unit i) (p.unit j) ≡ (x.address == y.address)
  at_one_address i j x y at_x at_y =
      ap (λ o. option_map_or (λ (unit : UnitPlan). option_map_or (λ (other : UnitPlan). unit.address == other.address)
      (slice_get line.plan.units.items (p.unit j)) false) o false)
      (unit_at_place i x at_x)
      ∙ ap (λ o. option_map_or (λ (other : UnitPlan). x.address == other.address) o false) (unit_at_place j y at_y)

  module _ (i : ℕ) (flow there : FlowPlan) (at_flow : slice_get plan.flows.items i ≡ Some flow)
      (at_there : slice_get line.plan.flows.items (p.flow i) ≡ Some there)
      (stands : IsFlowThere p flow there) where
    sender_below : flow.sender < length plan.units.items
    sender_below = all_at (λ (h : FlowPlan). h.sender < length plan.units.items) plan.flows.items plan.flow_senders i flow at_flow

    receiver_below : (r : ℕ) → flow.to ≡ One r → r < length plan.units.items
    receiver_below = all_at (λ (h : FlowPlan). (r : ℕ) → h.to ≡ One r → r < length plan.units.items) plan.flows.items plan.flow_receivers i flow at_flow

    sender_ends : is_end there (p.unit flow.sender) ≡ true
    sender_ends = or_left (there.sender == p.unit flow.sender) (is_to there.to (p.unit flow.sender)) (eq-eqb there.sender (p.unit flow.sender) stands.sender)

    receiver_ends : (r : ℕ) → flow.to ≡ One r → is_end there (p.unit r) ≡ true
    receiver_ends r to = or_right (there.sender == p.unit r) (is_to there.to (p.unit r))
        ((Decides-is_to there.to (p.unit r)).1 (stands.to ∙ ap (to_in p) to))

    -- ---- from the variant to the conditions

    module _ (live : line.plan.live ≡ true) (outside : has_end_in_pool line (p.flow i) ≡ false) where
      pub contested_at : (e : ℕ) → e < length plan.units.items → is_end there (p.unit e) ≡ true → ¬ IsAloneInPlan plan e
          → meets_any line v (conditions_of_plan line (FlowContested (p.flow i))) ≡ true
      contested_at e below ends contested =
          let (unit, at_e) = value_at plan.units.items e below in
          let at_end = unit_at_place e unit at_e in
          let beside = beside_or_alone plan e unit at_e (ends_outside line (p.flow i) there at_there outside (p.unit e) unit at_end ends) contested in
          let u = p.unit beside.place in
          let differs : (p.unit beside.place == p.unit e) ≡ false = elim (cases_Bool (p.unit beside.place == p.unit e)) [
            | inl same ↦ absurd (beside.differs (sym (one_place beside.place e (eqb-true (p.unit beside.place) (p.unit e) same))))
            | inr other ↦ other
          ] in
          let address = at_one_address beside.place e beside.other unit beside.other_is at_e ∙ eq-eqb beside.other.address unit.address beside.address in
          let is_beside : is_beside_end line there (p.unit beside.place) ≡ true = range_any
          (λ w. is_end there w && (not (p.unit beside.place == w) && are_at_one_address line (p.unit beside.place) w)) (length line.plan.units.items) (p.unit e)
          (slice_get_within line.plan.units.items (p.unit e) unit at_end)
          (and_from (is_end there (p.unit e)) (not (p.unit beside.place == p.unit e) && are_at_one_address line (p.unit beside.place) (p.unit e)) ends
          (and_from (not (p.unit beside.place == p.unit e)) (are_at_one_address line (p.unit beside.place) (p.unit e))
          (not_from_false (p.unit beside.place == p.unit e) differs) address)) in
          some_of (meets_condition line v) (contested_conditions line (p.flow i)) (slice_get line.plan.flows.items (p.flow i)) there at_there
          (if_of (meets_condition line v) (line.plan.live && not (has_end_in_pool line (p.flow i))) (contested_units line (p.flow i) there)
          (and_from line.plan.live (not (has_end_in_pool line (p.flow i))) live (not_from_false (has_end_in_pool line (p.flow i)) outside))
          (at_passed (meets_condition line v) (λ w _. contested_by line (p.flow i) there w) line.plan.units.items (p.unit beside.place) beside.other
          (unit_at_place beside.place beside.other beside.other_is)
          (if_of (meets_condition line v) (is_beside_end line there (p.unit beside.place))
          (where_together (Flow (p.flow i) ∷ AUnit (p.unit beside.place) ∷ [])) is_beside
          (both_met line v (Flow (p.flow i)) (AUnit (p.unit beside.place)) (flow_there line v plan is_plan i flow at_flow)
          (unit_there line v plan is_plan beside.place beside.other beside.other_is)))))

    -- ---- and back

    -- a unit of the plan at whose address another one is planned isn't alone
    beside_unit : (e u : ℕ) → e < length plan.units.items → (u == p.unit e) ≡ false → are_at_one_address line u (p.unit e) ≡ true
        → is_unit_there line v u ≡ true → ¬ IsAloneInPlan plan e
    beside_unit e u below differs address u_there =
        let (unit, at_e) = value_at plan.units.items e below in
        let its = unit_place line v plan is_plan u u_there in
        not_alone plan e unit at_e (record {
          place = its.i;
          other = its.value;
          other_is = its.value_is;
          differs = λ same. true≢false (sym (eq-eqb u (p.unit e) (sym its.place_is ∙ ap p.unit (sym same))) ∙ differs);
          address = eqb-true its.value.address unit.address (sym (at_one_address its.i e its.value unit its.value_is at_e)
              ∙ subst (λ w. are_at_one_address line w (p.unit e) ≡ true) (sym its.place_is) address);
        })

    contested_with : (e u : ℕ) → is_end there e ≡ true → (u == e) ≡ false → are_at_one_address line u e ≡ true → is_unit_there line v u ≡ true
        → (¬ IsAloneInPlan plan flow.sender) ⊎ ((r : ℕ) × (flow.to ≡ One r) × (¬ IsAloneInPlan plan r))
    contested_with e u ends differs address u_there = elim (or_cases (there.sender == e) (is_to there.to e) ends) [
      | inl sender ↦
          let is_e : e ≡ p.unit flow.sender = sym (eqb-true there.sender e sender) ∙ stands.sender in
          inl (beside_unit flow.sender u sender_below (subst (λ w. (u == w) ≡ false) is_e differs)
          (subst (λ w. are_at_one_address line u w ≡ true) is_e address) u_there)
      | inr receiver ↦ go flow.to refl (sym stands.to ∙ (Decides-is_to there.to e).0 receiver)
    ]
      where
        go : (t : To) → flow.to ≡ t → to_in p flow.to ≡ One e
            → (¬ IsAloneInPlan plan flow.sender) ⊎ ((r : ℕ) × (flow.to ≡ One r) × (¬ IsAloneInPlan plan r))
        go All is_t to = cc (ap (to_in p) is_t)
        go (One r) is_t to =
            let is_e : e ≡ p.unit r = let same : One e ≡ One (p.unit r) = sym to ∙ ap (to_in p) is_t in cc in
            inr (
              r,
              is_t,
              beside_unit r u (receiver_below r is_t) (subst (λ w. (u == w) ≡ false) is_e differs)
                  (subst (λ w. are_at_one_address line u w ≡ true) is_e address) u_there,
            )

    contested_here : meets_any line v (conditions_of_plan line (FlowContested (p.flow i))) ≡ true → IsFlowContested plan flow
    contested_here met =
        let its = of_some (meets_condition line v) (contested_conditions line (p.flow i)) (slice_get line.plan.flows.items (p.flow i)) met in
        let same : its.value ≡ there = same_Some its.value there (sym its.value_is ∙ at_there) in
        let (which, some) = of_if (meets_condition line v) (line.plan.live && not (has_end_in_pool line (p.flow i)))
        (contested_units line (p.flow i) its.value) its.passes in
        let by = passed_at (meets_condition line v) (λ w _. contested_by line (p.flow i) its.value w) line.plan.units.items some in
        let (beside, together) = of_if (meets_condition line v) (is_beside_end line its.value by.place)
        (where_together (Flow (p.flow i) ∷ AUnit by.place ∷ [])) by.passes in
        let (flow_is, unit_is) = met_both line v (Flow (p.flow i)) (AUnit by.place) together in
        let end = any_at (λ w. is_end its.value w && (not (by.place == w) && are_at_one_address line by.place w))
        (range_with_len 0 (length line.plan.units.items)) beside in
        let (ends, rest) = and_parts (is_end its.value end.value) (not (by.place == end.value) && are_at_one_address line by.place end.value) end.passes in
        let (differs, address) = and_parts (not (by.place == end.value)) (are_at_one_address line by.place end.value) rest in (
          is_plan.has_live ∙ (and_parts line.plan.live (not (has_end_in_pool line (p.flow i))) which).0,
          contested_with end.value by.place (subst (λ (x : FlowPlan). is_end x end.value ≡ true) same ends)
              (not-true (by.place == end.value) differs) address unit_is,
        )

  -- ---- at the places of flows

  pub contested_there : (i : ℕ) → Holds plan (FlowContested i) → has_end_in_pool line (p.flow i) ≡ false
      → meets_any line v (conditions_of_plan line (FlowContested (p.flow i))) ≡ true
  contested_there i holds outside =
      let its = is.flows.each i holds.value holds.value_is in
      let (live, which) = holds.meets in
      elim which [
        | inl sender ↦ contested_at i holds.value its.value holds.value_is its.value_is its.meets (sym is_plan.has_live ∙ live) outside holds.value.sender
            (sender_below i holds.value its.value holds.value_is its.value_is its.meets)
            (sender_ends i holds.value its.value holds.value_is its.value_is its.meets) sender
        | inr (r, to, receiver) ↦ contested_at i holds.value its.value holds.value_is its.value_is its.meets (sym is_plan.has_live ∙ live) outside r
            (receiver_below i holds.value its.value holds.value_is its.value_is its.meets r to)
            (receiver_ends i holds.value its.value holds.value_is its.value_is its.meets r to) receiver
      ]

  pub there_contested : (i : ℕ) (flow : FlowPlan) → slice_get plan.flows.items i ≡ Some flow
      → meets_any line v (conditions_of_plan line (FlowContested (p.flow i))) ≡ true → Holds plan (FlowContested i)
  there_contested i flow at_flow met =
      let its = is.flows.each i flow at_flow in
      record { value = flow; value_is = at_flow; meets = contested_here i flow its.value at_flow its.value_is its.meets met }

-- and the flow is there
pub contested_flow : (line : ProductLine) (v : List ℕ) (f : ℕ) → meets_any line v (conditions_of_plan line (FlowContested f)) ≡ true
    → is_flow_there line v f ≡ true
contested_flow line v f met =
    let its = of_some (meets_condition line v) (contested_conditions line f) (slice_get line.plan.flows.items f) met in
    let (which, some) = of_if (meets_condition line v) (line.plan.live && not (has_end_in_pool line f)) (contested_units line f its.value) its.passes in
    let by = passed_at (meets_condition line v) (λ w _. contested_by line f its.value w) line.plan.units.items some in
    let (beside, together) = of_if (meets_condition line v) (is_beside_end line its.value by.place) (where_together (Flow f ∷ AUnit by.place ∷ [])) by.passes in
    (met_both line v (Flow f) (AUnit by.place) together).0

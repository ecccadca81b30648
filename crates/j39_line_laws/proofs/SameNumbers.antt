-- On which condition two groups of one number are found.
use Rattle.std.proofs.Common.{◌≡◌, ◌⊎◌, ℕ, Bool, true, false, ◌&&◌, if◌then◌else◌, List, [], ◌∷◌, Some, refl, sym, ◌∙◌, ap, subst, inl, inr}
use Rattle.std.specs.List.{slice_get}
use Rattle.std.specs.Option.{option_map_or}
use Rattle.std.proofs.lemmas.Bool.{and_parts, cases_Bool, true≢false}
use Rattle.std.proofs.lemmas.Option.{same_Some}
use Rattle.j39_findings.specs.Findings.{AreSentTogether, DoReceiversMeet, Holds}
use Rattle.j39_findings.specs.Found.{sends, sends_beside}
use Rattle.j39_findings.specs.declared.checking.finding.Finding.TheVariants.{SamePgn}
use Rattle.j39_network.specs.PlannedFlows.{Sends}
use Rattle.j39_network.specs.declared.plan.Plan.{Plan}
use Rattle.j39_network.specs.declared.plan.flow_plan.FlowPlan.{FlowPlan}
use Rattle.j39_network.specs.declared.plan.group_plan.GroupPlan.{GroupPlan}
use Rattle.j39_variants.specs.VariantPlans.{IsVariantPlan}
use Rattle.j39_variants.specs.declared.line.ProductLine.{ProductLine}
use Rattle.j39_part_laws.specs.PlanParts.{IsGroupThere, IsPartAt, Places}
use Rattle.j39_part_laws.proofs.Findings.{receivers_there, sends_there}
use Rattle.j39_load.specs.LineLists.{lines_of_each}
use Rattle.j39_line_findings.specs.Conditions.{Condition, conditions_of_groups, is_private, meets_any, meets_condition, sent_together, sent_with, sent_with_any}
use Rattle.j39_line_findings.specs.Conditions.{where_together}
use Rattle.j39_line_findings.specs.MissedNeeds.{is_group_there}
use Rattle.j39_line_findings.specs.There.{is_flow_there}
use Rattle.j39_line_findings.specs.declared.part.LinePart.TheVariants.{Group, Flow}
use Rattle.j39_line_laws.proofs.InPart.{same_pgn_found, sent_found}
use Rattle.j39_line_laws.proofs.InWhole.{at, flow_place, flow_there, group_there, is_part}
use Rattle.j39_line_laws.proofs.SentTogether.{sending, sending_beside}
use Rattle.j39_line_laws.proofs.Tests.{at_passed, both_met, four_met, if_of, met_both, met_four, of_if, of_some, passed_at, some_of}

-- what two groups are reported by, where both are private
pub record AreSentWith (line : ProductLine) (v : List ℕ) (g h : ℕ) : Type 0 where
  pub group : GroupPlan
  pub group_is : slice_get line.plan.groups.items g ≡ Some group
  pub other : GroupPlan
  pub other_is : slice_get line.plan.groups.items h ≡ Some other
  pub f : ℕ
  pub flow : FlowPlan
  pub flow_is : slice_get line.plan.flows.items f ≡ Some flow
  pub k : ℕ
  pub beside : FlowPlan
  pub beside_is : slice_get line.plan.flows.items k ≡ Some beside
  pub sends_first : Sends line.plan.groups.items group flow
  pub sends_second : (beside.sender ≡ flow.sender) × Sends line.plan.groups.items other beside × DoReceiversMeet group other flow beside
  pub group_there : is_group_there line v g ≡ true
  pub other_there : is_group_there line v h ≡ true
  pub flow_there : is_flow_there line v f ≡ true
  pub beside_there : is_flow_there line v k ≡ true

module _ (line : ProductLine) (v : List ℕ) (g h : ℕ) where
  abbrev those : List GroupPlan
  those = line.plan.groups.items

  -- behind the first flow
  abbrev behind_first : GroupPlan → GroupPlan → ℕ → FlowPlan → List Condition
  behind_first group other f flow = lines_of_each (sent_with line g h group other f flow) 0 line.plan.flows.items

  with_groups : meets_any line v (option_map_or (λ group. option_map_or (sent_together line g h group) (slice_get those h) []) (slice_get those g) []) ≡ true
      → AreSentWith line v g h
  with_groups met =
      let one = of_some (meets_condition line v) (λ group. option_map_or (sent_together line g h group) (slice_get those h) []) (slice_get those g) met in
      let other = of_some (meets_condition line v) (sent_together line g h one.value) (slice_get those h) one.passes in
      let first = passed_at (meets_condition line v) (sent_with_any line g h one.value other.value) line.plan.flows.items other.passes in
      let (sends_one, more) = of_if (meets_condition line v) (sends those one.value first.value)
      (behind_first one.value other.value first.place first.value) first.passes in
      let second = passed_at (meets_condition line v) (sent_with line g h one.value other.value first.place first.value) line.plan.flows.items more in
      let (sends_other, met_all) = of_if (meets_condition line v) (sends_beside those one.value other.value first.value second.value)
      (where_together (Group g ∷ Group h ∷ Flow first.place ∷ Flow second.place ∷ [])) second.passes in
      let there = met_four line v (Group g) (Group h) (Flow first.place) (Flow second.place) met_all in
      record {
        group = one.value;
        group_is = one.value_is;
        other = other.value;
        other_is = other.value_is;
        f = first.place;
        flow = first.value;
        flow_is = first.value_is;
        k = second.place;
        beside = second.value;
        beside_is = second.value_is;
        sends_first = (sending those one.value first.value).0 sends_one;
        sends_second = (sending_beside those one.value other.value first.value second.value).0 sends_other;
        group_there = there.0;
        other_there = there.1;
        flow_there = there.2;
        beside_there = there.3;
      }

  groups_with : AreSentWith line v g h
      → meets_any line v (option_map_or (λ group. option_map_or (sent_together line g h group) (slice_get those h) []) (slice_get those g) []) ≡ true
  groups_with its =
      some_of (meets_condition line v) (λ group. option_map_or (sent_together line g h group) (slice_get those h) []) (slice_get those g) its.group its.group_is
      (some_of (meets_condition line v) (sent_together line g h its.group) (slice_get those h) its.other its.other_is
      (at_passed (meets_condition line v) (sent_with_any line g h its.group its.other) line.plan.flows.items its.f its.flow its.flow_is
      (if_of (meets_condition line v) (sends those its.group its.flow) (behind_first its.group its.other its.f its.flow)
      ((sending those its.group its.flow).1 its.sends_first)
      (at_passed (meets_condition line v) (sent_with line g h its.group its.other its.f its.flow) line.plan.flows.items its.k its.beside its.beside_is
      (if_of (meets_condition line v) (sends_beside those its.group its.other its.flow its.beside)
      (where_together (Group g ∷ Group h ∷ Flow its.f ∷ Flow its.k ∷ []))
      ((sending_beside those its.group its.other its.flow its.beside).1 its.sends_second)
      (four_met line v (Group g) (Group h) (Flow its.f) (Flow its.k) its.group_there its.other_there its.flow_there its.beside_there))))))

  -- the groups are there
  pub groups_of : meets_any line v (conditions_of_groups line g h) ≡ true → (is_group_there line v g ≡ true) × (is_group_there line v h ≡ true)
  groups_of = by (is_private line g && is_private line h)
    where
      by : (b : Bool) → meets_any line v (if b
          then option_map_or (λ group. option_map_or (sent_together line g h group) (slice_get those h) []) (slice_get those g) []
          else where_together (Group g ∷ Group h ∷ [])) ≡ true → (is_group_there line v g ≡ true) × (is_group_there line v h ≡ true)
      by true met = let its = with_groups met in (its.group_there, its.other_there)
      by false met = met_both line v (Group g) (Group h) met

-- of a group of the file
private_is : (line : ProductLine) (g : ℕ) (group : GroupPlan) → slice_get line.plan.groups.items g ≡ Some group → is_private line g ≡ group.private
private_is line g group at_g = ap (λ o. option_map_or (λ (x : GroupPlan). x.private) o false) at_g

module _ (line : ProductLine) (v : List ℕ) (plan : Plan) (is_plan : IsVariantPlan line v plan) where
  abbrev p : Places
  p = at line v

  is : IsPartAt p plan line.plan
  is = is_part line v plan is_plan

  -- ---- from the variant to the conditions

  pub same_pgn_there : (i j : ℕ) → Holds plan (SamePgn i j) → meets_any line v (conditions_of_groups line (p.group i) (p.group j)) ≡ true
  same_pgn_there i j holds = by (is_private line (p.group i) && is_private line (p.group j)) refl
    where
      one_there : is_group_there line v (p.group i) ≡ true
      one_there = group_there line v plan is_plan i holds.first holds.first_is

      other_there : is_group_there line v (p.group j) ≡ true
      other_there = group_there line v plan is_plan j holds.second holds.second_is

      with_flows : AreSentTogether plan.groups.items plan.flows.items holds.first holds.second → AreSentWith line v (p.group i) (p.group j)
      with_flows (a, first) =
          let (b, second) = first.meets.1 in
          let g = is.groups.each i holds.first holds.first_is in
          let h = is.groups.each j holds.second holds.second_is in
          let x = is.flows.each a first.value first.value_is in
          let y = is.flows.each b second.value second.value_is in
          record {
            group = g.value;
            group_is = g.value_is;
            other = h.value;
            other_is = h.value_is;
            f = p.flow a;
            flow = x.value;
            flow_is = x.value_is;
            k = p.flow b;
            beside = y.value;
            beside_is = y.value_is;
            sends_first = sends_there p plan line.plan is holds.first g.value g.meets first.value x.value x.meets first.meets.0;
            sends_second = (
              y.meets.sender ∙ ap p.unit second.meets.0 ∙ sym x.meets.sender,
              sends_there p plan line.plan is holds.second h.value h.meets second.value y.value y.meets second.meets.1,
              receivers_there p plan line.plan is holds.first holds.second g.value h.value g.meets h.meets first.value second.value x.value y.value x.meets y.meets
                  second.meets.2,
            );
            group_there = one_there;
            other_there = other_there;
            flow_there = flow_there line v plan is_plan a first.value first.value_is;
            beside_there = flow_there line v plan is_plan b second.value second.value_is;
          }

      is_not : (k : ℕ) (x : GroupPlan) → slice_get plan.groups.items k ≡ Some x → is_private line (p.group k) ≡ true → x.private ≡ false → ⊥
      is_not k x at_x private public =
          let there = is.groups.each k x at_x in
          true≢false (sym private ∙ private_is line (p.group k) there.value there.value_is ∙ there.meets.private ∙ public)

      by : (b : Bool) → (is_private line (p.group i) && is_private line (p.group j)) ≡ b → meets_any line v (if b
          then option_map_or (λ group. option_map_or (sent_together line (p.group i) (p.group j) group) (slice_get line.plan.groups.items (p.group j)) [])
          (slice_get line.plan.groups.items (p.group i)) []
          else where_together (Group (p.group i) ∷ Group (p.group j) ∷ [])) ≡ true
      by false either = both_met line v (Group (p.group i)) (Group (p.group j)) one_there other_there
      by true both =
          let (one_private, other_private) = and_parts (is_private line (p.group i)) (is_private line (p.group j)) both in
          elim holds.related.2 [
            | inl public ↦ absurd (is_not i holds.first holds.first_is one_private public)
            | inr (inl public) ↦ absurd (is_not j holds.second holds.second_is other_private public)
            | inr (inr together) ↦ groups_with line v (p.group i) (p.group j) (with_flows together)
          ]

  -- ---- and back

  pub there_same_pgn : (i j : ℕ) (g h : GroupPlan) → slice_get plan.groups.items i ≡ Some g → slice_get plan.groups.items j ≡ Some h
      → Holds line.plan (SamePgn (p.group i) (p.group j)) → meets_any line v (conditions_of_groups line (p.group i) (p.group j)) ≡ true
      → Holds plan (SamePgn i j)
  there_same_pgn i j g h at_g at_h holds = by (is_private line (p.group i) && is_private line (p.group j)) refl
    where
      found_with : (Also : GroupPlan → GroupPlan → Type 0)
          → ((x y : GroupPlan) → IsGroupThere g x → IsGroupThere h y → Also x y
          → (g.private ≡ false) ⊎ ((h.private ≡ false) ⊎ AreSentTogether plan.groups.items plan.flows.items g h))
          → Also holds.first holds.second → Holds plan (SamePgn i j)
      found_with Also which also = same_pgn_found p plan line.plan is i j g h at_g at_h Also which (record {
        first = holds.first;
        second = holds.second;
        below = holds.below;
        first_is = holds.first_is;
        second_is = holds.second_is;
        related = (holds.related, also);
      })

      public_one : (x y : GroupPlan) → IsGroupThere g x → IsGroupThere h y → (x.private && y.private) ≡ false
          → (g.private ≡ false) ⊎ ((h.private ≡ false) ⊎ AreSentTogether plan.groups.items plan.flows.items g h)
      public_one x y same also either = elim (cases_Bool x.private) [
        | inr public ↦ inl (sym same.private ∙ public)
        | inl private ↦ inr (inl (sym also.private ∙ sym (ap (λ b. b && y.private) private) ∙ either))
      ]

      sent_both : (its : AreSentWith line v (p.group i) (p.group j)) → (x y : GroupPlan) → IsGroupThere g x → IsGroupThere h y → (x ≡ its.group)
          × (y ≡ its.other)
          → (g.private ≡ false) ⊎ ((h.private ≡ false) ⊎ AreSentTogether plan.groups.items plan.flows.items g h)
      sent_both its x y same also (is_x, is_y) =
          let a = flow_place line v plan is_plan its.f its.flow_there in
          let b = flow_place line v plan is_plan its.k its.beside_there in
          inr (inr (sent_found p plan line.plan is a.i b.i a.value b.value a.value_is b.value_is g h its.group its.other (subst (IsGroupThere g) is_x same)
          (subst (IsGroupThere h) is_y also) (record {
            value = its.flow;
            value_is = ap (slice_get line.plan.flows.items) a.place_is ∙ its.flow_is;
            meets = (
              its.sends_first,
              record {
                value = its.beside;
                value_is = ap (slice_get line.plan.flows.items) b.place_is ∙ its.beside_is;
                meets = its.sends_second;
              },
            );
          })))

      by : (b : Bool) → (is_private line (p.group i) && is_private line (p.group j)) ≡ b → meets_any line v (if b
          then option_map_or (λ group. option_map_or (sent_together line (p.group i) (p.group j) group) (slice_get line.plan.groups.items (p.group j)) [])
          (slice_get line.plan.groups.items (p.group i)) []
          else where_together (Group (p.group i) ∷ Group (p.group j) ∷ [])) ≡ true → Holds plan (SamePgn i j)
      by false either met = found_with (λ x y. (x.private && y.private) ≡ false) public_one
          (ap (λ b. b && holds.second.private) (sym (private_is line (p.group i) holds.first holds.first_is))
          ∙ ap (λ b. is_private line (p.group i) && b) (sym (private_is line (p.group j) holds.second holds.second_is)) ∙ either)
      by true both met =
          let its = with_groups line v (p.group i) (p.group j) met in
          found_with (λ x y. (x ≡ its.group) × (y ≡ its.other)) (sent_both its)
          (same_Some _ _ (sym holds.first_is ∙ its.group_is), same_Some _ _ (sym holds.second_is ∙ its.other_is))

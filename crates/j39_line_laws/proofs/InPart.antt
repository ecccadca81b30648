-- What is found of the whole is found of a part in which it has its places.
use Rattle.std.proofs.Common.{◌≡◌, ℕ, ◌<◌, ◌⊎◌, false, List, length, Some, refl, sym, ◌∙◌, ap, subst, inl, inr, arith}
use Rattle.std.specs.List.{slice_get}
use Rattle.std.proofs.lemmas.Bool.{cases_eq, cases_lt}
use Rattle.std.proofs.lemmas.Option.{same_Some}
use Rattle.j39_findings.specs.Findings.{AreSentTogether, AskForOneNumber, AskTheSame, CannotGoToOne, DoReceiversMeet, GoesToItsSender, HaveSamePgn}
use Rattle.j39_network.specs.PlannedFlows.{AreOneFlow, IsOneFrameToAll, Sends}
use Rattle.j39_network.specs.declared.plan.Plan.{Plan}
use Rattle.j39_network.specs.declared.plan.flow_plan.FlowPlan.{FlowPlan}
use Rattle.j39_network.specs.declared.plan.group_plan.GroupPlan.{GroupPlan}
use Rattle.j39_network.specs.declared.plan.request_plan.RequestPlan.{RequestPlan}
use Rattle.j39_network.specs.declared.plan.to.To.{To}
use Rattle.j39_network.specs.declared.plan.to.To.TheVariants.{All, One}
use Rattle.j39_network.specs.declared.plan.unit_plan.UnitPlan.{UnitPlan}
use Rattle.j39_signal.specs.Selectors.{DifferInValue}
use Rattle.j39_search.specs.ListPlaces.{PairAt, ValueAt}
use Rattle.j39_search.proofs.Members.{all_at}
use Rattle.j39_part_laws.specs.PlanParts.{AreSome, IsFlowThere, IsGroupThere, IsPartAt, IsRequestThere, IsSame, Places, to_in}
use Rattle.j39_part_laws.proofs.Groups.{may_be_one_frame, one_frame}
use Rattle.j39_part_laws.proofs.Places.{apart, value_at}

-- ---- some values of a list

module _ {A : Type 0} (place : ℕ → ℕ) (Stands : A → A → Type 0) (some all : List A) (are : AreSome place Stands some all) where
  pub value_back : (P Q : A → Type 0) (i : ℕ) (x : A) → slice_get some i ≡ Some x → ((y : A) → Stands x y → Q y → P x) → ValueAt Q all (place i)
      → ValueAt P some i
  value_back P Q i x at over found =
      let there = are.each i x at in
      record {
        value = x;
        value_is = at;
        meets = over there.value there.meets (subst Q (same_Some _ _ (sym found.value_is ∙ there.value_is)) found.meets);
      }

  pub pair_back : (R S : A → A → Type 0) (i j : ℕ) (x y : A) → slice_get some i ≡ Some x → slice_get some j ≡ Some y
      → ((z w : A) → Stands x z → Stands y w → S z w → R x y) → PairAt S all (place i) (place j) → PairAt R some i j
  pair_back R S i j x y at_i at_j over found =
      let one = are.each i x at_i in
      let other = are.each j y at_j in
      record {
        first = x;
        second = y;
        below = elim (cases_lt i j) [
          | inl below ↦ below
          | inr above ↦ elim (cases_eq i j) [
            | inl same ↦ let less = found.below in let e = ap place same in absurd (omega (arith, less, e))
            | inr differ ↦ let less = found.below in let rise = are.rises j i (omega (arith, above, differ)) in absurd (omega (arith, less, rise))
          ]
        ];
        first_is = at_i;
        second_is = at_j;
        related = over one.value other.value one.meets other.meets
            (subst (λ z. S z other.value) (same_Some _ _ (sym found.first_is ∙ one.value_is))
            (subst (S found.first) (same_Some _ _ (sym found.second_is ∙ other.value_is)) found.related));
      }

  -- places that are one in the whole are one in the part
  pub one_back : (i j : ℕ) → place i ≡ place j → i ≡ j
  one_back i j same = elim (cases_eq i j) [
    | inl equal ↦ equal
    | inr differ ↦ absurd (apart place Stands some all are i j differ same)
  ]

-- a group that stands there is the one here
pub group_same : (g h : GroupPlan) → IsGroupThere g h → IsGroupThere h g
group_same g h is = grind (arith, is)

module _ (at : Places) (part whole : Plan) (is : IsPartAt at part whole) where
  pub one_unit : (i j : ℕ) → at.unit i ≡ at.unit j → i ≡ j
  one_unit = one_back at.unit IsSame part.units.items whole.units.items is.units

  pub one_group : (i j : ℕ) → at.group i ≡ at.group j → i ≡ j
  one_group = one_back at.group IsGroupThere part.groups.items whole.groups.items is.groups

  -- ---- units

  pub unit_back : (P : UnitPlan → Type 0) (i : ℕ) (x : UnitPlan) → slice_get part.units.items i ≡ Some x → ValueAt P whole.units.items (at.unit i)
      → ValueAt P part.units.items i
  unit_back P i x at_x = value_back at.unit IsSame part.units.items whole.units.items is.units P P i x at_x (λ y same. subst P (sym same))

  pub units_back : (R : UnitPlan → UnitPlan → Type 0) (i j : ℕ) (x y : UnitPlan) → slice_get part.units.items i ≡ Some x → slice_get part.units.items j ≡ Some y
      → PairAt R whole.units.items (at.unit i) (at.unit j) → PairAt R part.units.items i j
  units_back R i j x y at_x at_y = pair_back at.unit IsSame part.units.items whole.units.items is.units R R i j x y at_x at_y
      (λ z w one other related. subst (λ a. R a y) (sym one) (subst (R z) (sym other) related))

  -- ---- groups

  pub group_back : (P Q : GroupPlan → Type 0) → ((g h : GroupPlan) → IsGroupThere h g → Q h → P g) → (i : ℕ) (x : GroupPlan)
      → slice_get part.groups.items i ≡ Some x → ValueAt Q whole.groups.items (at.group i) → ValueAt P part.groups.items i
  group_back P Q over i x at_x =
      value_back at.group IsGroupThere part.groups.items whole.groups.items is.groups P Q i x at_x (λ y same. over x y (group_same x y same))

  -- that of the group which something of the part names
  named_back : (P Q : GroupPlan → Type 0) → ((g h : GroupPlan) → IsGroupThere h g → Q h → P g) → (i k : ℕ) → i < length part.groups.items → k ≡ at.group i
      → ValueAt Q whole.groups.items k → ValueAt P part.groups.items i
  named_back P Q over i k below is_k found =
      let (g, at_g) = value_at part.groups.items i below in
      group_back P Q over i g at_g (subst (ValueAt Q whole.groups.items) is_k found)

  -- ---- receivers

  one_receiver : (t u : To) → to_in at t ≡ to_in at u → t ≡ u
  one_receiver All All same = refl
  one_receiver All (One v) same = cc
  one_receiver (One u) All same = cc
  one_receiver (One u) (One v) same = ap One (one_unit u v (same_one (at.unit u) (at.unit v) same))
    where
      same_one : (a b : ℕ) → One a ≡ One b → a ≡ b
      same_one a b equal = cc

  to_all_back : (t : To) → to_in at t ≡ All → t ≡ All
  to_all_back All same = refl
  to_all_back (One u) same = cc

  to_one_back : (t : To) (r : ℕ) → to_in at t ≡ One r → (u : ℕ) × (t ≡ One u)
  to_one_back All r same = cc
  to_one_back (One u) r same = (u, refl)

  -- ---- flows

  module _ (i : ℕ) (x : FlowPlan) (at_x : slice_get part.flows.items i ≡ Some x) where
    flow_back : (P Q : FlowPlan → Type 0) → ((y : FlowPlan) → IsFlowThere at x y → Q y → P x) → ValueAt Q whole.flows.items (at.flow i)
        → ValueAt P part.flows.items i
    flow_back P Q = value_back at.flow (IsFlowThere at) part.flows.items whole.flows.items is.flows P Q i x at_x

    -- the group that it sends
    sent_back : (P Q : GroupPlan → Type 0) → ((g h : GroupPlan) → IsGroupThere h g → Q h → P g) → (y : FlowPlan) → IsFlowThere at x y
        → ValueAt Q whole.groups.items y.group → ValueAt P part.groups.items x.group
    sent_back P Q over y stands =
        named_back P Q over x.group y.group (all_at (λ (f : FlowPlan). f.group
        < length part.groups.items) part.flows.items part.flow_groups i x at_x) stands.group

    sends_back : (g v : GroupPlan) → IsGroupThere g v → (y : FlowPlan) → IsFlowThere at x y → Sends whole.groups.items v y → Sends part.groups.items g x
    sends_back g v same = sent_back (λ sent. sent.label.bytes ≡ g.label.bytes) (λ sent. sent.label.bytes ≡ v.label.bytes)
        (λ sent there one label. one.label ∙ label ∙ same.label)

    pub to_one_found : ValueAt (CannotGoToOne whole.groups.items) whole.flows.items (at.flow i) → ValueAt (CannotGoToOne part.groups.items) part.flows.items i
    to_one_found = flow_back (CannotGoToOne part.groups.items) (CannotGoToOne whole.groups.items) (λ y stands ((receiver, to), sent).
        (to_one_back x.to receiver (sym stands.to ∙ to), sent_back IsOneFrameToAll IsOneFrameToAll (λ g h same. one_frame h g same) y stands sent))

    pub to_self_found : ValueAt GoesToItsSender whole.flows.items (at.flow i) → ValueAt GoesToItsSender part.flows.items i
    to_self_found = flow_back GoesToItsSender GoesToItsSender (λ y stands to.
        one_receiver x.to (One x.sender) (sym stands.to ∙ to ∙ ap One stands.sender))

  module _ (i j : ℕ) (f k : FlowPlan) (at_f : slice_get part.flows.items i ≡ Some f) (at_k : slice_get part.flows.items j ≡ Some k) where
    pub repeated_found : PairAt AreOneFlow whole.flows.items (at.flow i) (at.flow j) → PairAt AreOneFlow part.flows.items i j
    repeated_found = pair_back at.flow (IsFlowThere at) part.flows.items whole.flows.items is.flows AreOneFlow AreOneFlow i j f k at_f at_k
        (λ x y one other (group, sender, to). (
          one_group f.group k.group (sym one.group ∙ group ∙ other.group),
          one_unit f.sender k.sender (sym one.sender ∙ sender ∙ other.sender),
          one_receiver f.to k.to (sym one.to ∙ to ∙ other.to),
        ))

  receivers_back : (g h v w : GroupPlan) → IsGroupThere g v → IsGroupThere h w → (f k x y : FlowPlan) → IsFlowThere at f x → IsFlowThere at k y
      → DoReceiversMeet v w x y → DoReceiversMeet g h f k
  receivers_back g h v w same also f k x y one other (inl to) = inl (to_all_back f.to (sym one.to ∙ to))
  receivers_back g h v w same also f k x y one other (inr (inl to)) = inr (inl (to_all_back k.to (sym other.to ∙ to)))
  receivers_back g h v w same also f k x y one other (inr (inr (inl equal))) = inr (inr (inl (one_receiver f.to k.to (sym one.to ∙ equal ∙ other.to))))
  receivers_back g h v w same also f k x y one other (inr (inr (inr short))) =
      inr (inr (inr (may_be_one_frame v g (group_same g v same) short.0, may_be_one_frame w h (group_same h w also) short.1)))

  -- ---- groups of one number

  module _ (i j : ℕ) (f k : FlowPlan) (at_f : slice_get part.flows.items i ≡ Some f) (at_k : slice_get part.flows.items j ≡ Some k) where
    -- two flows of the part which send both in the whole
    pub sent_found : (g h v w : GroupPlan) → IsGroupThere g v → IsGroupThere h w
        → ValueAt (λ x. Sends whole.groups.items v x × ValueAt (λ y. (y.sender ≡ x.sender) × Sends whole.groups.items w y
        × DoReceiversMeet v w x y) whole.flows.items (at.flow j))
        whole.flows.items (at.flow i) → AreSentTogether part.groups.items part.flows.items g h
    sent_found g h v w same also found = (
      i,
      flow_back i f at_f (λ x. Sends part.groups.items g x
          × ((q : ℕ) × ValueAt (λ y. (y.sender ≡ x.sender) × Sends part.groups.items h y × DoReceiversMeet g h x y) part.flows.items q))
          (λ x. Sends whole.groups.items v x × ValueAt (λ y. (y.sender ≡ x.sender) × Sends whole.groups.items w y × DoReceiversMeet v w x y) whole.flows.items
          (at.flow j))
          (λ x one (first, second). (
            sends_back i f at_f g v same x one first,
            (
              j,
              flow_back j k at_k (λ y. (y.sender ≡ f.sender) × Sends part.groups.items h y × DoReceiversMeet g h f y)
                  (λ y. (y.sender ≡ x.sender) × Sends whole.groups.items w y × DoReceiversMeet v w x y)
                  (λ y other (sender, sends, meet). (
                    one_unit k.sender f.sender (sym other.sender ∙ sender ∙ one.sender),
                    sends_back j k at_k h w also y other sends,
                    receivers_back g h v w same also f k x y one other meet,
                  )) second,
            ),
          )) found,
    )

  module _ (i j : ℕ) (g h : GroupPlan) (at_g : slice_get part.groups.items i ≡ Some g) (at_h : slice_get part.groups.items j ≡ Some h) where
    -- where one of them isn't private, or a unit of the part sends both
    pub same_pgn_found : (Also : GroupPlan → GroupPlan → Type 0)
        → ((v w : GroupPlan) → IsGroupThere g v → IsGroupThere h w → Also v w
        → (g.private ≡ false) ⊎ ((h.private ≡ false) ⊎ AreSentTogether part.groups.items part.flows.items g h))
        → PairAt (λ v w. HaveSamePgn whole.groups.items whole.flows.items v w × Also v w) whole.groups.items (at.group i) (at.group j)
        → PairAt (HaveSamePgn part.groups.items part.flows.items) part.groups.items i j
    same_pgn_found Also which = pair_back at.group IsGroupThere part.groups.items whole.groups.items is.groups (HaveSamePgn part.groups.items part.flows.items)
        (λ v w. HaveSamePgn whole.groups.items whole.flows.items v w × Also v w) i j g h at_g at_h (λ v w same also ((number, alike, _), more). (
          sym same.pgn ∙ number ∙ also.pgn,
          subst (λ x. ¬ DifferInValue x h.when) same.when (subst (λ x. ¬ DifferInValue v.when x) also.when alike),
          which v w same also more,
        ))

  -- ---- requests

  module _ (i j : ℕ) (r s : RequestPlan) (at_r : slice_get part.requests.items i ≡ Some r) (at_s : slice_get part.requests.items j ≡ Some s) where
    group_of : (k : ℕ) (q : RequestPlan) → slice_get part.requests.items k ≡ Some q → q.group < length part.groups.items
    group_of = all_at (λ (q : RequestPlan). q.group < length part.groups.items) part.requests.items part.request_groups

    one_number : (x y : RequestPlan) → IsRequestThere at r x → IsRequestThere at s y → AskForOneNumber whole.groups.items x y
        → AskForOneNumber part.groups.items r s
    one_number x y one other = named_back (λ g. ValueAt (λ h. g.pgn ≡ h.pgn) part.groups.items s.group)
        (λ v. ValueAt (λ w. v.pgn ≡ w.pgn) whole.groups.items y.group)
        (λ g v same. named_back (λ h. g.pgn ≡ h.pgn) (λ w. v.pgn ≡ w.pgn) (λ h w also number. same.pgn ∙ number ∙ sym also.pgn) s.group y.group
        (group_of j s at_s) other.group)
        r.group x.group (group_of i r at_r) one.group

    pub asked_found : PairAt (AskTheSame whole.groups.items) whole.requests.items (at.request i) (at.request j)
        → PairAt (AskTheSame part.groups.items) part.requests.items i j
    asked_found = pair_back at.request (IsRequestThere at) part.requests.items whole.requests.items is.requests (AskTheSame part.groups.items)
        (AskTheSame whole.groups.items) i j r s at_r at_s (λ x y one other (number, sender, to). (
          one_number x y one other number,
          one_unit r.sender s.sender (sym one.sender ∙ sender ∙ other.sender),
          one_receiver r.to s.to (sym one.to ∙ to ∙ other.to),
        ))
